-- The parts of a good record: their lengths, and the file as directory and parts.
use mathlib.Core.Path.{◌≡◌, refl, ap, ◌∙◌}
use mathlib.Core.Bool.{true}
use mathlib.Core.List.{List, ◌∷◌, ◌++◌, map, append_assoc, flat_map, flatten}
use Prim.Native.Nat.{ℕ, suc, ◌+◌, ◌*◌, ◌≤◌}
use native.Mathlib.Omega.{arith}
use lib.ListN.{length, take, length-append, length-map}
use lib.Seq.{length-take-le}
use Rattle.record.specs.declared.Record.{Record}
use Rattle.record.specs.View.{schema_of}
use Rattle.record.specs.Rule.{good_record}
use Rattle.format.specs.Bytes.{bytes_of}
use Rattle.format.specs.Format.{byte, sequence, padded, such_that}
use Rattle.format.specs.Parts.{relations, code_pair, code_pairs, codes, dependency, dependencies, join, joins}
use Rattle.format.specs.File.{table_of, assemble, put_codes, put_joins, put_place, up_to_filled, parts_of, file_of}
use Rattle.format.proofs.Numbers.{length-bytes}
use Rattle.format.proofs.Directory.{length-table}
use Rattle.format.proofs.Lengths.{length-flat_map, length-relations}
use Rattle.assembly.specs.internal.Pieces.{codes_bytes, codes_long, put_dependency, dependency_bytes, joins_bytes, directory_bytes, part_bytes}
use Rattle.record.proofs.Good.{good-record}
use Rattle.assembly.proofs.Codes.{codes-length}
use Rattle.query.proofs.Relations.{relations-bounds}

module _ (r : Record) (good : good_record r ≡ true) where
  module _ (lw : length r.widths ≡ 8) (lc : length r.codes ≡ 16) (ld : length r.dependencies ≡ 32) where
    pub first-long : length (relations.put (r.relations, r.widths)) ≡ 1 + r.relations
    first-long =
        length-relations r.relations r.widths
        ∙ ap (λ (n : ℕ). 1 + n) (length-take-le r.relations r.widths
        (omega (arith, (relations-bounds r.relations r.widths (good-record r good).relations).1)))

    pub codes-long : length (codes_bytes r.coded r.codes) ≡ codes_long r.coded
    codes-long = codes-length r.coded r.codes (omega (arith, (good-record r good).coded))

    -- part 0 with the pairs of codes
    abbrev pub first_length : ℕ
    first_length = 1 + r.relations + codes_long r.coded

    first-whole : length (relations.put (r.relations, r.widths) ++ codes_bytes r.coded r.codes) ≡ first_length
    first-whole = omega (arith, length-append (relations.put (r.relations, r.widths)) (codes_bytes r.coded r.codes), first-long, codes-long)

    pub second-long : length (dependency_bytes r.held r.dependencies) ≡ 1 + 3 * r.held
    second-long =
        let e : length (flat_map put_dependency (take r.held r.dependencies)) ≡ 3 * length (take r.held r.dependencies) =
        length-flat_map put_dependency 3 (λ d. refl) (take r.held r.dependencies) in
        let k : length (take r.held r.dependencies) ≡ r.held = length-take-le r.held r.dependencies (omega (arith, (good-record r good).held)) in
        omega arith

    -- part 1 with the join dependencies
    abbrev pub second_length : ℕ
    second_length = 1 + 3 * r.held + length (joins_bytes r.joined r.joins)

    second-whole : length (dependency_bytes r.held r.dependencies ++ joins_bytes r.joined r.joins) ≡ second_length
    second-whole =
        length-append (dependency_bytes r.held r.dependencies) (joins_bytes r.joined r.joins)
        ∙ ap (λ (k : ℕ). k + length (joins_bytes r.joined r.joins)) second-long

    pub parts-long : (n : ℕ) → length (part_bytes r n) ≡ first_length + second_length + length (flatten (map (put_place (schema_of r)) (take n r.places)))
    parts-long n =
        let a : List ℕ = relations.put (r.relations, r.widths) in
        let k : List ℕ = codes_bytes r.coded r.codes in
        let b : List ℕ = dependency_bytes r.held r.dependencies in
        let j : List ℕ = joins_bytes r.joined r.joins in
        let c : List ℕ = flatten (map (put_place (schema_of r)) (take n r.places)) in
        omega (
          arith,
          length-append (a ++ k ++ b ++ j) c,
          length-append (a ++ k ++ b) j,
          length-append (a ++ k) b,
          length-append a k,
          first-long,
          codes-long,
          second-long,
        )

    parts_are : (n : ℕ) → n ≡ up_to_filled r.places
        → parts_of r ≡ (relations.put (r.relations, r.widths) ++ codes_bytes r.coded r.codes) ∷ (dependency_bytes r.held r.dependencies ++ joins_bytes r.joined r.joins)
        ∷ map (put_place (schema_of r)) (take n r.places)
    unfolding parts_of put_codes codes such_that code_pairs code_pair dependencies sequence byte padded dependency put_joins joins join
    parts_are n e = rw e

    -- the file is the directory and the parts
    pub file-split : (n : ℕ) → n ≡ up_to_filled r.places → n ≤ length r.places
        → file_of r ≡ directory_bytes n first_length second_length (map (put_place (schema_of r)) (take n r.places)) ++ part_bytes r n
    unfolding file_of assemble table_of flatten
    file-split n e l =
        let ps : List (List ℕ) = map (put_place (schema_of r)) (take n r.places) in
        let few : length ps ≡ n = length-map (take n r.places) (put_place (schema_of r)) ∙ length-take-le n r.places l in
        let m : suc (suc n) ≡ n + 2 = omega arith in
        ap assemble (parts_are n e) ∙ rw (few, m, first-whole, second-whole) (simp append_assoc)

    -- the file's length
    pub file-long : (n others : ℕ) → n ≡ up_to_filled r.places → n ≤ length r.places
        → others ≡ length (flatten (map (put_place (schema_of r)) (take n r.places)))
        → (length (directory_bytes n first_length second_length (map (put_place (schema_of r)) (take n r.places))) ≡ 2 + 4 * (n + 2))
        × (2 + 4 * (n + 2) + first_length + second_length + others ≡ length (file_of r))
    file-long n others e l eo =
        let ps : List (List ℕ) = map (put_place (schema_of r)) (take n r.places) in
        let few : length ps ≡ n = length-map (take n r.places) (put_place (schema_of r)) ∙ length-take-le n r.places l in
        let start : ℕ = 2 + 4 * (n + 2) in
        let table : List ℕ = table_of (start + first_length + second_length) ps in
        let d₁ : List ℕ = bytes_of 2 (n + 2) in
        let d₂ : List ℕ = bytes_of 2 start in
        let d₃ : List ℕ = bytes_of 2 first_length in
        let d₄ : List ℕ = bytes_of 2 (start + first_length) in
        let d₅ : List ℕ = bytes_of 2 second_length in
        let dir : length (d₁ ++ d₂ ++ d₃ ++ d₄ ++ d₅ ++ table) ≡ start =
        omega (
          arith,
          length-append (d₁ ++ d₂ ++ d₃ ++ d₄ ++ d₅) table,
          length-append (d₁ ++ d₂ ++ d₃ ++ d₄) d₅,
          length-append (d₁ ++ d₂ ++ d₃) d₄,
          length-append (d₁ ++ d₂) d₃,
          length-append d₁ d₂,
          length-bytes 2 (n + 2),
          length-bytes 2 start,
          length-bytes 2 first_length,
          length-bytes 2 (start + first_length),
          length-bytes 2 second_length,
          length-table (start + first_length + second_length) ps,
        ) in
        (dir, omega (arith, ap length (file-split n e l), length-append (d₁ ++ d₂ ++ d₃ ++ d₄ ++ d₅ ++ table) (part_bytes r n), dir, parts-long n, eo))
