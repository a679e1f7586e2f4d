-- Demand 2's last sentence, of the definitions: an accepted file written back is the same bytes, and a good record written and read back is the
-- same record. Also: what is read is a good record, and no file is longer than 4,574 bytes.
use mathlib.Core.Path.{◌≡◌, refl, sym, ap, ◌∙◌, subst}
use mathlib.Core.Bool.{Bool, true, false, cond, ◌&&◌}
use mathlib.Core.List.{List, [], ◌∷◌, ◌++◌, map, flatten}
use Prim.Native.Nat.{ℕ, ◌+◌, ◌*◌, ◌-◌, ◌≤◌}
use native.Mathlib.Nat.{lt_of_le_of_lt}
use native.Mathlib.Omega.{arith}
use lib.Dec.{eqb, leb, lit≤}
use lib.ListN.{length, take, drop, replicate, length-map, length-append}
use lib.Seq.{length-take-le, take_at}
use borrow.Author.Tests.{eqb-true, eqb-false, eq-eqb, ne_eqb}
use Rattle.query.specs.declared.Dependency.{Dependency}
use Rattle.query.specs.declared.JoinDependency.{JoinDependency}
use Rattle.query.specs.declared.CodePair.{CodePair}
use Rattle.query.specs.declared.Place.{Place}
use Rattle.record.specs.declared.Record.{Record}
use Rattle.record.specs.View.{schema_of}
use Rattle.lists.specs.Tests.{every}
use Rattle.record.specs.Rule.{good_record}
use Rattle.query.specs.Rule.{good_relations, good_dependencies, good_join, good_joins, blank_join, good_query, head_safe, blank_query, good_place, no_join, no_place}
use Rattle.query.specs.Rule.{all_fit, blank_pair, no_pair, good_codes, shaped_query, shaped_join}
use Rattle.query.proofs.Good as good
use Rattle.refusals.specs.Refusals.{◌>>=◌, bad_code, bad_dependency, bad_join, bad_relations, gives}
use Rattle.format.specs.Bytes.{Bytes}
use Rattle.lists.specs.Over.{pad}
use Rattle.format.specs.Format.{Reading, none, got, Format, Lawful, byte, sequence, such_that}
use Rattle.format.specs.Parts.{relations, code_pairs, codes, dependencies, unused_join, joins, query}
use Rattle.format.specs.File.{complete, directory, assemble, read_places, record_with, read_parts, read_all, read_file, put_place, up_to_filled, parts_of}
use Rattle.format.specs.File.{front, no_codes, read_codes, put_codes, no_joins, read_joins, put_joins, file_of, shaped}
use Rattle.lists.proofs.Tests.{and_left, and_right, and_both, and-iff, every_take, every_drop, every-both, every-weaken, every-replicate, every-same}
use Rattle.lists.proofs.Tests.{every-append-is}
use Rattle.lists.proofs.Loops.{replicate-drop}
use Rattle.format.proofs.Bytes.{bytes-append}
use Rattle.lists.proofs.Over.{pad-is, length-pad}
use Rattle.format.proofs.Parts.{Narrow, relations-lawful, blank-pair, codes-lawful, dependencies-lawful, unused-join, joins-lawful}
use Rattle.format.proofs.Rules.{relations-good, good-relations, good-narrow, codes-good, good-codes, dependencies-good, good-dependencies, joins-good, good-joins}
use Rattle.format.proofs.Directory.{directory-assemble, assemble-directory, length-assemble}
use Rattle.format.proofs.Lengths.{take_short, length-relations, length-codes, length-dependencies, joins-short, query-short}
use Rattle.refusals.proofs.Refusals.{refused-gives}
use Rattle.format.proofs.Results.{bind_ok, complete-put, complete-get}
use Rattle.format.proofs.Places.{sound, read-places, places-read, pad-places, up_to-fits, no-sound}

-- The rule of a record, part by part, with its arrays' lengths
pub record SoundRecord (r : Record) : Type 0 where
  pub relations : good_relations r.relations r.widths ≡ true
  pub codes : good_codes r.coded r.codes ≡ true
  pub dependencies : good_dependencies (schema_of r) r.held r.dependencies ≡ true
  pub joins : good_joins (schema_of r) r.joined r.joins ≡ true
  pub places : every (sound (schema_of r)) r.places ≡ true
  pub widths-long : length r.widths ≡ 8
  pub codes-long : length r.codes ≡ 16
  pub dependencies-long : length r.dependencies ≡ 32
  pub joins_long : length r.joins ≡ 4
  pub sets-long : every shaped_join r.joins ≡ true
  pub places-long : length r.places ≡ 8

pub sound-record : (r : Record) → good_record r ≡ true → shaped r ≡ true → SoundRecord r
unfolding good_record
sound-record r h s =
    let k : ((((good_relations r.relations r.widths ≡ true) × (good_codes r.coded r.codes ≡ true))
    × (good_dependencies (schema_of r) r.held r.dependencies ≡ true))
    × (good_joins (schema_of r) r.joined r.joins ≡ true)) × (every (good_place (schema_of r)) r.places ≡ true) = simp and-iff at h in
    let l : ((((((eqb (length r.widths) 8 ≡ true) × (eqb (length r.codes) 16 ≡ true)) × (eqb (length r.dependencies) 32 ≡ true))
    × (eqb (length r.joins) 4 ≡ true))
    × (every shaped_join r.joins ≡ true)) × (eqb (length r.places) 8 ≡ true)) × (every (λ p. shaped_query p.query) r.places ≡ true) =
    simp and-iff at s in
    record {
      relations = k.0.0.0.0;
      codes = k.0.0.0.1;
      dependencies = k.0.0.1;
      joins = k.0.1;
      places = every-both (good_place (schema_of r)) (λ p. shaped_query p.query) r.places k.1 l.1;
      widths-long = eqb-true (length r.widths) 8 l.0.0.0.0.0.0;
      codes-long = eqb-true (length r.codes) 16 l.0.0.0.0.0.1;
      dependencies-long = eqb-true (length r.dependencies) 32 l.0.0.0.0.1;
      joins_long = eqb-true (length r.joins) 4 l.0.0.0.1;
      sets-long = l.0.0.1;
      places-long = eqb-true (length r.places) 8 l.0.1;
    }

pub sound-good : (r : Record) → SoundRecord r → (good_record r ≡ true) × (shaped r ≡ true)
unfolding good_record
sound-good r k =
    let good : every (good_place (schema_of r)) r.places ≡ true =
    every-weaken (sound (schema_of r)) (good_place (schema_of r)) (λ p g. and_left (good_place (schema_of r) p) (shaped_query p.query) g) r.places k.places
    in
    let long : every (λ p. shaped_query p.query) r.places ≡ true =
    every-weaken (sound (schema_of r)) (λ p. shaped_query p.query) (λ p g. and_right (good_place (schema_of r) p) (shaped_query p.query) g) r.places
    k.places in (
      and_both _ _ (and_both _ _ (and_both _ _ (and_both _ _ k.relations k.codes) k.dependencies) k.joins) good,
      and_both _ _
          (and_both _ _
          (and_both _ _
          (and_both _ _
          (and_both _ _ (and_both _ _ (eq-eqb (length r.widths) 8 k.widths-long) (eq-eqb (length r.codes) 16 k.codes-long))
          (eq-eqb (length r.dependencies) 32 k.dependencies-long))
          (eq-eqb (length r.joins) 4 k.joins_long))
          k.sets-long)
          (eq-eqb (length r.places) 8 k.places-long))
          long,
    )

-- ---- pairs of codes

-- no byte is left where none is held, and the array is blank then
none-coded : (cs : ℕ × List CodePair) → cs.0 ≡ 0 → length cs.1 ≡ 16 → good_codes cs.0 cs.1 ≡ true → cs ≡ no_codes
unfolding good_codes
none-coded cs empty l h =
    let k : ((leb cs.0 16 ≡ true) × (all_fit (take cs.0 cs.1) ≡ true)) × (every blank_pair (drop cs.0 cs.1) ≡ true) = simp and-iff at h in
    let blank : every blank_pair cs.1 ≡ true = subst (λ (n : ℕ). every blank_pair (drop n cs.1) ≡ true) empty k.1 in
    let same : cs.1 ≡ replicate 16 no_pair = every-same blank_pair no_pair blank-pair cs.1 blank ∙ ap (λ (n : ℕ). replicate n no_pair) l in
    λ i. (empty i, same i)

some_codes : (cs : ℕ × List CodePair) → read_codes (codes.put cs) ≡ complete bad_code (codes.get (codes.put cs))
unfolding read_codes codes such_that code_pairs sequence byte
some_codes cs = refl

-- what is written of them is read back
codes-read : (cs : ℕ × List CodePair) → length cs.1 ≡ 16 → good_codes cs.0 cs.1 ≡ true → read_codes (put_codes cs) ≡ gives cs
unfolding put_codes read_codes
codes-read cs l h = go (eqb cs.0 0) refl
  where
    go : (t : Bool) → eqb cs.0 0 ≡ t → read_codes (cond t [] (codes.put cs)) ≡ gives cs
    go true e = ap gives (sym (none-coded cs (eqb-true cs.0 0 e) l h))
    go false e =
        let some : 1 ≤ cs.0 = omega (arith, eqb-false cs.0 0 e) in
        some_codes cs ∙ complete-put bad_code codes codes-lawful cs (codes-good cs.0 cs.1 some l h)

-- and what is read was good and is written as the same bytes
read-codes : (bytes : List ℕ) (cs : ℕ × List CodePair) → Bytes bytes → read_codes bytes ≡ gives cs
    → (length cs.1 ≡ 16) × (good_codes cs.0 cs.1 ≡ true) × (put_codes cs ≡ bytes)
unfolding read_codes put_codes good_codes all_fit every
read-codes [] cs b e = let same : no_codes ≡ cs = cc in rw (← same) (refl, refl, refl)
read-codes (x ∷ bytes) cs b e =
    let (good, put) = complete-get bad_code codes codes-lawful (x ∷ bytes) cs b e in
    let (some, l, h) = good-codes cs good in
    (l, h, rw (ne_eqb cs.0 0 (λ z. omega arith)) put)

-- ---- join dependencies

-- no byte is left where none is held, and the array is blank then
none-held : (schema : List ℕ) (js : ℕ × List JoinDependency) → js.0 ≡ 0 → length js.1 ≡ 4 → every shaped_join js.1 ≡ true
    → good_joins schema js.0 js.1 ≡ true → js ≡ no_joins
unfolding good_joins
none-held schema js empty l s h =
    let k : (leb js.0 4 ≡ true) × ((every (good_join schema) (take js.0 js.1) ≡ true) × (every blank_join (drop js.0 js.1) ≡ true)) =
    simp and-iff at h in
    let blank : every blank_join js.1 ≡ true = subst (λ (n : ℕ). every blank_join (drop n js.1) ≡ true) empty k.1.1 in
    let unused : every unused_join js.1 ≡ true = every-both shaped_join blank_join js.1 s blank in
    let same : js.1 ≡ replicate 4 no_join = every-same unused_join no_join unused-join js.1 unused ∙ ap (λ (n : ℕ). replicate n no_join) l in
    λ i. (empty i, same i)

no_bytes : (schema : List ℕ) → read_joins schema [] ≡ gives no_joins
unfolding read_joins
no_bytes schema = refl

some_bytes : (schema : List ℕ) (js : ℕ × List JoinDependency)
    → read_joins schema ((joins schema).put js) ≡ complete bad_join ((joins schema).get ((joins schema).put js))
unfolding read_joins joins sequence byte
some_bytes schema js = refl

-- what is written of them is read back
joins-read : (schema : List ℕ) (js : ℕ × List JoinDependency) → length js.1 ≡ 4 → every shaped_join js.1 ≡ true
    → good_joins schema js.0 js.1 ≡ true → read_joins schema (put_joins schema js) ≡ gives js
unfolding put_joins
joins-read schema js l s h = go (eqb js.0 0) refl
  where
    go : (t : Bool) → eqb js.0 0 ≡ t → read_joins schema (cond t [] ((joins schema).put js)) ≡ gives js
    go true e = no_bytes schema ∙ ap gives (sym (none-held schema js (eqb-true js.0 0 e) l s h))
    go false e =
        let some : 1 ≤ js.0 = omega (arith, eqb-false js.0 0 e) in
        some_bytes schema js ∙ complete-put bad_join (joins schema) (joins-lawful schema) js (joins-good schema js.0 js.1 some l s h)

-- and what is read was good and is written as the same bytes
read-joins : (schema : List ℕ) (bytes : List ℕ) (js : ℕ × List JoinDependency) → Bytes bytes → read_joins schema bytes ≡ gives js
    → (length js.1 ≡ 4) × (every shaped_join js.1 ≡ true) × (good_joins schema js.0 js.1 ≡ true) × (put_joins schema js ≡ bytes)
unfolding read_joins put_joins good_joins every
read-joins schema [] js b e = let same : no_joins ≡ js = cc in rw (← same) (refl, refl, refl, refl)
read-joins schema (x ∷ bytes) js b e =
    let (good, put) = complete-get bad_join (joins schema) (joins-lawful schema) (x ∷ bytes) js b e in
    let (some, l, s, h) = good-joins schema js good in
    (l, s, h, rw (ne_eqb js.0 0 (λ z. omega arith)) put)

-- a part that begins with a good value
front-put : {A : Type 0} (n : ℕ) (f : Format A) → Lawful f → (a : A) (rest : List ℕ) → f.good a ≡ true → front n (f.get (f.put a ++ rest)) ≡ gives (a, rest)
unfolding front
front-put n f lf a rest h = rw (lf.get-put a rest h)

front-get : {A : Type 0} (n : ℕ) (f : Format A) → Lawful f → (part : List ℕ) (p : A × List ℕ) → Bytes part → front n (f.get part) ≡ gives p
    → (f.good p.0 ≡ true) × (f.put p.0 ++ p.1 ≡ part)
unfolding front
front-get n f lf part p hb e = go (f.get part) refl e
  where
    go : (o : Reading _) → f.get part ≡ o → front n o ≡ gives p → (f.good p.0 ≡ true) × (f.put p.0 ++ p.1 ≡ part)
    go none eo e = absurd (refused-gives e)
    go (got a rest) eo e =
        let first : a ≡ p.0 = cc in
        let second : rest ≡ p.1 = cc in
        rw (← first, ← second) (lf.put-get part a rest hb eo)

-- ---- a record written and read back

pub parts-read : (r : Record) → SoundRecord r → read_all (parts_of r) ≡ gives r
unfolding read_all parts_of read_parts ◌>>=◌
parts-read r k =
    let coded : List ℕ = put_codes (r.coded, r.codes) in
    let e₀ : front bad_relations (relations.get (relations.put (r.relations, r.widths) ++ coded)) ≡ gives ((r.relations, r.widths), coded) =
    front-put bad_relations relations relations-lawful (r.relations, r.widths) coded (relations-good r.relations r.widths k.widths-long k.relations)
    in
    let e₅ : read_codes coded ≡ gives (r.coded, r.codes) = codes-read (r.coded, r.codes) k.codes-long k.codes in
    let tail : List ℕ = put_joins (schema_of r) (r.joined, r.joins) in
    let e₁ : front bad_dependency ((dependencies (schema_of r)).get ((dependencies (schema_of r)).put (r.held, r.dependencies) ++ tail))
    ≡ gives ((r.held, r.dependencies), tail) =
    front-put bad_dependency (dependencies (schema_of r)) (dependencies-lawful (schema_of r)) (r.held, r.dependencies) tail
    (dependencies-good (schema_of r) r.held r.dependencies k.dependencies-long k.dependencies) in
    let e₄ : read_joins (schema_of r) tail ≡ gives (r.joined, r.joins) =
    joins-read (schema_of r) (r.joined, r.joins) k.joins_long k.sets-long k.joins in
    let e₂ = places-read (schema_of r) (good-narrow r.relations r.widths k.relations) r.places k.places in
    let e₃ : pad 8 no_place (take (up_to_filled r.places) r.places) ≡ r.places = pad-places (schema_of r) r.places k.places k.places-long in
    rw (e₀, e₅, e₁, e₄, e₂)
    (λ i.
    gives
    (record {
      relations = r.relations;
      widths = r.widths;
      coded = r.coded;
      codes = r.codes;
      held = r.held;
      dependencies = r.dependencies;
      joined = r.joined;
      joins = r.joins;
      places = e₃ i;
    }))

-- ---- an accepted file written back

-- places that were read, and blank ones after them
sound-places : (schema : List ℕ) (ps : List Place) → every (sound schema) ps ≡ true → every (sound schema) (pad 8 no_place ps) ≡ true
sound-places schema ps h =
    let t : every (sound schema) (drop (length ps) (replicate 8 no_place)) ≡ true =
    every_drop (sound schema) (length ps) (replicate 8 no_place) (every-replicate (sound schema) 8 no_place (no-sound schema)) in
    ap (every (sound schema)) (pad-is 8 no_place ps) ∙ every-append-is (sound schema) ps (drop (length ps) (replicate 8 no_place)) ∙ and_both _ _ h t

-- what is written of them is what was read
take_places : (ps : List Place) → ((k : ℕ) → up_to_filled (ps ++ replicate k no_place) ≡ length ps) → take (up_to_filled (pad 8 no_place ps)) (pad 8 no_place ps) ≡ ps
take_places ps last =
    let n : up_to_filled (ps ++ drop (length ps) (replicate 8 no_place)) ≡ length ps = rw replicate-drop (last (8 - length ps)) in
    rw (pad-is 8 no_place ps, n) (take_at ps (drop (length ps) (replicate 8 no_place)) (length ps) refl)

-- the record of good parts
read-fields : (part0 part1 : List ℕ) (parts : List (List ℕ)) (rs : (ℕ × List ℕ) × List ℕ) (cs : ℕ × List CodePair) (ds : (ℕ × List Dependency) × List ℕ)
    (js : ℕ × List JoinDependency) (ps : List Place) → Bytes part0 → Bytes part1 → Bytes (flatten parts) → length parts ≤ 8
    → front bad_relations (relations.get part0) ≡ gives rs → read_codes rs.1 ≡ gives cs
    → front bad_dependency ((dependencies (take rs.0.0 rs.0.1)).get part1) ≡ gives ds
    → read_joins (take rs.0.0 rs.0.1) ds.1 ≡ gives js → read_places (take rs.0.0 rs.0.1) parts ≡ gives ps
    → SoundRecord (record_with rs.0 cs ds.0 js ps) × (parts_of (record_with rs.0 cs ds.0 js ps) ≡ part0 ∷ part1 ∷ parts)
unfolding parts_of
read-fields part0 part1 parts rs cs ds js ps b₀ b₁ b few e₀ e₄ e₁ e₃ e₂ =
    let schema : List ℕ = take rs.0.0 rs.0.1 in
    let (g₀, w₀) = front-get bad_relations relations relations-lawful part0 rs b₀ e₀ in
    let (g₁, w₁) = front-get bad_dependency (dependencies schema) (dependencies-lawful schema) part1 ds b₁ e₁ in
    let (l₀, k₀) = good-relations rs.0 g₀ in
    let (l₄, k₄, w₄) = read-codes rs.1 cs (bytes-append (relations.put rs.0) rs.1 (rw w₀ b₀)).1 e₄ in
    let (l₁, k₁) = good-dependencies schema ds.0 g₁ in
    let (l₃, s₃, k₃, w₃) = read-joins schema ds.1 js (bytes-append ((dependencies schema).put ds.0) ds.1 (rw w₁ b₁)).1 e₃ in
    let narrow : Narrow schema = good-narrow rs.0.0 rs.0.1 k₀ in
    let (g₂, w₂, last) = read-places schema narrow parts ps b e₂ in
    let lp : length ps ≡ length parts = sym (length-map ps (put_place schema)) ∙ ap length w₂ in
    let fits : length ps ≤ 8 = omega arith in
    let cut : take (up_to_filled (pad 8 no_place ps)) (pad 8 no_place ps) ≡ ps = take_places ps last in (
      record {
        relations = k₀;
        codes = k₄;
        dependencies = k₁;
        joins = k₃;
        places = sound-places schema ps g₂;
        widths-long = l₀;
        codes-long = l₄;
        dependencies-long = l₁;
        joins_long = l₃;
        sets-long = s₃;
        places-long = length-pad 8 no_place ps fits;
      },
      rw (w₄, w₀, w₃, w₁, cut, w₂),
    )

read-parts : (part0 part1 : List ℕ) (parts : List (List ℕ)) (r : Record) → Bytes part0 → Bytes part1 → Bytes (flatten parts) → length parts ≤ 8
    → read_parts part0 part1 parts ≡ gives r → SoundRecord r × (parts_of r ≡ part0 ∷ part1 ∷ parts)
unfolding read_parts
read-parts part0 part1 parts r b₀ b₁ b few e =
    let (rs, e₀, f₀) =
    bind_ok (front bad_relations (relations.get part0))
    (λ rs. read_codes rs.1 >>=
    (λ cs. front bad_dependency ((dependencies (take rs.0.0 rs.0.1)).get part1) >>=
    (λ ds. read_joins (take rs.0.0 rs.0.1) ds.1 >>=
    (λ js. read_places (take rs.0.0 rs.0.1) parts >>= (λ ps. gives (record_with rs.0 cs ds.0 js ps)))))) r e in
    let (cs, e₄, f₄) =
    bind_ok (read_codes rs.1)
    (λ cs. front bad_dependency ((dependencies (take rs.0.0 rs.0.1)).get part1) >>=
    (λ ds. read_joins (take rs.0.0 rs.0.1) ds.1 >>=
    (λ js. read_places (take rs.0.0 rs.0.1) parts >>= (λ ps. gives (record_with rs.0 cs ds.0 js ps))))) r f₀ in
    let (ds, e₁, f₁) =
    bind_ok (front bad_dependency ((dependencies (take rs.0.0 rs.0.1)).get part1))
    (λ ds. read_joins (take rs.0.0 rs.0.1) ds.1 >>=
    (λ js. read_places (take rs.0.0 rs.0.1) parts >>= (λ ps. gives (record_with rs.0 cs ds.0 js ps)))) r f₄ in
    let (js, e₃, f₃) =
    bind_ok (read_joins (take rs.0.0 rs.0.1) ds.1)
    (λ js. read_places (take rs.0.0 rs.0.1) parts >>= (λ ps. gives (record_with rs.0 cs ds.0 js ps))) r f₁ in
    let (ps, e₂, f₂) = bind_ok (read_places (take rs.0.0 rs.0.1) parts) (λ ps. gives (record_with rs.0 cs ds.0 js ps)) r f₃ in
    let same : record_with rs.0 cs ds.0 js ps ≡ r = cc in
    subst (λ (r : Record). SoundRecord r × (parts_of r ≡ part0 ∷ part1 ∷ parts)) {x = record_with rs.0 cs ds.0 js ps} same
    (read-fields part0 part1 parts rs cs ds js ps b₀ b₁ b few e₀ e₄ e₁ e₃ e₂)

-- ---- lengths

parts-two : (r : Record) → 2 ≤ length (parts_of r)
unfolding parts_of
parts-two r = omega arith

parts-few : (r : Record) → SoundRecord r → length (parts_of r) ≤ 10
unfolding parts_of
parts-few r k =
    let n : length (map (put_place (schema_of r)) (take (up_to_filled r.places) r.places)) ≡ up_to_filled r.places =
    length-map (take (up_to_filled r.places) r.places) (put_place (schema_of r))
    ∙ length-take-le (up_to_filled r.places) r.places (up_to-fits r.places) in
    omega (arith, up_to-fits r.places, k.places-long)

place_short : (schema : List ℕ) (p : Place) → Narrow schema → sound schema p ≡ true → length (put_place schema p) ≤ 534
unfolding put_place
place_short schema p hn h = go p.filled (and_left (good_place schema p) (shaped_query p.query) h)
  where
    go : (t : Bool) → cond t (good_query schema p.query && head_safe schema p.query) (blank_query p.query) ≡ true
        → length (cond t ((query schema).put p.query) (255 ∷ [])) ≤ 534
    go true g =
        let q = good.good-query 12 schema p.query (and_left (good_query schema p.query) (head_safe schema p.query) g) in
        query-short 12 schema p.query hn q.arity q.size
    go false g = lit≤ tt

join-short : (schema : List ℕ) (places : List Place) → Narrow schema → every (sound schema) places ≡ true
    → length (flatten (map (put_place schema) places)) ≤ 534 * length places
unfolding flatten every
join-short schema [] hn h = lit≤ tt
join-short schema (p ∷ ps) hn h =
    let ih : length (flatten (map (put_place schema) ps)) ≤ 534 * length ps = join-short schema ps hn (and_right (sound schema p) (every (sound schema) ps) h) in
    rw (length-append (put_place schema p) (flatten (map (put_place schema) ps)))
    (omega (arith, place_short schema p hn (and_left (sound schema p) (every (sound schema) ps) h)))

codes-short : (cs : ℕ × List CodePair) → length cs.1 ≡ 16 → length (put_codes cs) ≤ 129
unfolding put_codes
codes-short cs l = go (eqb cs.0 0)
  where
    go : (t : Bool) → length (cond t [] (codes.put cs)) ≤ 129
    go true = lit≤ tt
    go false = omega (arith, length-codes cs.0 cs.1, lib.ListN.length-take cs.0 cs.1)

tail-short : (schema : List ℕ) (js : ℕ × List JoinDependency) → length js.1 ≡ 4 → every shaped_join js.1 ≡ true → length (put_joins schema js) ≤ 25
unfolding put_joins
tail-short schema js l s = go (eqb js.0 0)
  where
    go : (t : Bool) → length (cond t [] ((joins schema).put js)) ≤ 25
    go true = lit≤ tt
    go false = omega (arith, joins-short schema js.0 js.1 s)

file-short : (r : Record) → SoundRecord r → length (assemble (parts_of r)) ≤ 4574
unfolding parts_of flatten
file-short r k =
    let schema : List ℕ = schema_of r in
    let narrow : Narrow schema = good-narrow r.relations r.widths k.relations in
    let n : ℕ = up_to_filled r.places in
    let ps : List (List ℕ) = map (put_place schema) (take n r.places) in
    let widths : List ℕ = relations.put (r.relations, r.widths) in
    let coded : List ℕ = put_codes (r.coded, r.codes) in
    let part0 : List ℕ = widths ++ coded in
    let held : List ℕ = (dependencies schema).put (r.held, r.dependencies) in
    let tail : List ℕ = put_joins schema (r.joined, r.joins) in
    let part1 : List ℕ = held ++ tail in
    let lp : length ps ≤ 8 =
    omega (arith, length-map (take n r.places) (put_place schema), take_short n r.places, up_to-fits r.places, k.places-long) in
    let l₄ : length widths ≤ 9 = omega (arith, length-relations r.relations r.widths, lib.ListN.length-take r.relations r.widths, k.widths-long) in
    let l₀ : length part0 ≤ 138 = omega (arith, length-append widths coded, codes-short (r.coded, r.codes) k.codes-long) in
    let l₃ : length held ≤ 97 =
    omega (arith, length-dependencies schema r.held r.dependencies, lib.ListN.length-take r.held r.dependencies, k.dependencies-long) in
    let l₁ : length part1 ≤ 122 = omega (arith, length-append held tail, tail-short schema (r.joined, r.joins) k.joins_long k.sets-long) in
    let l₂ : length (flatten ps) ≤ 534 * length ps =
    rw (length-map (take n r.places) (put_place schema)) (join-short schema (take n r.places) narrow (every_take (sound schema) n r.places k.places))
    in
    let e : length (part0 ++ (part1 ++ flatten ps)) ≡ length part0 + (length part1 + length (flatten ps)) = simp length-append in
    omega (arith, length-assemble (part0 ∷ part1 ∷ ps))

-- ---- the theorems

-- a file has at least the count's two bytes, so its parts are split as the reader takes them
split_parts : (parts : List (List ℕ)) (r : Record) → Bytes (flatten parts) → length parts ≤ 10 → read_all parts ≡ gives r → SoundRecord r × (parts_of r ≡ parts)
unfolding read_all flatten
split_parts [] r b few e = absurd (refused-gives e)
split_parts (part0 ∷ []) r b few e = absurd (refused-gives e)
split_parts (part0 ∷ part1 ∷ parts) r b few e =
    let (b₀, b') = bytes-append part0 (part1 ++ flatten parts) b in
    let (b₁, b₂) = bytes-append part1 (flatten parts) b' in
    read-parts part0 part1 parts r b₀ b₁ b₂ (omega arith) e

-- An accepted file gives a good record, and written back it is the same bytes
pub file-written-back : (file : List ℕ) (r : Record) → Bytes file → read_file file ≡ gives r → (good_record r ≡ true) × (shaped r ≡ true) × (file_of r ≡ file)
unfolding read_file file_of
file-written-back file r hb e =
    let (parts, e₀, e₁) = bind_ok (directory file) read_all r e in
    let (same, low, high, b) = assemble-directory file parts hb e₀ in
    let (k, p) = split_parts parts r b high e₁ in
    let (good, long) = sound-good r k in
    (good, long, ap assemble p ∙ same)

-- A good record written and read back is the same record; every written file is accepted
pub record-read-back : (r : Record) → good_record r ≡ true → shaped r ≡ true → read_file (file_of r) ≡ gives r
unfolding read_file file_of ◌>>=◌
record-read-back r h s =
    let k : SoundRecord r = sound-record r h s in
    let few : length (parts_of r) ≤ 10 = parts-few r k in
    let e : directory (assemble (parts_of r)) ≡ gives (parts_of r) =
    directory-assemble (parts_of r) (parts-two r) few (lt_of_le_of_lt (file-short r k) (lit≤ tt)) in
    rw e (parts-read r k)

-- No file is longer than 4,574 bytes
pub file-fits : (r : Record) → good_record r ≡ true → shaped r ≡ true → length (file_of r) ≤ 4574
unfolding file_of
file-fits r h s = file-short r (sound-record r h s)
