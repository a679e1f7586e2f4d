-- What comparing leaves. Assumes nothing.
use mathlib.Core.Path.{◌≡◌, refl, sym, subst}
use mathlib.Core.Bool.{Bool, true, false, cond, ◌&&◌}
use mathlib.Core.List.{List, []}
use Prim.Native.Nat.{ℕ}
use lib.Dec.{eqb, leb, ltb}
use lib.ListN.{length}
use Rattle.refusals.specs.Refusals.{◌>>=◌, buffer_too_short, too_many_rows, gives, refused, Reply}
use Rattle.query.specs.declared.Cell.{Cell}
use Rattle.record.specs.declared.Record.{Record}
use Rattle.query.specs.View.{as_query}
use Rattle.format.specs.Parts.{query_for}
use Rattle.format.specs.File.{read_file}
use Rattle.std.specs.Prelude.{Result, Ok, Err}
use Rattle.query.specs.Types.{Tableau}
use Rattle.comparison.specs.declared.Verdict.{Verdict}
use Rattle.comparison.specs.declared.Verdict.TheVariants as verdict
use Rattle.refusals.specs.declared.Refusal.{Refusal}
use Rattle.refusals.specs.Refusal.{number_of, reply_of}
use Rattle.lent_numbers.specs.Lent.{returned}
use Rattle.comparison_on_files.specs.Queries.{with_part, images_told, comparison_fits, ComparisonGiven, Comparing, CompareGives}
use Rattle.comparison_on_files.specs.internal.Steps.{verdict_fits}

-- ---- what a comparison leaves

module _ (images : List Cell) (said : ℕ) (mapping part : List ℕ) (size : ℕ) where
  pub comparison-same : {x y : Reply (ℕ × List ℕ)} → x ≡ y → (number said' : ℕ) (mapping' part' : List ℕ) (size' : ℕ)
      → ComparisonGiven y images said mapping part size number said' mapping' part' size' → ComparisonGiven x images said mapping part size number said'
      mapping' part' size'
  comparison-same p number said' mapping' part' size' w =
      subst (λ (z : Reply (ℕ × List ℕ)). ComparisonGiven z images said mapping part size number said' mapping' part' size') (sym p) w

  pub comparison-none : {x : Reply (ℕ × List ℕ)} {n : ℕ} → x ≡ refused n → ComparisonGiven x images said mapping part size n said mapping part size
  comparison-none {n = n} p = comparison-same p n said mapping part size (refl, refl, refl, refl, refl)

-- ---- a comparison, by its verdict

-- where there is room for a mapping or not, and for the bytes or not
fits-when : (enough : Bool) (room number : ℕ) (bytes : List ℕ)
    → (cond enough (gives number) (refused buffer_too_short) >>= λ n. with_part room (n, bytes))
    ≡ cond (enough && leb (length bytes) room) (gives (number, bytes)) (refused buffer_too_short)
unfolding ◌>>=◌
fits-when true room number bytes = refl
fits-when false room number bytes = refl

module _ (words room : ℕ) (schema : List ℕ) where
  pub comparison-apart : (query : Tableau)
      → comparison_fits words room schema (Ok (verdict.Apart query)) ≡ verdict_fits words room (0, (query_for 24 schema).put (as_query query))
  comparison-apart query = fits-when (leb 192 words) room 0 ((query_for 24 schema).put (as_query query))

  pub comparison-contained : (images : List Cell) → comparison_fits words room schema (Ok (verdict.Mapped images)) ≡ verdict_fits words room (1, [])
  comparison-contained images = fits-when (leb 192 words) room 1 []

  pub comparison-never : comparison_fits words room schema (Ok verdict.Never) ≡ verdict_fits words room (2, [])
  comparison-never = fits-when (leb 192 words) room 2 []

  pub comparison-refused : (why : Refusal)
      → comparison_fits words room schema (Err why)
      ≡ refused (cond (eqb (number_of why) too_many_rows && ltb words 192) buffer_too_short (number_of why))
  unfolding ◌>>=◌
  comparison-refused why = refl

-- What is given for a comparison that is known
pub given-as : {images : List Cell} {x : Reply (ℕ × List ℕ)} (schema : List ℕ) (c v : Result Verdict Refusal) → c ≡ v → (said : ℕ) (mapping part : List ℕ) (size : ℕ)
    → comparison_fits (length mapping) (length part) schema v ≡ x → images_told v ≡ images → (number said' : ℕ) (mapping' part' : List ℕ) (size' : ℕ)
    → ComparisonGiven x images said mapping part size number said' mapping' part' size'
    → ComparisonGiven (comparison_fits (length mapping) (length part) schema c) (images_told c) said mapping part size number said' mapping' part' size'
given-as schema c v e said mapping part size p same number said' mapping' part' size' w =
    rw (e, same) (comparison-same _ said mapping part size p number said' mapping' part' size' w)

-- ---- the exported call

module _ (file : List ℕ) (p q said : ℕ) (mapping part : List ℕ) (size : ℕ) where
  pub compare-refused : (told : Result (Unit {0}) Refusal) (why : Refusal) → (e : Refusal) × (told ≡ Err e) × (e ≡ why) → read_file file ≡ refused (number_of why)
      → CompareGives file p q said mapping part size (returned (reply_of told)) said mapping part size
  compare-refused told why left e =
      let n : ℕ = number_of why in
      rw (left.1, left.2)
      (record {
        result = refused n;
        images = [];
        comparing = subst (λ (x : Reply Record). Comparing x p q (refused n) [] (length mapping) (length part)) (sym e) refl;
        given = (refl, refl, refl, refl, refl);
      })
