-- Where each part obeys a join dependency, the whole does: rows that agree with a row, each on a set, agree with it in the columns that all sets share, so they
-- are in its part. Assumes nothing.
use mathlib.Core.Path.{◌≡◌, refl, sym, ◌∙◌, ap}
use mathlib.Core.List.Memᴰ
use mathlib.Core.List.{List, []}
use mathlib.Core.Option.{none}
use Prim.Native.Nat.{ℕ, ◌+◌, ◌*◌, ◌/◌, ◌%◌, ◌<◌}
use native.Mathlib.Nat.{mod-lt}
use native.Mathlib.Omega.{arith}
use lib.ListN.{length, get_or}
use Rattle.lists.proofs.Positions.{in-get_or}
use Rattle.theory.specs.Query.{Row, column, FitsSchema, ◌∈◌}
use Rattle.theory.specs.Database.{Database, Agree}
use Rattle.query.specs.View.{join_of}
use Rattle.query.specs.declared.JoinDependency.{JoinDependency}
use Rattle.words.specs.Words.{database_of}
use Rattle.words.proofs.Spelling.{rows-spelled}
use Rattle.tables.specs.internal.Table.{mixed}
use Rattle.joins.specs.Join.{InJoin, ObeysJoin}
use Rattle.join_lookup.specs.internal.Starts.{row_count, row_of, Of, Known}
use Rattle.join_lookup.proofs.Bits.{bit-column}
use Rattle.join_lookup.proofs.Reaching.{mixed-same}
use Rattle.join_lookup.proofs.Starting.{of_length}
use Rattle.join_tables.specs.internal.Indexed.{Searchable}
use Rattle.join_testing.specs.Unmet.{first_choice}
use Rattle.join_testing.proofs.Choosing.{none-breaks, unbroken-none, obeys-unbroken, unbroken-obeys}
use Rattle.join_parts.specs.declared.Partition.{Partition}
use Rattle.theory.specs.Codes.{CodePair}
use Rattle.words.specs.Words.{database_read}
use Rattle.words.proofs.Reading.{read-length}
use Rattle.words.proofs.Reading.{read-sound}
use Rattle.join_parts.specs.internal.Parts.{SharedBy, part_of, InPart, PartOf, PartObeys}

module _ (codes : List CodePair) (schema words : List ℕ) (j : JoinDependency) (x : Partition) (g : Searchable schema words j) (k : Known schema x.index)
    (of : x.index.relation ≡ j.relation) where
  abbrev D : Database
  D = database_read codes schema words

  -- A part without a choice obeys
  part-obeys : (b : ℕ) → PartObeys codes schema words j x b → (part : List ℕ) × PartOf codes schema words x b part
      × ObeysJoin schema (join_of j) (database_read codes schema part)
  part-obeys b p =
      let sound = read-sound codes schema (database_of schema p.0) (rows-spelled schema p.0 p.1.spelled).1 in (
        p.0,
        p.1,
        unbroken-obeys schema (join_of j) g.fits (database_read codes schema p.0) sound
            (none-breaks schema (join_of j) g.fits (database_read codes schema p.0) sound p.2),
      )

  module _ (some : 0 < x.index.buckets) (small : x.columns < 256) (shared : SharedBy j x.columns) where
    module _ (r : Row ℕ) (fits : FitsSchema schema r) (relation : r.relation ≡ j.relation) where
      abbrev part : ℕ
      part = part_of x r.values

      -- A row that agrees with r on a set is in its part
      in-part : (set : List ℕ) → set ∈ (join_of j).sets → (p : ℕ) → p < row_count schema words → (row_of codes schema words p).relation ≡ j.relation
          → Agree 0 set (row_of codes schema words p) r → InPart codes schema words x part p
      in-part set at p h relation-p agree =
          let o : Of codes schema words x.index p = relation-p ∙ sym of in
          let size : length (row_of codes schema words p).values ≡ length r.values =
          of_length codes schema words g.spelled x.index k p h o ∙ k.width ∙ ap (λ (n : ℕ). get_or schema n 0) (of ∙ sym relation) ∙ sym fits.1 in (
            o,
            ap (λ (m : ℕ). (m + m / x.index.buckets * 2654435761) % x.index.buckets)
                (mixed-same 0 x.columns (row_of codes schema words p).values r.values size
                (λ c low bit. agree c (shared set at c (bit-column x.columns c small bit)))),
          )

      -- so r is in the join of its part if it is in that of the whole
      in-join : (rows : List ℕ) → PartOf codes schema words x part rows → InJoin 0 (join_of j) D r → InJoin 0 (join_of j) (database_read codes schema rows) r
      in-join rows of joined set at =
          let s = joined set at in
          let place = in-get_or D (record { relation = 0; values = [] }) s.1 in
          let inside : place.0 < row_count schema words = omega (arith, place.1, read-length codes (database_of schema words)) in
          let there = of.whole place.0 inside
          (in-part set at place.0 inside (ap (λ (t : Row ℕ). t.relation) place.2 ∙ s.2) (λ c in_set. ap (λ (t : Row ℕ). column 0 t c) place.2 ∙ s.3 c in_set))
          in
          (s.0, Memᴰ.cast (sym place.2) there, s.2, s.3)

    -- Where each part obeys, so do all rows
    whole-obeys : ((b : ℕ) → b < x.index.buckets → PartObeys codes schema words j x b) → ObeysJoin schema (join_of j) D
    whole-obeys each r fits relation = (
      λ there set at. (r, there, relation, λ c in_set. refl),
      λ joined.
          let b : ℕ = part r fits relation in
          let p = part-obeys b (each b (mod-lt (mixed 0 x.columns r.values + mixed 0 x.columns r.values / x.index.buckets * 2654435761) {m = x.index.buckets} some)) in
          p.1.rows r ((p.2 r fits relation).1 (in-join r fits relation p.0 p.1 joined)),
    )

    -- and no choice of rows yields a row that is not there
    pub parts-obey : ((b : ℕ) → b < x.index.buckets → PartObeys codes schema words j x b) → first_choice schema (join_of j) D ≡ none
    parts-obey each =
        let sound = read-sound codes schema (database_of schema words) (rows-spelled schema words g.spelled).1 in
        unbroken-none schema (join_of j) g.fits D sound (obeys-unbroken schema (join_of j) g.fits D sound (whole-obeys each))
