-- A query part: what the readings of its pieces say of the whole part.
use mathlib.Core.Path.{◌≡◌, refl, sym, ap, ◌∙◌}
use mathlib.Core.Bool.{cond}
use mathlib.Core.List.{List}
use Prim.Native.Nat.{ℕ}
use lib.Dec.{eqb, leb}
use Rattle.query.specs.declared.Cell.{Cell}
use Rattle.format.specs.Format.{Reading, none, got, map_reading, Format, get_byte, byte, sequence, via}
use Rattle.format.specs.Parts.{entries, rows, query_with, query_for, query}
use Rattle.format.proofs.Formats.{not-got, map_reading-got}
use Rattle.query.specs.Types.{Query}
use Rattle.parsing.specs.declared.StoredRows.{StoredRows}
use Rattle.parsing.specs.internal.Read.{stored_rows}
use Rattle.parsing.proofs.Counted.{sequence-none, sequence-got}

pub map-none : {A B : Type 0} (f : A → B) (o : Reading A) → o ≡ none → map_reading f o ≡ none
unfolding map_reading
map-none f o e = rw e

map-map : {A B C : Type 0} (f : B → C) (g : A → B) (o : Reading A) → map_reading f (map_reading g o) ≡ map_reading (λ a. f (g a)) o
unfolding map_reading
map-map f g none = refl
map-map f g (got a rest) = refl

module _ (schema part : List ℕ) where
  -- The formats of the pieces
  abbrev size_on : ℕ → Format (ℕ × (List Cell × List (ℕ × List Cell)))
  size_on arity = sequence (byte (λ n. leb n 12)) (λ size. sequence (entries (cond (eqb size 0) 0 arity)) (λ head. rows 12 schema size))

  abbrev head_on : ℕ → ℕ → Format (List Cell × List (ℕ × List Cell))
  head_on arity size = sequence (entries (cond (eqb size 0) 0 arity)) (λ head. rows 12 schema size)

  pub no-arity : get_byte (λ n. leb n 8) part ≡ none → (query schema).get part ≡ none
  unfolding query_for via byte
  no-arity e = map-none query_with ((sequence (byte (λ n. leb n 8)) size_on).get part) (sequence-none (byte (λ n. leb n 8)) size_on part e)

  module _ (arity : ℕ) (sized : List ℕ) (ea : get_byte (λ n. leb n 8) part ≡ got arity sized) where
    after-arity : (query schema).get part ≡ map_reading (λ s. query_with (arity, s)) ((size_on arity).get sized)
    unfolding query_for via byte
    after-arity =
        ap (map_reading query_with) (sequence-got (byte (λ n. leb n 8)) size_on part arity sized ea)
        ∙ map-map query_with (λ s. (arity, s)) ((size_on arity).get sized)

    pub no_size : get_byte (λ n. leb n 12) sized ≡ none → (query schema).get part ≡ none
    unfolding byte
    no_size e =
        after-arity ∙ map-none (λ s. query_with (arity, s)) ((size_on arity).get sized)
        (sequence-none (byte (λ n. leb n 12)) (head_on arity) sized e)

    module _ (size : ℕ) (headed : List ℕ) (es : get_byte (λ n. leb n 12) sized ≡ got size headed) where
      after-size : (query schema).get part ≡ map_reading (λ h. query_with (arity, (size, h))) ((head_on arity size).get headed)
      unfolding byte
      after-size =
          after-arity ∙ ap (map_reading (λ s. query_with (arity, s))) (sequence-got (byte (λ n. leb n 12)) (head_on arity) sized size headed es)
          ∙ map-map (λ s. query_with (arity, s)) (λ h. (size, h)) ((head_on arity size).get headed)

      pub no-head : (entries (cond (eqb size 0) 0 arity)).get headed ≡ none → (query schema).get part ≡ none
      no-head e =
          after-size ∙ map-none (λ h. query_with (arity, (size, h))) ((head_on arity size).get headed)
          (sequence-none (entries (cond (eqb size 0) 0 arity)) (λ head. rows 12 schema size) headed e)

      pub after-head : (head : List Cell) (rest : List ℕ) → (entries (cond (eqb size 0) 0 arity)).get headed ≡ got head rest
          → (query schema).get part ≡ map_reading (λ rs. query_with (arity, (size, (head, rs)))) ((rows 12 schema size).get rest)
      after-head head rest e =
          after-size ∙ ap (map_reading (λ h. query_with (arity, (size, h))))
          (sequence-got (entries (cond (eqb size 0) 0 arity)) (λ head. rows 12 schema size) headed head rest e)
          ∙ map-map (λ h. query_with (arity, (size, h))) (λ rs. (head, rs)) ((rows 12 schema size).get rest)

-- ---- the answer of the rows' reader

rows-none : (o : Reading (List (ℕ × List Cell))) → none ≡ map_reading stored_rows o → o ≡ none
unfolding map_reading
rows-none none e = refl
rows-none (got rs rest) e = absurd (not-got e)

module _ (schema part : List ℕ) (arity : ℕ) (sized : List ℕ) (ea : get_byte (λ n. leb n 8) part ≡ got arity sized) (size : ℕ) (headed : List ℕ)
    (es : get_byte (λ n. leb n 12) sized ≡ got size headed) (head : List Cell) (left : List ℕ)
    (eh : (entries (cond (eqb size 0) 0 arity)).get headed ≡ got head left)
  where
    abbrev with_rows : List (ℕ × List Cell) → Query
    with_rows all = query_with (arity, (size, (head, all)))

    on-rows : (query schema).get part ≡ map_reading with_rows ((rows 12 schema size).get left)
    on-rows = after-head schema part arity sized ea size headed es head left eh

    pub bad-rows : none ≡ map_reading stored_rows ((rows 12 schema size).get left) → none ≡ (query schema).get part
    bad-rows b = sym (on-rows ∙ map-none with_rows ((rows 12 schema size).get left) (rows-none ((rows 12 schema size).get left) b))

    pub accepts : (rs : StoredRows) (rest : List ℕ) → got rs rest ≡ map_reading stored_rows ((rows 12 schema size).get left)
        → got (record { arity = arity; size = size; head = head; relations = rs.relations; cells = rs.cells }) rest ≡ (query schema).get part
    unfolding map_reading
    accepts rs rest b =
        let (all, e, is) = map_reading-got stored_rows ((rows 12 schema size).get left) rs rest (sym b) in
        let done : (query schema).get part ≡ got (with_rows all) rest = on-rows ∙ ap (map_reading with_rows) e in
        ap (λ (r : StoredRows). got (record { arity = arity; size = size; head = head; relations = r.relations; cells = r.cells }) rest) (sym is)
        ∙ sym done
