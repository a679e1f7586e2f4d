-- The part of a tableau and of a place: bytes and length.
use mathlib.Core.Path.{◌≡◌, refl, sym, ap, ◌∙◌, subst, subst⁻¹}
use mathlib.Core.Bool.{true, false, cond, ◌&&◌}
use mathlib.Core.List.{List, [], ◌∷◌, ◌++◌, flat_map}
use Prim.Native.Nat.{ℕ, zero, suc, ◌+◌, ◌*◌, ◌≤◌}
use native.Mathlib.Nat.{le_of_suc-le-suc, not-suc-le-zero}
use native.Mathlib.Omega.{arith}
use lib.Dec.{eqb}
use lib.ListN.{length, take, drop, get_or, replicate, length-append, length-drop}
use lib.Seq.{length-take-le, take-append-le, drop-append-le}
use Rattle.query.specs.declared.Cell.{Cell}
use Rattle.query.specs.Types.{Query}
use Rattle.query.specs.Types.{Tableau}
use Rattle.query.specs.declared.Place.{Place}
use Rattle.query.specs.View.{as_query}
use Rattle.query.specs.Rule.{good_query, head_safe, good_place, no_cell}
use Rattle.format.specs.Format.{byte, sequence, via, padded}
use Rattle.format.specs.Parts.{entries, row, rows, chunk, query_for, query}
use Rattle.format.specs.File.{put_place}
use Rattle.lists.proofs.Tests.{and_left}
use Rattle.format.proofs.Parts.{Narrow, narrow_at}
use Rattle.format.proofs.Rules.{good-narrow}
use Rattle.limits.specs.internal.Schema.{widths_in}
use Rattle.limits.specs.declared.schema.Schema.{Schema}
use Rattle.query.proofs.Good.{good-query}
use Rattle.query.proofs.Shape.{SizedFor}
use Rattle.tableaux.specs.internal.Tableaux.{tableau_of}
use Rattle.format.proofs.Lengths.{length-row, length-query}
use Rattle.encoder.specs.internal.Lengths.{rows_length}

-- A relation has at most 8 columns
pub wide : (s : Schema) (relation width : ℕ) → width ≡ get_or (widths_in s) relation 0 → width ≤ 8
wide s relation width e = rw e (narrow_at (widths_in s) relation (good-narrow s.relations s.widths s.good))

module _ (schema : List ℕ) (narrow : Narrow schema) where
  rows-exact : (named : List ℕ) (cells : List Cell) (size : ℕ) → length cells ≡ 8 * length named
      → length (flat_map (row schema).put (take size (chunk named cells))) ≡ rows_length schema (take size named)
  unfolding chunk flat_map rows_length
  rows-exact named cells zero l = refl
  rows-exact [] cells (suc size) l = refl
  rows-exact (r ∷ named) cells (suc size) l =
      let w : ℕ = get_or schema r 0 in
      let front : length (take 8 cells) ≡ 8 = length-take-le 8 cells (omega arith) in
      let used : length (take w (take 8 cells)) ≡ w = length-take-le w (take 8 cells) (omega (arith, narrow_at schema r narrow)) in
      let ih : length (flat_map (row schema).put (take size (chunk named (drop 8 cells)))) ≡ rows_length schema (take size named) =
      rows-exact named (drop 8 cells) size (length-drop 8 cells ∙ omega arith) in
      length-append ((row schema).put (r, take 8 cells)) (flat_map (row schema).put (take size (chunk named (drop 8 cells))))
      ∙ omega (arith, length-row schema (r, take 8 cells))

  pub query-exact : (most : ℕ) (q : Query) (used rows : ℕ) → SizedFor most q → used ≡ cond (eqb q.size 0) 0 q.arity → used ≤ 8
      → rows ≡ rows_length schema (take q.size q.relations) → 2 + 5 * used + rows ≡ length ((query_for most schema).put q)
  query-exact most q used rows sized eu fits er =
      let k : length (take used q.head) ≡ used = length-take-le used q.head (omega (arith, sized.head)) in
      let k' : length (take (cond (eqb q.size 0) 0 q.arity) q.head) ≡ used = rw (← eu) k in
      omega (
        arith,
        length-query most schema q,
        rows-exact q.relations q.cells q.size (omega (arith, sized.relations, sized.cells)),
      )

-- ---- the room for rows that are not in use

-- Rows with more after them
chunk-longer : (n : ℕ) (named : List ℕ) (cells : List Cell) (after : List ℕ) (more : List Cell) → n ≤ length named → 8 * n ≤ length cells
    → take n (chunk (named ++ after) (cells ++ more)) ≡ take n (chunk named cells)
unfolding chunk
chunk-longer zero named cells after more h k = refl
chunk-longer (suc n) [] cells after more h k = absurd (not-suc-le-zero h)
chunk-longer (suc n) (r ∷ named) cells after more h k =
    let front : take 8 (cells ++ more) ≡ take 8 cells = take-append-le 8 cells more (omega arith) in
    let back : drop 8 (cells ++ more) ≡ drop 8 cells ++ more = drop-append-le 8 cells more (omega arith) in
    ap (λ (cs : List Cell). (r, cs) ∷ take n (chunk (named ++ after) (drop 8 (cells ++ more)))) front
    ∙ ap (λ (cs : List Cell). (r, take 8 cells) ∷ take n (chunk (named ++ after) cs)) back
    ∙ ap (λ (rs : List (ℕ × List Cell)). (r, take 8 cells) ∷ rs)
    (chunk-longer n named (drop 8 cells) after more (le_of_suc-le-suc h) (rw length-drop (omega arith)))

-- The part of a stored query is that of its tableau
pub tableau-part : (schema : List ℕ) (q : Query) → SizedFor 12 q → q.size ≤ 12 → (query_for 24 schema).put (as_query (tableau_of q)) ≡ (query schema).put q
unfolding query_for via sequence byte rows padded
tableau-part schema q sized few =
    ap
    (λ (rs : List (ℕ × List Cell)).
    q.arity ∷ q.size ∷ (((entries (cond (eqb q.size 0) 0 q.arity)).put q.head) ++ flat_map (row schema).put rs))
    (chunk-longer q.size q.relations q.cells (replicate 12 0) (replicate 96 no_cell) (omega (arith, sized.relations)) (omega (arith, sized.cells)))

-- ---- the part of a place
module _ (schema : List ℕ) (p : Place) where
  pub vacant-part : p.filled ≡ false → put_place schema p ≡ 255 ∷ []
  unfolding put_place
  vacant-part f = rw f

  -- a filled one has that of the tableau of its query
  module _ (f : p.filled ≡ true) (good : good_place schema p ≡ true) (t : Tableau) (is : t ≡ tableau_of p.query) where
    pub filled-sizes : (t.arity ≤ 8) × (t.size ≤ 12)
    filled-sizes =
        let h : (good_query schema p.query && head_safe schema p.query) ≡ true = rw f at good in
        let q = good-query 12 schema p.query (and_left (good_query schema p.query) (head_safe schema p.query) h) in
        subst⁻¹ (λ (x : Tableau). (x.arity ≤ 8) × (x.size ≤ 12)) is (q.arity, q.size)

    pub filled-part : SizedFor 12 p.query → put_place schema p ≡ (query_for 24 schema).put (as_query t)
    unfolding put_place
    filled-part sized =
        let few : p.query.size ≤ 12 = subst (λ (x : Tableau). x.size ≤ 12) is filled-sizes.1 in
        rw f (sym (ap (λ (x : Tableau). (query_for 24 schema).put (as_query x)) is ∙ tableau-part schema p.query sized few))
