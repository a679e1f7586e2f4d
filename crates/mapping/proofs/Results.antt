-- What finding and checking promise, from what their parts promise: 1. the lines of two good queries, 2. checking, 3. finding.
-- Assumes nothing.
use mathlib.Core.Path.{◌≡◌, sym, ◌∙◌, ap, subst}
use mathlib.Core.Bool.{Bool, false}
use mathlib.Core.List.{List}
use Prim.Native.Nat.{ℕ, ◌+◌, ◌*◌, ◌≤◌, ◌<◌}
use native.Mathlib.Decide.{dec_lt}
use native.Mathlib.Omega.{arith}
use lib.ListN.{get_or, length, take, get_or-map, get_or-eq_default}
use lib.Seq.{get_or-take, length-take-le}
use Rattle.std.specs.Prelude.{None, Some}
use Rattle.theory.specs.Query.{Entry, constant, variable}
use Rattle.theory.specs.Answer.{value_of}
use Rattle.theory.specs.Containment.{freeze}
use Rattle.query.specs.internal.Code.{code_of}
use Rattle.tableaux.specs.internal.Codes.{codes_of}
use Rattle.query.specs.declared.Cell.{Cell}
use Rattle.query.specs.Types.{Query}
use Rattle.query.specs.Types.{Tableau}
use Rattle.query.specs.View.{entry_of, query_of, as_query, images_of}
use Rattle.query.specs.Rule.{no_cell}
use Rattle.query.proofs.Good.{good-query}
use Rattle.query.proofs.Shape.{SizedFor}
use Rattle.query.proofs.Codes.{code_below}
use Rattle.consistency.specs.internal.Solution.{Solution}
use Rattle.lists.specs.internal.Tells.{Tells}
use Rattle.candidates.specs.internal.Candidates.{IsDomain, IsTable}
use Rattle.mapping.specs.internal.Mapped.{Storable, StorableTableau, Finds, Checks}
use Rattle.mapping.specs.internal.Lines.{cell_at, entry_at, entry_in, Carried, Lands, RestBlank, Assigned}
use Rattle.lists.proofs.Positions.{tells-false}
use Rattle.mapping.proofs.Checked.{tells-test}
use Rattle.mapping.proofs.Wide.{Wide, wide-solution, chosen-small, solution-wide}
use Rattle.mapping.proofs.Lines.{all-within, mapping-wide, wide-mapping, mapping-arity}

-- ---- 1. the lines of two good queries

-- A storable query has at most 12 rows
pub storable-size : (q : Query) → Storable q → q.size ≤ 12
storable-size q s = (good-query 12 s.0 q s.1).size

-- and a tableau at most 24
pub tableau-size : (t : Tableau) → StorableTableau t → t.size ≤ 24
tableau-size t s = (good-query 24 s.0 (as_query t) s.1).size

-- An array that has the cells of a query with room for so many rows in one line
abbrev pub InLine : ℕ → Query → List Cell → Type 0
InLine most q cells = (k : ℕ) → k < 8 * most + 8 → get_or cells k no_cell ≡ cell_at most q k

line-entry : (most : ℕ) (q : Query) (cells : List Cell) → InLine most q cells → (k : ℕ) → k < 8 * most + 8 → entry_in cells k ≡ entry_at most q k
line-entry most q cells line k h = ap (λ (c : Cell). entry_of c.entry) (line k h)

-- The codes of a query in one line
abbrev pub CodesOf : ℕ → Query → List ℕ → Type 0
CodesOf most q codes = (k : ℕ) → k < 8 * most + 8 → get_or codes k 0 ≡ freeze 2147483648 (entry_at most q k)

pub line_code : (most : ℕ) (q : Query) (cells : List Cell) (codes : List ℕ) → InLine most q cells → codes ≡ codes_of cells → CodesOf most q codes
line_code most q cells codes line is k h =
    ap (λ (l : List ℕ). get_or l k 0) is
    ∙ get_or-map (λ (x : Cell). code_of x.entry) cells k no_cell
    ∙ ap (freeze 2147483648) (line-entry most q cells line k h)

pub code-small : (q : Query) → Storable q → SizedFor 12 q → (codes : List ℕ) → CodesOf 12 q codes → (k : ℕ) → k < 104 → get_or codes k 0 < 2147483744
code-small q s sizes codes is k h =
    subst (λ (n : ℕ). n < 2147483744) (sym (is k h)) (code_below (entry_at 12 q k) (all-within 12 s.0 q s.1 sizes k h))

-- ---- 2. checking

module _ (source target : Query) (images : List Cell) (sizes : SizedFor 12 source) (sizes' : SizedFor 12 target) where
  abbrev Good : Type 0
  Good = Wide 96 (entry_at 12 source) (entry_at 12 target) source.relations target.relations source.size target.size (images_of images)

  -- No where the images are no mapping by positions
  pub check-fails : (Good → ⊥) → Checks source target images false
  check-fails out schema narrow good good' =
      tells-test (query_of schema source) (query_of schema target) images false
      (tells-false (λ m. out (mapping-wide 12 schema narrow source target good good' sizes sizes' (images_of images) m)))

  -- No where the arities differ
  pub check-arity : (source.arity ≡ target.arity → ⊥) → Checks source target images false
  check-arity other schema narrow good good' =
      tells-test (query_of schema source) (query_of schema target) images false
      (tells-false (λ m. other (mapping-arity 12 schema narrow source target good good' sizes sizes' (images_of images) m)))

  -- No where the source has no rows
  pub check-size : source.size ≡ 0 → Checks source target images false
  check-size none = check-fails (λ w. let h : 0 < source.size = w.some-row in omega arith)

  -- And else what a test of a mapping by positions says
  pub check-tells : (b : Bool) → source.arity ≡ target.arity → Tells b Good → Checks source target images b
  check-tells b same tells schema narrow good good' =
      tells-test (query_of schema source) (query_of schema target) images b (
        (λ e. wide-mapping 12 schema narrow source target good good' sizes sizes' (images_of images) same (tells.0 e)),
        (λ m. tells.1 (mapping-wide 12 schema narrow source target good good' sizes sizes' (images_of images) m)),
      )

  module _ (few : source.size ≤ 12) (few' : target.size ≤ 12) (from to : List Cell) (line : InLine 12 source from) (line' : InLine 12 target to) where
    -- The relations of the rows that are in use
    abbrev pub named : List ℕ
    named = take source.size source.relations

    abbrev pub offered : List ℕ
    offered = take target.size target.relations

    named-length : length named ≡ source.size
    named-length = length-take-le source.size source.relations (omega (arith, sizes.relations))

    offered-length : length offered ≡ target.size
    offered-length = length-take-le target.size target.relations (omega (arith, sizes'.relations))

    same-places : (row image : ℕ) → row + 8 ≤ 104 → image + 8 ≤ 104
        → ((i : ℕ) → i < 8 → value_of constant (images_of images) (entry_at 12 source (row + i)) ≡ entry_at 12 target (image + i)) → Carried from to images row image
    same-places row image h k at i l =
        ap (value_of constant (images_of images)) (line-entry 12 source from line (row + i) (omega arith)) ∙ at i l
        ∙ sym (line-entry 12 target to line' (image + i) (omega arith))

    carried-places : (row image : ℕ) → row + 8 ≤ 104 → image + 8 ≤ 104 → Carried from to images row image
        → (i : ℕ) → i < 8 → value_of constant (images_of images) (entry_at 12 source (row + i)) ≡ entry_at 12 target (image + i)
    carried-places row image h k at i l =
        ap (value_of constant (images_of images)) (sym (line-entry 12 source from line (row + i) (omega arith))) ∙ at i l
        ∙ line-entry 12 target to line' (image + i) (omega arith)

    -- A mapping by positions carries the head and each row, and the rest is blank
    pub good-head : Good → Carried from to images 96 96
    good-head w = same-places 96 96 (omega arith) (omega arith) w.head

    pub good-rows : Good → (r : ℕ) → r < length named → Lands from to images (get_or named r 0) offered r
    good-rows w r k =
        let h : r < source.size = omega (arith, named-length) in
        let x = w.rows r h in
        let l : x.0 < target.size = x.1 in (
          x.0,
          omega (arith, offered-length),
          get_or-take source.size source.relations r 0 h ∙ x.2 ∙ sym (get_or-take target.size target.relations x.0 0 l),
          same-places (8 * r) (8 * x.0) (omega arith) (omega arith) x.3,
        )

    pub good-rest : Good → RestBlank from images
    good-rest w v h out = w.elsewhere v (λ k l is. out (k, l, line-entry 12 source from line k l ∙ is))

    -- and conversely
    pub parts-good : length images ≡ 96 → 0 < source.size → Carried from to images 96 96
        → ((r : ℕ) → r < length named → Lands from to images (get_or named r 0) offered r) → RestBlank from images → Good
    parts-good long some head rows rest =
        record {
          some-row = some;
          rows = λ r h.
              let x = rows r (omega (arith, named-length)) in
              let k : x.0 < length offered = x.1 in
              let l : x.0 < target.size = omega (arith, offered-length) in (
                x.0,
                l,
                sym (get_or-take source.size source.relations r 0 h) ∙ x.2 ∙ get_or-take target.size target.relations x.0 0 l,
                carried-places (8 * r) (8 * x.0) (omega arith) (omega arith) x.3,
              );
          head = carried-places 96 96 (omega arith) (omega arith) head;
          elsewhere = λ v none. blank v none (dec_lt v 96);
        }
      where
        blank : (v : ℕ) → ((k : ℕ) → k < 104 → entry_at 12 source k ≡ variable v → ⊥) → Dec (v < 96) → images_of images v ≡ constant 0
        blank v none (yes h) = rest v h (λ s. none s.0 s.1 (sym (line-entry 12 source from line s.0 s.1) ∙ s.2))
        blank v none (no h) = ap (λ (c : Cell). entry_of c.entry) (get_or-eq_default images no_cell {n = v} (omega arith))

-- ---- 3. finding

module _ (source : Query) (target : Tableau) (sizes : SizedFor 12 source) (sizes' : SizedFor 24 (as_query target)) where
  -- A mapping by positions
  abbrev WideTo : (ℕ → Entry) → Type 0
  WideTo f = Wide 192 (entry_at 12 source) (entry_at 24 (as_query target)) source.relations target.relations source.size target.size f

  -- There is none where no images are a mapping by positions
  pub none_found : ((f : ℕ → Entry) → WideTo f → ⊥) → Finds source target None
  none_found out schema narrow good good' same m =
      out m.0 (mapping-wide 24 schema narrow source (as_query target) good good' sizes sizes' m.0 m.1)

  pub none-size : source.size ≡ 0 → Finds source target None
  none-size none = none_found (λ f w. let h : 0 < source.size = w.some-row in omega arith)

  module _ (storable : Storable source) (storable' : StorableTableau target) (cells : List Cell) (from to domain table : List ℕ)
      (from_is : CodesOf 12 source from) (line : InLine 24 (as_query target) cells) (to_is : CodesOf 24 (as_query target) to)
      (is-domain : IsDomain from to source.relations target.relations source.size target.size domain)
      (is-table : IsTable from to source.size target.size table) where
    -- There is none where the search has no solution
    pub none-solution : ((choice : ℕ → ℕ) → Solution (source.size + 1) domain table choice → ⊥) → Finds source target None
    none-solution out =
        none_found
        (λ f w.
        let s =
        wide-solution (entry_at 12 source) (entry_at 24 (as_query target)) from to source.relations target.relations source.size target.size
        (storable-size source storable) (tableau-size target storable') from_is to_is (all-within 12 storable.0 source storable.1 sizes)
        (all-within 24 storable'.0 (as_query target) storable'.1 sizes') domain table is-domain is-table f w
        in
        out s.0 s.1)

    -- A solution's choices are below 24
    pub solution-small : (choice : ℕ → ℕ) → Solution (source.size + 1) domain table choice → (r : ℕ) → r ≤ source.size → choice r < 24
    solution-small choice solution =
        chosen-small (entry_at 12 source) (entry_at 24 (as_query target)) from to source.relations target.relations source.size target.size
        (storable-size source storable) (tableau-size target storable') from_is to_is (all-within 12 storable.0 source storable.1 sizes)
        (all-within 24 storable'.0 (as_query target) storable'.1 sizes') domain table is-domain is-table choice solution

    -- and its images are a mapping
    pub found-solution : (choice : ℕ → ℕ) (images : List Cell) → 0 < source.size → Solution (source.size + 1) domain table choice → length images ≡ 96
        → Assigned from cells source.size choice (source.size + 1) images → Finds source target (Some images)
    found-solution choice images some solution long assigned schema narrow good good' same =
        wide-mapping 24 schema narrow source (as_query target) good good' sizes sizes' (images_of images) same
        (solution-wide (entry_at 12 source) (entry_at 24 (as_query target)) from to source.relations target.relations source.size target.size
        (storable-size source storable) (tableau-size target storable') from_is to_is (all-within 12 storable.0 source storable.1 sizes)
        (all-within 24 storable'.0 (as_query target) storable'.1 sizes') domain table is-domain is-table choice solution cells images
        (line-entry 24 (as_query target) cells line) long assigned some)
