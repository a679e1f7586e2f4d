-- Mappings of the theory of a stored query into some of its own rows, and solutions of the search over its rows and its tableau's.
-- Assumes nothing.
use mathlib.Core.Path.{◌≡◌, refl, sym, ap, ◌∙◌, subst}
use mathlib.Core.Logic.{◌≢◌, ◌↔◌, ◌⊎◌, inl, inr, ⊎_elim}
use mathlib.Core.Bool.{Bool, true, cond}
use mathlib.Core.List.Memᴰ
use mathlib.Core.List.{List, [], ◌∷◌, ◌++◌}
use Prim.Native.Nat.{ℕ, ◌+◌, ◌-◌, ◌/◌, ◌%◌, ◌^◌, ◌≤◌, ◌<◌}
use native.Mathlib.Decide.{dec_lt, ℕ_discrete}
use native.Mathlib.Omega.{arith}
use lib.ListN.{length, get_or, take, drop, drop_of_length-le}
use lib.Seq.{length-take-le}
use Rattle.std.proofs.lemmas.List.{get_or-drop, get_or-take, length-drop, take-append-drop}
use Rattle.lists.proofs.Positions.{get_or-in, in-get_or}
use Rattle.query.specs.Types.{Query}
use Rattle.query.specs.Types.{Tableau}
use Rattle.query.specs.View.{query_of, as_query}
use Rattle.query.specs.Rule.{good_query, good_tableau}
use Rattle.query.proofs.Stored.{Within}
use Rattle.query.proofs.Shape.{SizedFor, row_count}
use Rattle.theory.specs.Query as theory
use Rattle.theory.specs.Query.{◌∈◌}
use Rattle.theory.specs.Answer.{IsMapping, Mapping}
use Rattle.theory.proofs.Lists.{bool_cases}
use Rattle.theory.proofs.Carry.{mapping-self}
use Rattle.minimization.specs.Search.{mappable}
use Rattle.minimization.specs.Kept.{kept_after}
use Rattle.minimization.proofs.Search.{mappable-exact}
use Rattle.minimization.proofs.Kept.{kept-receives, kept-step}
use Rattle.tableaux.specs.internal.Tableaux.{tableau_of}
use Rattle.tableaux.proofs.Tableaux.{tableau-query, tableau-good, tableau-sized}
use Rattle.consistency.specs.internal.Solution.{Bit, SameSolutions}
use Rattle.candidates.specs.internal.Candidates.{Marks, Repeats, IsDomain, IsTable}
use Rattle.candidates.proofs.Masks.{has-below}
use Rattle.candidates.proofs.Repeats.{first-like}
use Rattle.mapping.specs.internal.Mapped.{Narrow}
use Rattle.mapping.specs.internal.Lines.{entry_at}
use Rattle.mapping.proofs.Results.{CodesOf}
use Rattle.mapping.proofs.Wide.{picked-solution, chosen-row, taken-some, taken-wide, row_carried}
use Rattle.mapping.proofs.Lines.{all-within, part-wide, wide-part}
use Rattle.folding.specs.internal.Folding.{FoldsInto, LeftBut, Tried, past_row, having, RowsAt}
use Rattle.folding.specs.internal.Kept.{marked, IsKept}
use Rattle.folding.proofs.Marked.{bit-from, marked-in, marked-at, marked-has, marked-lacks, marked-agree}
use Rattle.folding.proofs.Keeping.{Keeping, KeptFrom}

-- Candidates and table of a query into itself
pub record Made (q : Query) (from to domain table : List ℕ) : Type 0 where
  pub sizes : SizedFor 12 q
  pub few : q.size ≤ 12
  pub from_is : CodesOf 12 q from
  pub to_is : CodesOf 24 (as_query (tableau_of q)) to
  pub is-domain : IsDomain from to q.relations (tableau_of q).relations q.size q.size domain
  pub is-table : IsTable from to q.size q.size table

-- as they are made from the tableau of the query
pub make : (q : Query) (t : Tableau) → t ≡ tableau_of q → SizedFor 12 q → q.size ≤ 12 → (from to domain table : List ℕ) → CodesOf 12 q from
    → CodesOf 24 (as_query t) to → IsDomain from to q.relations t.relations q.size q.size domain → IsTable from to q.size q.size table
    → Made q from to domain table
make q t is sizes few from to domain table from_is to_is is-domain is-table =
    record {
      sizes = sizes;
      few = few;
      from_is = from_is;
      to_is = subst (λ (t : Tableau). CodesOf 24 (as_query t) to) is to_is;
      is-domain = subst (λ (t : Tableau). IsDomain from to q.relations t.relations q.size q.size domain) is is-domain;
      is-table = is-table;
    }

module _ (q : Query) (from to domain table : List ℕ) (made : Made q from to domain table) (schema : List ℕ) (narrow : Narrow schema)
    (good : good_query schema q ≡ true) where
  -- The query as a target
  abbrev target : Query
  target = as_query (tableau_of q)

  target-good : good_tableau schema (tableau_of q) ≡ true
  target-good = tableau-good schema q made.sizes good

  target-sized : SizedFor 24 target
  target-sized = tableau-sized q made.sizes

  view : query_of schema target ≡ query_of schema q
  view = tableau-query schema q made.sizes good narrow

  few-images : q.size ≤ 24
  few-images = omega (arith, made.few)

  source-within : (k : ℕ) → k < 104 → Within (entry_at 12 q k)
  source-within = all-within 12 schema q good made.sizes

  target-within : (k : ℕ) → k < 200 → Within (entry_at 24 target k)
  target-within = all-within 24 schema target target-good target-sized

  -- A solution that goes to positions with a property is a mapping into rows that have those at such positions
  pub folds-mapping : (P : ℕ → Type 0) → 0 < q.size → FoldsInto domain table q.size P → (rows : List (theory.Row theory.Entry))
      → ((d : ℕ) → d < q.size → P d → get_or (query_of schema q).rows d past_row ∈ rows) → Mapping (query_of schema q) (having (query_of schema q) rows)
  folds-mapping P some w rows held =
      let t =
      taken-some (entry_at 12 q) (entry_at 24 target) from to q.relations target.relations q.size q.size made.few few-images made.from_is
      made.to_is source-within target-within domain table made.is-domain made.is-table
      w.0 w.1
      in
      let is : IsMapping (query_of schema q) (having (query_of schema target) rows) t.0 =
      wide-part 24 schema narrow q target good target-good made.sizes target-sized t.0 rows past_row refl
      (taken-wide (entry_at 12 q) (entry_at 24 target) from to q.relations target.relations q.size q.size made.few few-images made.from_is
      made.to_is source-within target-within domain table made.is-domain made.is-table
      w.0 w.1 t.0 t.1 some)
      (λ r h.
      let row =
      chosen-row (entry_at 12 q) (entry_at 24 target) from to q.relations target.relations q.size q.size made.few few-images made.from_is
      made.to_is source-within target-within domain table made.is-domain made.is-table
      w.0 w.1 r h
      in (
        w.0 r,
        (
          row.0,
          row.1,
          row_carried (entry_at 12 q) (entry_at 24 target) from to q.relations target.relations q.size q.size made.few few-images made.from_is
              made.to_is source-within target-within domain table made.is-domain made.is-table
              w.0 w.1 t.0 t.1 r h,
        ),
        subst (λ (x : theory.Query). get_or x.rows (w.0 r) past_row ∈ rows) (sym view) (held (w.0 r) row.0 (w.2 r h)),
      ))
      in
      (t.0, subst (λ (x : theory.Query). IsMapping (query_of schema q) (having x rows) t.0) view is)

  -- and a mapping into rows at positions with a property is a solution that goes to the first rows that are the same as those
  pub mapping-folds : (P Q : ℕ → Type 0) → ((d : ℕ) → d < q.size → Q d → P (first-like to target.relations d).at) → (rows : List (theory.Row theory.Entry))
      → RowsAt (query_of schema q) (λ d. (d < q.size) × Q d) rows → Mapping (query_of schema q) (having (query_of schema q) rows)
      → FoldsInto domain table q.size P
  mapping-folds P Q first rows at m =
      let part =
      part-wide 24 schema narrow q target good target-good made.sizes target-sized m.0 rows past_row Q
      (λ row there.
      let w = at row there in
      (w.0, w.1.0, w.1.1, ap (λ (x : theory.Query). get_or x.rows w.0 past_row) view ∙ w.2))
      (subst (λ (x : theory.Query). IsMapping (query_of schema q) (having x rows) m.0) (sym view) m.1)
      in
      picked-solution (entry_at 12 q) (entry_at 24 target) from to q.relations target.relations q.size q.size made.few few-images made.from_is
      made.to_is source-within target-within domain table made.is-domain made.is-table
      P Q first m.0 part.0
      (λ r h. let x = part.1 r h in (x.0, x.1.0, x.1.1, x.1.2, x.2))

  -- ---- row i is tried

  abbrev rows : List (theory.Row theory.Entry)
  rows = (query_of schema q).rows

  rows-count : length rows ≡ q.size
  rows-count = row_count schema q (omega (arith, made.few, made.sizes.relations))

  -- After the last row there is none to keep
  pub kept-none : (left : ℕ) → KeptFrom (query_of schema q) left q.size
  unfolding marked kept_after
  kept-none left =
      ap (λ (l : List (theory.Row theory.Entry)). marked (left / 2 ^ q.size) l) none
      ∙ sym (ap (kept_after (take q.size rows) (query_of schema q)) none)
    where
      none : drop q.size rows ≡ []
      none = drop_of_length-le rows {i = q.size} (omega (arith, rows-count))

  module _ (left i : ℕ) (inside : i < q.size) (state : Keeping to target.relations q.size left (i + 1)) where
    -- The rows after row i that are left
    abbrev later : List (theory.Row theory.Entry)
    later = marked (left / 2 ^ (i + 1)) (drop (i + 1) rows)

    -- A row that is left and is not row i stands before row i or after it
    stands : (d : ℕ) → d < q.size → LeftBut left i d → get_or rows d past_row ∈ take i rows ++ later
    stands d h but = go (dec_lt d i)
      where
        go : Dec (d < i) → get_or rows d past_row ∈ take i rows ++ later
        go (yes l) =
            let short : length (take i rows) ≡ i = length-take-le i rows (omega (arith, rows-count)) in
            Memᴰ.append_left later
            (subst (λ (x : theory.Row theory.Entry). x ∈ take i rows) (get_or-take i rows d past_row l)
            (get_or-in (take i rows) d past_row (omega arith)))
        go (no l) =
            let past : i + 1 + (d - (i + 1)) ≡ d = omega (arith, but.1) in
            Memᴰ.append_right (take i rows)
            (subst (λ (x : theory.Row theory.Entry). x ∈ later) (get_or-drop (i + 1) rows (d - (i + 1)) past_row ∙ ap (λ (k : ℕ). get_or rows k past_row) past)
            (marked-in past_row (left / 2 ^ (i + 1)) (drop (i + 1) rows) (d - (i + 1)) (rw length-drop (omega (arith, rows-count, but.1)))
            ((bit-from left (i + 1) (d - (i + 1))).1 (subst (Bit left) (sym past) but.0))))

    -- Each of the first j rows, and of those after row i that are left, stands where it is one of those
    abbrev Placed : ℕ → ℕ → Type 0
    Placed j d = (d < j) ⊎ LeftBut left i d

    placed : (j : ℕ) → j ≤ q.size → RowsAt (query_of schema q) (λ d. (d < q.size) × Placed j d) (take j rows ++ later)
    placed j h row at = ⊎_elim front back (Memᴰ.append_cases (take j rows) at)
      where
        front : row ∈ take j rows → (d : ℕ) × ((d < q.size) × Placed j d) × (get_or rows d past_row ≡ row)
        front at =
            let w = in-get_or (take j rows) past_row at in
            let short : length (take j rows) ≡ j = length-take-le j rows (omega (arith, rows-count)) in
            let low : w.0 < j = let l : w.0 < length (take j rows) = w.1 in omega arith in
            (w.0, (omega arith, inl low), sym (get_or-take j rows w.0 past_row low) ∙ w.2)

        back : row ∈ later → (d : ℕ) × ((d < q.size) × Placed j d) × (get_or rows d past_row ≡ row)
        back at =
            let w = marked-at past_row (left / 2 ^ (i + 1)) (drop (i + 1) rows) at in
            let l : w.0 < length (drop (i + 1) rows) = w.1 in
            let long : length (drop (i + 1) rows) ≡ q.size - (i + 1) = length-drop (i + 1) rows ∙ ap (λ (k : ℕ). k - (i + 1)) rows-count in (
              i + 1 + w.0,
              (omega arith, inr ((bit-from left (i + 1) w.0).0 w.2, λ e. let e' : i + 1 + w.0 ≡ i = e in omega arith)),
              sym (get_or-drop (i + 1) rows w.0 past_row) ∙ w.3,
            )

    -- The first row that is the same as one that is left is that one
    first-left : (d : ℕ) → Bit left d → (first-like to target.relations d).at ≡ d
    first-left d at = go (dec_lt (first-like to target.relations d).at d)
      where
        go : Dec ((first-like to target.relations d).at < d) → (first-like to target.relations d).at ≡ d
        go (yes l) =
            let x = first-like to target.relations d in
            absurd (state.fresh d at (x.at, l, x.relation, x.same))
        go (no l) = let x : (first-like to target.relations d).at ≤ d = (first-like to target.relations d).within in omega arith

    -- Where the first of each of the first j rows is left and is not row i, a mapping into them and those after is a solution without row i
    mapping-fold : (j : ℕ) → j ≤ q.size → ((d : ℕ) → d < j → LeftBut left i (first-like to target.relations d).at)
        → Mapping (query_of schema q) (having (query_of schema q) (take j rows ++ later)) → FoldsInto domain table q.size (LeftBut left i)
    mapping-fold j h front f =
        mapping-folds (LeftBut left i) (Placed j)
        (λ d l p. ⊎_elim (front d) (λ but. subst (LeftBut left i) (sym (first-left d but.0)) but) p) (take j rows ++ later) (placed j h) f

    -- Before row i the first of each row is left and comes before row i
    before-left : (d : ℕ) → d < i → LeftBut left i (first-like to target.relations d).at
    before-left d l =
        let x = first-like to target.relations d in
        let within : x.at ≤ d = x.within in
        (state.before x.at (omega arith) x.fresh, λ e. let e' : x.at ≡ i = e in omega arith)

    -- So a mapping without row i is a solution without it, and the other way round
    unmapped : (FoldsInto domain table q.size (LeftBut left i) → ⊥) → Mapping (query_of schema q) (having (query_of schema q) (take i rows ++ later)) → ⊥
    unmapped none f = none (mapping-fold i (omega arith) before-left f)

    mapped : FoldsInto domain table q.size (LeftBut left i) → Mapping (query_of schema q) (having (query_of schema q) (take i rows ++ later))
    mapped w = folds-mapping (LeftBut left i) (omega arith) w (take i rows ++ later) stands

    -- Where row i is gone already it repeats an earlier one, and there is such a mapping
    gone-mapped : (Bit left i → ⊥) → kept_after (take (i + 1) rows) (query_of schema q) (drop (i + 1) rows) ≡ later
        → Mapping (query_of schema q) (having (query_of schema q) (take i rows ++ later))
    gone-mapped out kept =
        let some : rows ≢ [] = λ none. let z : length rows ≡ 0 = ap length none in omega (arith, rows-count) in
        let whole : rows ≡ take (i + 1) rows ++ drop (i + 1) rows = sym (take-append-drop (i + 1) rows) in
        let all : Mapping (query_of schema q) (having (query_of schema q) (take (i + 1) rows ++ later)) =
        subst (λ (l : List (theory.Row theory.Entry)). Mapping (query_of schema q) (having (query_of schema q) (take (i + 1) rows ++ l))) kept
        (kept-receives (take (i + 1) rows) (query_of schema q) (drop (i + 1) rows) some
        (subst (λ (l : List (theory.Row theory.Entry)). Mapping (query_of schema q) (having (query_of schema q) l)) whole
        (mapping-self (query_of schema q) some)))
        in
        mapped (mapping-fold (i + 1) (omega arith) front all)
      where
        front : (d : ℕ) → d < i + 1 → LeftBut left i (first-like to target.relations d).at
        front d l =
            let x = first-like to target.relations d in
            let within : x.at ≤ d = x.within in
            let at : Bit left x.at = state.before x.at (omega arith) x.fresh in
            (at, λ e. out (subst (Bit left) e at))

    -- What is left next is what is kept from row i on
    module _ (kept : KeptFrom (query_of schema q) left (i + 1)) where
      step : kept_after (take i rows) (query_of schema q) (drop i rows)
          ≡ cond (mappable (query_of schema q) (having (query_of schema q) (take i rows ++ later))) later (get_or rows i past_row ∷ later)
      step = kept-step (query_of schema q) i past_row later (omega (arith, rows-count)) (sym kept)

      goes : Mapping (query_of schema q) (having (query_of schema q) (take i rows ++ later)) → kept_after (take i rows) (query_of schema q) (drop i rows) ≡ later
      goes f =
          step
          ∙ ap (λ (b : Bool). cond b later (get_or rows i past_row ∷ later))
          ((mappable-exact (query_of schema q) (having (query_of schema q) (take i rows ++ later))).1 f)

      remains : (Mapping (query_of schema q) (having (query_of schema q) (take i rows ++ later)) → ⊥)
          → kept_after (take i rows) (query_of schema q) (drop i rows) ≡ get_or rows i past_row ∷ later
      remains none =
          step
          ∙ ap (λ (b : Bool). cond b later (get_or rows i past_row ∷ later))
          (bool_cases (mappable (query_of schema q) (having (query_of schema q) (take i rows ++ later)))
          (λ is. absurd (none ((mappable-exact (query_of schema q) (having (query_of schema q) (take i rows ++ later))).0 is))) (λ is. is))

      unchanged : (b : ℕ) → left / 2 ^ i % 2 ≡ b → (Bit left i → FoldsInto domain table q.size (LeftBut left i) → ⊥) → KeptFrom (query_of schema q) left i
      unchanged b is none = go (ℕ_discrete (left / 2 ^ i % 2) 1)
        where
          go : Dec (left / 2 ^ i % 2 ≡ 1) → KeptFrom (query_of schema q) left i
          go (yes at) = marked-has past_row left rows i (omega (arith, rows-count)) at ∙ sym (remains (unmapped (none at)))
          go (no out) = marked-lacks past_row left rows i (omega (arith, rows-count)) out ∙ sym (goes (gone-mapped out (sym kept)))

      lost : (next : ℕ) → Marks q.size next (LeftBut left i) → FoldsInto domain table q.size (Bit next) → KeptFrom (query_of schema q) next i
      lost next marks w =
          marked-lacks past_row next rows i (omega (arith, rows-count)) (λ at. (before i at).1 refl)
          ∙ marked-agree (next / 2 ^ (i + 1)) (left / 2 ^ (i + 1)) (drop (i + 1) rows) same
          ∙ sym (goes (mapped (w.0, w.1, λ r h. before (w.0 r) (w.2 r h))))
        where
          before : (d : ℕ) → Bit next d → LeftBut left i d
          before d at = (marks.1 d (has-below q.size next d marks.0 at)).0 at

          same : (d : ℕ) → d < length (drop (i + 1) rows) → Bit (next / 2 ^ (i + 1)) d ↔ Bit (left / 2 ^ (i + 1)) d
          same d h =
              let long : length (drop (i + 1) rows) ≡ q.size - (i + 1) = length-drop (i + 1) rows ∙ ap (λ (k : ℕ). k - (i + 1)) rows-count in
              let low : i + 1 + d < q.size = omega arith in (
                (λ at. (bit-from left (i + 1) d).1 (before (i + 1 + d) ((bit-from next (i + 1) d).0 at)).0),
                (λ at.
                    (bit-from next (i + 1) d).1
                    ((marks.1 (i + 1 + d) low).1 ((bit-from left (i + 1) d).0 at, λ e. let e' : i + 1 + d ≡ i = e in omega arith))),
              )

      pub kept-next : (next : ℕ) → Tried domain table q.size left i next → KeptFrom (query_of schema q) next i
      kept-next next (inl (same, none)) =
          subst (λ (m : ℕ). KeptFrom (query_of schema q) m i) (sym same) (unchanged (left / 2 ^ i % 2) refl none)
      kept-next next (inr (marks, w)) = lost next marks w

-- The state after row i is tried
keeping-next : (domain table to offered : List ℕ) (size left i next : ℕ) → Keeping to offered size left (i + 1) → Tried domain table size left i next
    → Keeping to offered size next i
keeping-next domain table to offered size left i next state (inl (same, none)) =
    subst (λ (m : ℕ). Keeping to offered size m i) (sym same)
    (record { within = state.within; fresh = state.fresh; before = λ d h. state.before d (omega arith) })
keeping-next domain table to offered size left i next state (inr (marks, w)) =
    record {
      within = marks.0;
      fresh = λ d at. state.fresh d ((marks.1 d (has-below size next d marks.0 at)).0 at).0;
      before = λ d h f.
          let at : Bit left d = state.before d (omega arith) f in
          (marks.1 d (has-below size left d state.within at)).1 (at, λ e. let e' : d ≡ i = e in omega arith);
    }

-- At the start each row is left that repeats no earlier one
keeping-start : (to offered : List ℕ) (size left : ℕ) → Marks size left (λ d. Repeats to offered d → ⊥) → Keeping to offered size left size
keeping-start to offered size left marks =
    record { within = marks.0; fresh = λ d at. (marks.1 d (has-below size left d marks.0 at)).0 at; before = λ d h. (marks.1 d h).1 }

-- ---- the loop

-- What a trial over some candidates says it says over others with the same solutions
tried-same : (domain other table : List ℕ) (size left i next : ℕ) → SameSolutions (size + 1) domain other table → Tried other table size left i next
    → Tried domain table size left i next
tried-same domain other table size left i next same (inl (is, none)) = inl (is, λ at w. none at (w.0, (same w.0).0 w.1, w.2))
tried-same domain other table size left i next same (inr (marks, w)) = inr (marks, (w.0, (same w.0).1 w.1, w.2))

-- Whichever query the table is made of, and candidates with the same solutions: where the rows that repeat none are left at the start, the rows from row i on
-- are tried
abbrev pub Trying : List ℕ → List ℕ → ℕ → ℕ → ℕ → ℕ → Type 0
Trying other table size start left i =
    (q : Query) (from to domain : List ℕ) → Made q from to domain table → SameSolutions (size + 1) domain other table → q.size ≡ size
    → Marks size start (λ d. Repeats to (tableau_of q).relations d → ⊥)
    → Keeping to (tableau_of q).relations size left i
    × ((schema : List ℕ) → Narrow schema → good_query schema q ≡ true → KeptFrom (query_of schema q) left i)

pub trying-start : (other table : List ℕ) (size start : ℕ) → Trying other table size start start size
trying-start other table size start q from to domain made alike same marks = (
  keeping-start to (tableau_of q).relations size start marks,
  λ schema narrow good. subst (KeptFrom (query_of schema q) start) same (kept-none q from to domain table made schema narrow good start),
)

pub trying-next : (other table : List ℕ) (size start left i next : ℕ) → i < size → Trying other table size start left (i + 1)
    → Tried other table size left i next → Trying other table size start next i
trying-next other table size start left i next inside trying tried q from to domain made alike same marks =
    let now = trying q from to domain made alike same marks in
    let here : Tried domain table size left i next = tried-same domain other table size left i next alike tried in (
      keeping-next domain table to (tableau_of q).relations size left i next now.0 here,
      λ schema narrow good.
          kept-next q from to domain table made schema narrow good left i (omega (arith, inside, same))
          (subst (λ (n : ℕ). Keeping to (tableau_of q).relations n left (i + 1)) (sym same) now.0)
          (now.1 schema narrow good) next
          (subst (λ (n : ℕ). Tried domain table n left i next) (sym same) here),
    )

pub trying-end : (other table : List ℕ) (size start left : ℕ) → Trying other table size start left 0 → (q : Query) (from to domain : List ℕ)
    → Made q from to domain table → SameSolutions (size + 1) domain other table → q.size ≡ size
    → Marks size start (λ d. Repeats to (tableau_of q).relations d → ⊥)
    → (schema : List ℕ) → Narrow schema → good_query schema q ≡ true → IsKept schema q left
trying-end other table size start left trying q from to domain made alike same marks schema narrow good =
    let whole : left / 2 ^ 0 ≡ left = omega arith in
    sym (ap (λ (m : ℕ). marked m (query_of schema q).rows) whole) ∙ (trying q from to domain made alike same marks).1 schema narrow good
