-- Obeying a join dependency, and missing choices. Rows of entries are read as rows of numbers by an assignment.
--   1. What a choice that goes together yields is, read so, in the join of any database that has the rows.
--   2. Where no choice is missing and the reading keeps the entries of a column apart, the rows, read so, obey.
--   3. A database is its rows as rows of constants, read back; so it obeys exactly where no choice is missing.
-- Assumes nothing.
use mathlib.Core.Path.{◌≡◌, refl, sym, ◌∙◌, ap, subst}
use mathlib.Core.Logic.{⊎_elim, ◌↔◌}
use mathlib.Core.Bool.{true}
use mathlib.Core.List.Memᴰ
use mathlib.Core.List.{List, [], ◌∷◌, map, map-map}
use mathlib.Core.Option.{none}
use Prim.Native.Nat.{ℕ, ◌<◌}
use native.Mathlib.Omega.{arith}
use lib.ListN.{length, get_or, length-map, get_or-map, get_or-eq_default}
use lib.Seq.{ext_get_or}
use Rattle.lists.specs.Numbers.{numbers_where}
use Rattle.lists.proofs.Tests.{below-or-past}
use Rattle.theory.specs.Query.{Entry, constant, Row, column, map_row, FitsSchema, ◌∈◌}
use Rattle.theory.specs.Database.{Database, Sound, JoinDependency}
use Rattle.theory.specs.Answer.{value_of, itself}
use Rattle.theory.proofs.Lists.{option_cases}
use Rattle.theory.proofs.Carry.{map_row-compose, map_row-id}
use Rattle.joins.specs.Join.{InJoin, ObeysJoin, JoinFits}
use Rattle.joins.specs.JoinChase.{Choice, chosen_entry, yields, consistent, first_missing}
use Rattle.joins.specs.JoinTheorems.{ChoiceOf}
use Rattle.joins.proofs.Choices.{chosen-for, choice-for, chosen-entry, chosen-entry-in, consistent-true, true-consistent}
use Rattle.joins.proofs.Choices.{first_missing-found, first_missing-nothing}
use Rattle.joins.proofs.Choices.{yields-length, yields-relation, yields-fits, yields-column, yields-beyond}

-- A row as it is read
abbrev pub read_row : (ℕ → ℕ) → Row Entry → Row ℕ
read_row assign = map_row (value_of itself assign)

-- A column of it
pub read-column : (assign : ℕ → ℕ) (r : Row Entry) (c : ℕ) → column 0 (read_row assign r) c ≡ value_of itself assign (column (constant 0) r c)
read-column assign r c = get_or-map (value_of itself assign) r.values c (constant 0)

-- ---- 1. what a choice yields

pub yields-in-join : (widths : List ℕ) (j : JoinDependency) (rows : List (Row Entry)) (choice : Choice) (assign : ℕ → ℕ) (D : Database)
    → ((r : Row Entry) → r ∈ rows → read_row assign r ∈ D) → ChoiceOf j.sets rows choice → consistent widths j choice ≡ true
    → InJoin 0 j D (read_row assign (yields widths j choice))
yields-in-join widths j rows choice assign D into of together set at =
    let found = chosen-for set of at in
    let p = found.0 in
    let fits = consistent-true widths j choice together p found.1 in (
      read_row assign p.1,
      into p.1 (of.of-rows p found.1),
      fits.0,
      λ c there.
          read-column assign p.1 c ∙ ap (value_of itself assign) (fits.1 c (subst (λ s. c ∈ s) (sym found.2) there))
          ∙ sym (read-column assign (yields widths j choice) c),
    )

-- ---- 2. no missing choice

-- The reading keeps the entries of a column apart
abbrev pub KeepsApart : (ℕ → ℕ) → List (Row Entry) → Type 0
KeepsApart assign rows =
    (r s : Row Entry) → r ∈ rows → s ∈ rows → (c : ℕ) → value_of itself assign (column (constant 0) r c) ≡ value_of itself assign (column (constant 0) s c)
    → column (constant 0) r c ≡ column (constant 0) s c

module _ (widths : List ℕ) (j : JoinDependency) (fits : JoinFits widths j) (rows : List (Row Entry))
    (fit : (r : Row Entry) → r ∈ rows → FitsSchema widths r) (assign : ℕ → ℕ) (apart : KeepsApart assign rows) where
  -- A chosen row is of the relation and, read, agrees on its set with a row of numbers
  abbrev pub Reads : Row ℕ → List ℕ → Row Entry → Type 0
  Reads r set s = (s.relation ≡ j.relation) × ((c : ℕ) → c ∈ set → value_of itself assign (column (constant 0) s c) ≡ column 0 r c)

  -- What the choice has in a column of one of its sets is read as what the row has
  reads-entry : (r : Row ℕ) (choice : Choice) → ((p : List ℕ × Row Entry) → p ∈ choice → Reads r p.0 p.1)
      → (p : List ℕ × Row Entry) → p ∈ choice → (c : ℕ) → c ∈ p.0 → value_of itself assign (chosen_entry choice c) ≡ column 0 r c
  reads-entry r choice all p at c there =
      let found = chosen-entry-in choice c p at there in
      ap (value_of itself assign) found.3 ∙ (all found.0 found.1).1 c found.2

  -- so the choice goes together
  pub reads-consistent : (r : Row ℕ) (choice : Choice) → ChoiceOf j.sets rows choice → ((p : List ℕ × Row Entry) → p ∈ choice → Reads r p.0 p.1)
      → consistent widths j choice ≡ true
  reads-consistent r choice of all = true-consistent widths j choice (λ p at. (
    (all p at).0,
    λ c there. ⊎_elim
        (λ less.
        let found = chosen-entry-in choice c p at there in
        apart p.1 found.0.1 (of.of-rows p at) (of.of-rows found.0 found.1) c
        ((all p at).1 c there ∙ sym ((all found.0 found.1).1 c found.2))
        ∙ sym found.3 ∙ sym (yields-column widths j choice c less))
        (λ past.
        let wide = (fit p.1 (of.of-rows p at)).1 in
        let same = ap (λ n. get_or widths n 0) (all p at).0 in
        get_or-eq_default p.1.values (constant 0) (omega (arith, wide, same)) ∙ sym (yields-beyond widths j choice c past))
        (below-or-past c (get_or widths j.relation 0)),
  ))

  -- and yields the row
  pub reads-row : (r : Row ℕ) (choice : Choice) → FitsSchema widths r → r.relation ≡ j.relation → ChoiceOf j.sets rows choice
      → ((p : List ℕ × Row Entry) → p ∈ choice → Reads r p.0 p.1) → read_row assign (yields widths j choice) ≡ r
  reads-row r choice wide relation of all =
      let y = yields widths j choice in
      let long : length (read_row assign y).values ≡ get_or widths j.relation 0 =
      length-map y.values (value_of itself assign) ∙ yields-length widths j choice
      in
      let values : (read_row assign y).values ≡ r.values =
      ext_get_or 0 (read_row assign y).values r.values (long ∙ sym (wide.1 ∙ ap (λ n. get_or widths n 0) relation))
      (λ c less.
      let below : c < get_or widths j.relation 0 = omega (arith, long) in
      let set = fits.covers c below in
      let p = chosen-for set.0 of set.1 in
      read-column assign y c ∙ ap (value_of itself assign) (yields-column widths j choice c below)
      ∙ reads-entry r choice all p.0 p.1 c (subst (λ s. c ∈ s) (sym p.2) set.2)) in
      let same : (read_row assign y).relation ≡ r.relation = yields-relation widths j choice ∙ sym relation in
      λ i. record { relation = same i; values = values i }

  -- A row that is there is in the join; and one in the join is there, for what its choice yields is
  pub no-missing-obeys : first_missing widths rows j ≡ none → ObeysJoin widths j (map (read_row assign) rows)
  no-missing-obeys nothing r wide relation = (
    λ at set held. (r, at, relation, λ c there. refl),
    λ joined.
        let pick = choice-for j.sets rows (Reads r) (λ set held.
        let s = joined set held in
        let from = Memᴰ.of_map (read_row assign) rows s.1 in (
          from.0,
          from.1,
          (ap (λ t. t.relation) from.2 ∙ s.2, λ c there. sym (read-column assign from.0 c) ∙ ap (λ t. column 0 t c) from.2 ∙ s.3 c there),
        )) in
        let choice = pick.0 in
        Memᴰ.cast (sym (reads-row r choice wide relation pick.1 pick.2))
        (Memᴰ.map (read_row assign) (first_missing-nothing widths rows j nothing choice pick.1 (reads-consistent r choice pick.1 pick.2))),
  )

-- ---- 3. databases

-- Rows of constants, read back
pub constants-read : (D : Database) → map (read_row itself) (map (map_row constant) D) ≡ D
constants-read D = map-map (read_row itself) (map_row constant) D ∙ go D
  where
    go : (E : Database) → map (λ r. read_row itself (map_row constant r)) E ≡ E
    go [] = refl
    go (r ∷ E) = λ i. (map_row-compose (value_of itself itself) constant r ∙ map_row-id (λ n. n) r (λ n at. refl)) i ∷ go E i

-- A column of a row of constants is a constant
constant-column : (D : Database) (r : Row Entry) → r ∈ map (map_row constant) D → (c : ℕ) → (n : ℕ) × (column (constant 0) r c ≡ constant n)
constant-column D r at c =
    let from = Memᴰ.of_map (map_row constant) D at in
    (column 0 from.0 c, ap (λ t. column (constant 0) t c) (sym from.2) ∙ get_or-map constant from.0.values c 0)

-- Such columns are kept apart
pub constants-apart : (D : Database) → KeepsApart itself (map (map_row constant) D)
constants-apart D r s at at' c same =
    let m = constant-column D r at c in
    let n = constant-column D s at' c in
    m.1 ∙ ap constant (sym (ap (value_of itself itself) m.1) ∙ same ∙ ap (value_of itself itself) n.1) ∙ sym n.1

module _ (widths : List ℕ) (j : JoinDependency) (fits : JoinFits widths j) (D : Database) (sound : Sound widths D) where
  pub rows_fit : (r : Row Entry) → r ∈ map (map_row constant) D → FitsSchema widths r
  rows_fit r at =
      let from = Memᴰ.of_map (map_row constant) D at in
      let wide = sound from.0 from.1 in
      subst (FitsSchema widths) from.2 (wide.0, length-map from.0.values constant ∙ wide.1)

  -- What a choice of rows of constants yields is a row of constants
  yields-constants : (choice : Choice) → ChoiceOf j.sets (map (map_row constant) D) choice → (c : ℕ)
      → constant (value_of itself itself (chosen_entry choice c)) ≡ chosen_entry choice c
  yields-constants choice of c =
      let known : (e : Entry) (n : ℕ) → e ≡ constant n → constant (value_of itself itself e) ≡ e =
      λ e n is. ap (λ x. constant (value_of itself itself x)) is ∙ sym is in
      ⊎_elim
      (λ found.
      let n = constant-column D found.0.1 (of.of-rows found.0 found.1) c in
      known (chosen_entry choice c) n.0 (found.3 ∙ n.1))
      (λ nothing. known (chosen_entry choice c) 0 nothing.1)
      (chosen-entry choice c)

  pub yields-back : (choice : Choice) → ChoiceOf j.sets (map (map_row constant) D) choice
      → map_row constant (read_row itself (yields widths j choice)) ≡ yields widths j choice
  unfolding yields
  yields-back choice of =
      map_row-compose constant (value_of itself itself) (yields widths j choice)
      ∙ map_row-id (λ e. constant (value_of itself itself e)) (yields widths j choice)
      (λ e at.
      let from = Memᴰ.of_map (chosen_entry choice) (numbers_where (λ c. true) 0 (get_or widths j.relation 0)) at in
      ap (λ x. constant (value_of itself itself x)) (sym from.2) ∙ yields-constants choice of from.0 ∙ from.2)

  pub obeys-join-exact : (first_missing widths (map (map_row constant) D) j ≡ none) ↔ ObeysJoin widths j D
  obeys-join-exact = (
    λ nothing.
        subst (ObeysJoin widths j) (constants-read D)
        (no-missing-obeys widths j fits (map (map_row constant) D) rows_fit itself (constants-apart D) nothing),
    λ obeys.
        option_cases (first_missing widths (map (map_row constant) D) j)
        (λ choice e.
        let found = first_missing-found widths (map (map_row constant) D) j choice e in
        let y = yields widths j choice in
        let wide = yields-fits widths j choice fits.known in
        let joined = yields-in-join widths j (map (map_row constant) D) choice itself D
        (λ r at. subst (λ E. read_row itself r ∈ E) (constants-read D) (Memᴰ.map (read_row itself) at)) found.0 found.1 in
        absurd (found.2 (Memᴰ.cast (sym (yields-back choice found.0)) (Memᴰ.map (map_row constant)
        ((obeys (read_row itself y) (wide.0, length-map y.values (value_of itself itself) ∙ wide.1) (yields-relation widths j choice)).1 joined)))))
        (λ nothing. nothing),
  )
