-- What the search for the next row promises, from what it finds for each join dependency in turn. Assumes nothing.
use mathlib.Core.Path.{◌≡◌, sym, ◌∙◌, ap, subst}
use mathlib.Core.Logic.{⊎_elim}
use mathlib.Core.Bool.{true}
use mathlib.Core.List.{List, map}
use mathlib.Core.Option.{Option, none, some}
use Prim.Native.Nat.{ℕ, ◌+◌, ◌≤◌, ◌<◌}
use native.Mathlib.Omega.{arith}
use lib.ListN.{length, take, get_or}
use Rattle.lists.specs.Tests.{every}
use Rattle.lists.proofs.Tests.{below-or-past}
use Rattle.theory.specs.Query.{Entry, Row}
use Rattle.query.specs.declared.Cell.{Cell}
use Rattle.query.specs.Types.{Tableau}
use Rattle.query.specs.declared.JoinDependency.{JoinDependency}
use Rattle.query.specs.View.{entries_of, query_of, as_query}
use Rattle.query.specs.Rule.{good_tableau, good_join, good_row}
use Rattle.query.proofs.Good.{good-query}
use Rattle.query.proofs.Shape.{row_count}
use Rattle.join_search.specs.internal.Search.{free_row, extend_of}
use Rattle.std.specs.Prelude.{None, Some}
use Rattle.join_step.specs.internal.Step.{cell_of, IsNext}
use Rattle.tableaux.specs.internal.Codes.{codes_of}
use Rattle.join_step.proofs.Choosing.{Coded}
use Rattle.join_step.proofs.Coded.{tableau-coded}
use Rattle.join_step.proofs.Found.{next-none, next-found}

-- What is found for join dependency k
abbrev pub found_for : List ℕ → List ℕ → ℕ → List JoinDependency → JoinDependency → ℕ → Option (List ℕ)
found_for codes relations size joins z k =
    extend_of codes relations size (get_or joins k z).relation (take (get_or joins k z).count (get_or joins k z).sets) free_row

-- Nothing is found for those before k, each of which has 4 sets
abbrev pub NothingBefore : List ℕ → List ℕ → ℕ → List JoinDependency → JoinDependency → ℕ → Type 0
NothingBefore codes relations size joins z k =
    (e : ℕ) → e < k → (length (get_or joins e z).sets ≡ 4) × (found_for codes relations size joins z e ≡ none)

-- Nor for k
pub nothing-more : (codes relations : List ℕ) (size : ℕ) (joins : List JoinDependency) (z : JoinDependency) (k : ℕ) → NothingBefore codes relations size joins z k
    → length (get_or joins k z).sets ≡ 4 → none ≡ found_for codes relations size joins z k
    → NothingBefore codes relations size joins z (k + 1)
nothing-more codes relations size joins z k before four found e less =
    ⊎_elim (before e)
    (λ past.
    let same : k ≡ e = omega arith in
    subst (λ (n : ℕ). (length (get_or joins n z).sets ≡ 4) × (found_for codes relations size joins z n ≡ none)) same
    (four, sym found))
    (below-or-past e k)

module _ (t : Tableau) (joins : List JoinDependency) (codes : List ℕ) (is-codes : codes ≡ codes_of t.cells)
    (relations-long : length t.relations ≡ 24) (cells-long : length t.cells ≡ 192) (z : JoinDependency)
    (schema : List ℕ) (narrow : (i : ℕ) → get_or schema i 0 ≤ 8) (good : good_tableau schema t ≡ true) (good-joins : every (good_join schema) joins ≡ true) where
  rows : List (Row Entry)
  rows = (query_of schema (as_query t)).rows

  fits : t.size ≤ 24
  fits = (good-query 24 schema (as_query t) good).size

  coded : Coded schema rows (codes_of t.cells) t.relations
  unfolding rows
  coded = tableau-coded 24 schema narrow (as_query t) good (omega (arith, fits, relations-long)) (omega (arith, fits, cells-long))

  -- What is found is found in the rows
  in_rows : (k : ℕ) (o : Option (List ℕ)) → found_for codes t.relations t.size joins z k ≡ o
      → found_for (codes_of t.cells) t.relations (length rows) joins z k ≡ o
  unfolding rows
  in_rows k o e =
      ap (λ n. found_for (codes_of t.cells) t.relations n joins z k) (row_count schema (as_query t) (omega (arith, fits, relations-long)))
      ∙ ap (λ l. found_for l t.relations t.size joins z k) (sym is-codes) ∙ e

  pub next-nothing : NothingBefore codes t.relations t.size joins z (length joins) → IsNext schema t joins None
  unfolding rows
  next-nothing nothing = record {
    row_is =
        next-none schema narrow rows (codes_of t.cells) t.relations coded joins good-joins z
        (λ e less. ((nothing e less).0, in_rows e none (nothing e less).1));
    good = tt;
  }

  pub next_one : (k : ℕ) → k < length joins → NothingBefore codes t.relations t.size joins z k → length (get_or joins k z).sets ≡ 4
      → (row : List ℕ) → some row ≡ found_for codes t.relations t.size joins z k → (cells : List Cell) → cells ≡ map cell_of row
      → IsNext schema t joins (Some (record { relation = (get_or joins k z).relation; row = cells }))
  unfolding rows
  next_one k h nothing four row found cells is =
      let both = next-found schema narrow rows (codes_of t.cells) t.relations coded joins good-joins z k row h
      (λ e less. ((nothing e less).0, in_rows e none (nothing e less).1)) four
      (in_rows k (some row) (sym found)) in
      record {
        row_is =
            ap (λ (l : List Cell).
            some (record {
              relation = (get_or joins k z).relation;
              values = entries_of (take (get_or schema (get_or joins k z).relation 0) l);
            })) is ∙ both.0;
        good = ap (good_row schema (get_or joins k z).relation) is ∙ both.1;
      }
