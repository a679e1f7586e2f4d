-- The search for a missing row over rows as codes: the theory's search (`search_from` of `JoinTheorems`) with what is chosen in place of the rows that are.
use Rattle.std.specs.Prelude.{◌≡◌, Bool, true, false, cond, not, ◌&&◌, List, [], ◌∷◌, map, ℕ, zero, suc, ◌+◌, ◌*◌, ◌/◌, ◌%◌, ◌≤◌, ◌<◌, eqb, get_or, replicate, None, Some}
use Rattle.std.specs.Prelude as prelude
use Rattle.std.proofs.Math.Option.{Option, none, some, or_else}
use Rattle.lists.specs.Tests.{every}
use Rattle.lists.specs.Numbers.{numbers_where}
use Rattle.theory.specs.Query.{member}
use Rattle.query.specs.declared.JoinDependency.{JoinDependency}
use Rattle.query.specs.View.{columns_of}
use Rattle.tableaux.specs.internal.Codes.{same_on}

-- ---- numbers in turn

-- What is found first for the n numbers from `start` on
unfoldable pub first_of : {A : Type 0} → (ℕ → Option A) → ℕ → ℕ → Option A
first_of find start zero = none
first_of find start (suc n) = or_else (find start) (first_of find (suc start) n)

-- Whether one of the n numbers from `start` on passes a test
unfoldable pub some_of : (ℕ → Bool) → ℕ → ℕ → Bool
some_of test start zero = false
some_of test start (suc n) = cond (test start) true (some_of test (suc start) n)

-- ---- rows and what is chosen

-- The code that no entry has
abbrev pub free : ℕ
free = 4294967295

-- Nothing chosen
abbrev pub free_row : List ℕ
free_row = replicate 8 free

-- Whether column c of row i is as chosen, or nothing is chosen there
abbrev pub goes_at : List ℕ → List ℕ → ℕ → ℕ → Bool
goes_at codes chosen i c = cond (eqb (get_or chosen c 0) free) true (eqb (get_or chosen c 0) (get_or codes (8 * i + c) 0))

-- Whether row i is so in the columns of a set
unfoldable pub goes : List ℕ → ℕ → List ℕ → ℕ → Bool
goes codes set chosen i = every (goes_at codes chosen i) (columns_of set)

-- What is chosen with the columns of a set from row i
unfoldable pub choose : List ℕ → ℕ → List ℕ → ℕ → List ℕ
choose codes set chosen i =
    map (λ c. cond (member c (columns_of set)) (get_or codes (8 * i + c) 0) (get_or chosen c 0)) (numbers_where (λ c. true) 0 8)

-- Whether row i is of the relation and goes
abbrev pub row_goes : List ℕ → List ℕ → ℕ → ℕ → List ℕ → ℕ → Bool
row_goes codes relations relation set chosen i = eqb (get_or relations i 0) relation && goes codes set chosen i

-- Whether one of the rows is so
abbrev pub some_goes : List ℕ → List ℕ → ℕ → ℕ → ℕ → List ℕ → Bool
some_goes codes relations size relation set chosen = some_of (row_goes codes relations relation set chosen) 0 size

-- Whether each of some sets has such a row
abbrev pub all_go : List ℕ → List ℕ → ℕ → ℕ → List ℕ → List ℕ → Bool
all_go codes relations size relation sets chosen = every (λ set. some_goes codes relations size relation set chosen) sets

-- ---- the search

-- The first row that a choice for some sets yields with what is chosen, and that is not there: one is there if it has what is chosen in every column
unfoldable pub extend_of : List ℕ → List ℕ → ℕ → ℕ → List ℕ → List ℕ → Option (List ℕ)
extend_of codes relations size relation [] chosen = cond (some_goes codes relations size relation 255 chosen) none (some chosen)
extend_of codes relations size relation (set ∷ sets) chosen =
    first_of
    (λ i. cond (row_goes codes relations relation set chosen i) (extend_of codes relations size relation sets (choose codes set chosen i)) none)
    0 size

-- What a result stands for
abbrev pub found_of : prelude.Option (List ℕ) → Option (List ℕ)
found_of None = none
found_of (Some row) = some row

-- ---- rows that need not be tried

-- Whether row i is of the relation, and no earlier row of the relation is the same in the columns of a set
abbrev pub is_first : List ℕ → List ℕ → ℕ → ℕ → ℕ → Bool
is_first codes relations relation set i =
    eqb (get_or relations i 0) relation && not (some_of (λ e. eqb (get_or relations e 0) relation && same_on codes set i e) 0 i)

-- Which rows are so for each set of a join dependency: at t row t % 24 for set t / 24
abbrev pub Spare : List ℕ → List ℕ → JoinDependency → List Bool → Type 0
Spare codes relations j tried =
    (t : ℕ) → t < 96 → get_or tried t false ≡ is_first codes relations j.relation (get_or j.sets (t / 24) 0) (t % 24)

-- ---- what the search asks

-- How many of 24 rows are in use, and which are to be tried for the sets, of which k are dealt with
pub record Extendable (codes relations : List ℕ) (size : ℕ) (j : JoinDependency) (tried : List Bool) (k : ℕ) : Type 0 where
  pub size_fits : size ≤ 24
  pub count_fits : j.count ≤ 4
  pub sets-left : k ≤ j.count
  pub spare : Spare codes relations j tried
