-- The columns that a set of columns determines: what it means over all databases, and the closure that computes it.
use Rattle.std.specs.Prelude.{◌≡◌, Bool, not, ◌&&◌, List, [], ◌∷◌, ℕ, zero, suc, ◌<◌, eqb, length, get_or}
use Rattle.std.proofs.Math.Option.{Option, none, some}
use Rattle.lists.specs.Numbers.{numbers_where}
use Rattle.theory.specs.Query.{Row, column, member, subset, ◌∈◌}
use Rattle.theory.specs.Database.{Database, Dependency, Agree, Legal}
use Rattle.theory.specs.Chase.{first_passing}

-- The left set determines column c of a relation: two rows of it that agree on the left set agree on c, in every legal database
abbrev pub Determines : List ℕ → List Dependency → ℕ → List ℕ → ℕ → Type 0
Determines widths ds relation left c =
    (D : Database) → Legal widths ds D → (r s : Row ℕ) → r ∈ D → s ∈ D
    → r.relation ≡ relation → s.relation ≡ relation → Agree 0 left r s → column 0 r c ≡ column 0 s c

-- The columns of a relation that the left set determines
abbrev pub Determined : List ℕ → List Dependency → ℕ → List ℕ → ℕ → Type 0
Determined widths ds relation left c = (c < get_or widths relation 0) × Determines widths ds relation left c

-- A dependency fits a schema: its relation is known, and its columns are columns of that relation
pub record FitsColumns (widths : List ℕ) (d : Dependency) : Type 0 where
  pub relation : d.relation < length widths
  pub left : (c : ℕ) → c ∈ d.left → c < get_or widths d.relation 0
  pub right : d.right < get_or widths d.relation 0

-- Each number is less than all that follow it
abbrev pub Increasing : List ℕ → Type 0
Increasing [] = Unit {0}
Increasing (n ∷ ns) = ((m : ℕ) → m ∈ ns → n < m) × Increasing ns

-- Whether a dependency adds its right column to the known columns of a relation
unfoldable pub adds : ℕ → List ℕ → Dependency → Bool
adds relation known d = eqb d.relation relation && subset d.left known && not (member d.right known)

-- The known columns with those that a found dependency leads to; `again` goes on from the larger set
unfoldable pub grow_on : (List ℕ → List ℕ) → List ℕ → Option Dependency → List ℕ
grow_on again known none = known
grow_on again known (some d) = again (d.right ∷ known)

-- The known columns after at most so many additions
unfoldable pub grow_for : ℕ → List Dependency → ℕ → List ℕ → List ℕ
grow_for zero ds relation known = known
grow_for (suc n) ds relation known = grow_on (grow_for n ds relation) known (first_passing (adds relation known) ds)

-- The closure of a set of columns: each dependency adds at most once
unfoldable pub closure : List Dependency → ℕ → List ℕ → List ℕ
closure ds relation left = grow_for (length ds) ds relation left

-- The columns of a relation of the given width that the left set determines, ascending
unfoldable pub determined : List Dependency → ℕ → ℕ → List ℕ → List ℕ
determined ds relation width left = numbers_where (λ c. member c (closure ds relation left)) 0 width
