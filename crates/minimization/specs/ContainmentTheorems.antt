-- What is proved of containment, and of the search that computes it. Each statement is proved in `proofs/Theorems`.
-- Of p only its rows must fit the schema, and of q nothing is asked: a stored query meets more.
use Rattle.std.specs.Prelude.{◌≡◌, ◌≢◌, ◌↔◌, ◌⊎◌, true, false, List, [], ℕ, ◌<◌}
use Rattle.theory.specs.Query.{Entry, constant, Query, RowsFit}
use Rattle.theory.specs.Database.{Database, Dependency, Legal}
use Rattle.theory.specs.Answer.{Mapping}
use Rattle.theory.specs.Chase.{chase}
use Rattle.theory.specs.Containment.{Contained, Counterexample, freeze, frozen_rows, frozen_head, ConstantsBelow, StandsFor}
use Rattle.minimization.specs.Search.{mappable, contained}

-- p chases to never, or q can be mapped to the chased p
abbrev pub NeverOrMapping : List Dependency → Query → Query → Type 0
NeverOrMapping ds p q = ((chase ds p).query.rows ≡ []) ⊎ Mapping q (chase ds p).query

-- That is so exactly when p is contained in q: on every legal database each answer of p is an answer of q
abbrev pub ContainedExactly : Type 0
ContainedExactly = (widths : List ℕ) (ds : List Dependency) (p q : Query) → RowsFit widths p → NeverOrMapping ds p q ↔ Contained (Legal widths ds) p q

-- Otherwise the chased p, read as a database, shows that it is not: it is legal, and its head is an answer of p and not of q
abbrev pub ChasedCounterexample : Type 0
ChasedCounterexample =
    (widths : List ℕ) (ds : List Dependency) (p q : Query) (base : ℕ)
    → RowsFit widths p → ConstantsBelow base p → ConstantsBelow base q → 0 < base → (NeverOrMapping ds p q → ⊥)
    → Counterexample (Legal widths ds) p q (frozen_rows base (chase ds p).query) (frozen_head base (chase ds p).query)

-- A counterexample refutes containment
abbrev pub CounterexampleRefutes : Type 1
CounterexampleRefutes = (C : Database → Type 0) (p q : Query) (D : Database) (t : List ℕ) → Counterexample C p q D t → Contained C p q → ⊥

-- The reading keeps entries apart where the constants are below the base
abbrev pub FreezeApart : Type 0
FreezeApart =
    (base : ℕ) (x y : Entry) → ((n : ℕ) → x ≡ constant n → n < base) → ((n : ℕ) → y ≡ constant n → n < base)
    → freeze base x ≡ freeze base y → x ≡ y

-- ---- what is computed

-- The search succeeds exactly where there is a mapping
abbrev pub MappableExactly : Type 0
MappableExactly = (S T : Query) → (mappable S T ≡ true) ↔ Mapping S T

-- `contained` is true exactly when p is contained in q
abbrev pub ContainedComputes : Type 0
ContainedComputes = (widths : List ℕ) (ds : List Dependency) (p q : Query) → RowsFit widths p → (contained ds p q ≡ true) ↔ Contained (Legal widths ds) p q

-- and false exactly when some database shows that it is not
abbrev pub NotContainedComputes : Type 0
NotContainedComputes =
    (widths : List ℕ) (ds : List Dependency) (p q : Query) → RowsFit widths p
    → (contained ds p q ≡ false) ↔ ((D : Database) × (t : List ℕ) × Counterexample (Legal widths ds) p q D t)

-- ---- over a class of databases

-- Where a chased query stands for p over a class of databases, p is contained in q over the class exactly when that query is never or q can be mapped to it
abbrev pub ContainedOverExactly : Type 1
ContainedOverExactly =
    (C : Database → Type 0) (base : ℕ) (p q chased : Query) → StandsFor C base p chased → ConstantsBelow base q
    → ((chased.rows ≡ []) ⊎ Mapping q chased) ↔ Contained C p q

-- Otherwise that query, read as a database, shows that it is not
abbrev pub ChasedCounterexampleOver : Type 1
ChasedCounterexampleOver =
    (C : Database → Type 0) (base : ℕ) (p q chased : Query) → StandsFor C base p chased → ConstantsBelow base q
    → chased.rows ≢ [] → (Mapping q chased → ⊥) → Counterexample C p q (frozen_rows base chased) (frozen_head base chased)
