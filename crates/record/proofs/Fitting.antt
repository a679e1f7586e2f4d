-- The held dependencies of a good record fit its schema. Assumes nothing.
use mathlib.Core.Path.{◌≡◌, sym, subst}
use mathlib.Core.Bool.{true}
use mathlib.Core.List.Memᴰ
use mathlib.Core.List.{List, ◌∷◌, map}
use Prim.Native.Nat.{ℕ, ◌+◌, ◌<◌}
use native.Mathlib.Omega.{arith}
use lib.ListN.{take, get_or}
use Rattle.theory.specs.Query.{◌∈◌}
use Rattle.theory.specs.Database as database
use Rattle.determination.specs.Determined.{FitsColumns}
use Rattle.lists.specs.Tests.{every}
use Rattle.lists.proofs.Tests.{and_left, and_right, used-good}
use Rattle.query.specs.declared.Dependency.{Dependency}
use Rattle.query.specs.View.{dependency_of}
use Rattle.query.specs.Rule.{good_dependency, blank_dependency}
use Rattle.query.proofs.Good.{good-dependency}
use Rattle.query.proofs.Stored.{columns-below}
use Rattle.record.specs.declared.Record.{Record}
use Rattle.record.specs.View.{schema_of, dependencies_of}
use Rattle.record.specs.Rule.{good_record}
use Rattle.record.proofs.Good.{good-record}

-- A stored dependency fits the schema
dependency-fits : (schema : List ℕ) (d : Dependency) → good_dependency schema d ≡ true → FitsColumns schema (dependency_of d)
dependency-fits schema d e =
    let good = good-dependency schema d e in
    record {
      relation = good.relation;
      left = λ c at. let h : c < 0 + get_or schema d.relation 0 = columns-below 0 8 d.left (get_or schema d.relation 0) good.left at in omega arith;
      right = good.right;
    }

-- So does each of a list of them
held-fit : (schema : List ℕ) (ds : List Dependency) {d : database.Dependency} → every (good_dependency schema) ds ≡ true → d ∈ map dependency_of ds
    → FitsColumns schema d
unfolding every
held-fit schema mathlib.Core.List.[] {d = d} e x'' = elim x'' [ ]
held-fit schema (k ∷ ds) e (Memᴰ.head p) =
    subst (FitsColumns schema) (sym p) (dependency-fits schema k (and_left (good_dependency schema k) (every (good_dependency schema) ds) e))
held-fit schema (k ∷ ds) e (Memᴰ.tail at) = held-fit schema ds (and_right (good_dependency schema k) (every (good_dependency schema) ds) e) at

-- And each that a good record holds
pub dependencies-fit : (r : Record) → good_record r ≡ true → (d : database.Dependency) → d ∈ dependencies_of r → FitsColumns (schema_of r) d
dependencies-fit r good d at =
    held-fit (schema_of r) (take r.held r.dependencies)
    (used-good r.held (good_dependency (schema_of r)) blank_dependency r.dependencies (good-record r good).dependencies) at
