-- What the calls' equations come to, in the words of SPECIFICATION, Calls on the record. Each statement is proved in `proofs/Meaning`.
use Rattle.std.specs.Prelude.{◌≡◌, true, [], ◌∷◌, ◌++◌, ℕ, ◌<◌, length}
use Rattle.query.specs.Types.{Query}
use Rattle.query.specs.declared.Dependency.{Dependency}
use Rattle.query.specs.declared.JoinDependency.{JoinDependency}
use Rattle.query.specs.declared.CodePair.{CodePair}
use Rattle.theory.specs.Query.{◌∈◌}
use Rattle.theory.specs.Codes as Codes
use Rattle.theory.specs.Codes.{read_code, CurrentStay}
use Rattle.record.specs.declared.Record.{Record}
use Rattle.refusals.specs.Refusals.{Reply, gives}
use Rattle.query.specs.View.{dependency_of, join_of, pair_of}
use Rattle.record.specs.View.{codes_of, dependencies_of, joins_of}
use Rattle.record.specs.Rule.{good_record}
use Rattle.record.specs.Calls.{add_code, add_dependency, add_join, put_query}

-- A call that is done leaves a record that 14 passes
abbrev pub LeavesGood : Reply (Unit {0}) × Record → Type 0
LeavesGood said = said.0 ≡ gives tt → good_record said.1 ≡ true

-- So does adding a pair of codes: a record has room for 16
abbrev pub AddCodeKeeps : Type 0
AddCodeKeeps = (r : Record) (p : CodePair) → length r.codes ≡ 16 → LeavesGood (add_code r p)

-- and it is held then, after those that were
abbrev pub AddCodeHolds : Type 0
AddCodeHolds = (r : Record) (p : CodePair) → length r.codes ≡ 16 → (add_code r p).0 ≡ gives tt → codes_of (add_code r p).1 ≡ codes_of r ++ pair_of p ∷ []

-- In a record that 14 passes no current code is an old one, so that to read twice is to read once
abbrev pub CodesStay : Type 0
CodesStay = (r : Record) → good_record r ≡ true → CurrentStay (codes_of r)

-- Each of its old codes is read as its current one
abbrev pub OldCodesRead : Type 0
OldCodesRead = (r : Record) → good_record r ≡ true → (p : Codes.CodePair) → p ∈ codes_of r → read_code (codes_of r) p.old ≡ p.current

-- and no old code is so high that a query read as a database has it for a variable
abbrev pub OldBelow : Type 0
OldBelow = (r : Record) → good_record r ≡ true → (p : Codes.CodePair) → p ∈ codes_of r → p.old < 2147483648

-- So does adding a functional dependency: a record has room for 32
abbrev pub AddKeeps : Type 0
AddKeeps = (r : Record) (d : Dependency) → length r.dependencies ≡ 32 → LeavesGood (add_dependency r d)

-- and whatever its numbers it is held then, after those that were
abbrev pub AddHolds : Type 0
AddHolds =
    (r : Record) (d : Dependency) → length r.dependencies ≡ 32 → (add_dependency r d).0 ≡ gives tt
    → dependencies_of (add_dependency r d).1 ≡ dependencies_of r ++ dependency_of d ∷ []

-- So does adding a join dependency: a record has room for 4
abbrev pub AddJoinKeeps : Type 0
AddJoinKeeps = (r : Record) (j : JoinDependency) → length r.joins ≡ 4 → LeavesGood (add_join r j)

-- and it is held then, after those that were
abbrev pub AddJoinHolds : Type 0
AddJoinHolds =
    (r : Record) (j : JoinDependency) → length r.joins ≡ 4 → (add_join r j).0 ≡ gives tt → joins_of (add_join r j).1 ≡ joins_of r ++ join_of j ∷ []

-- So does putting a query
abbrev pub PutKeeps : Type 0
PutKeeps = (r : Record) (place : ℕ) (q : Query) → LeavesGood (put_query r place q)
