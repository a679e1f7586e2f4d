-- What the formats of the parts come to: their laws, that what they call good is the record's rule, and how long a query part is.
-- Each statement is proved in `proofs/Meaning`.
use Rattle.std.specs.Prelude.{◌≡◌, ◌↔◌, true, List, ℕ, ◌+◌, ◌*◌, ◌≤◌, length, take}
use Rattle.query.specs.declared.Dependency.{Dependency}
use Rattle.query.specs.declared.JoinDependency.{JoinDependency}
use Rattle.query.specs.declared.CodePair.{CodePair}
use Rattle.query.specs.Types.{Query}
use Rattle.query.specs.Rule.{good_relations, good_codes, good_dependencies, good_joins, good_up_to, shaped_for, shaped_join}
use Rattle.lists.specs.Tests.{every}
use Rattle.format.specs.Format.{Lawful}
use Rattle.format.specs.Parts.{relations, codes, dependencies, joins, query_for}

-- ---- the laws

-- Relations that are written are read back, and what is read was good and is written as the same bytes
abbrev pub RelationsLawful : Type 0
RelationsLawful = Lawful relations

-- So with pairs of codes
abbrev pub CodesLawful : Type 0
CodesLawful = Lawful codes

-- So with functional dependencies
abbrev pub DependenciesLawful : Type 0
DependenciesLawful = (schema : List ℕ) → Lawful (dependencies schema)

-- So with join dependencies
abbrev pub JoinsLawful : Type 0
JoinsLawful = (schema : List ℕ) → Lawful (joins schema)

-- So with queries, where the relations are good, whatever room for rows they have
abbrev pub QueriesLawful : Type 0
QueriesLawful = (most n : ℕ) (widths : List ℕ) → good_relations n widths ≡ true → Lawful (query_for most (take n widths))

-- ---- the record's rule, for arrays as long as their types say

-- Relations that the format calls good are those of the rule
abbrev pub RelationsRule : Type 0
RelationsRule = (n : ℕ) (widths : List ℕ) → (relations.good (n, widths) ≡ true) ↔ ((length widths ≡ 8) × (good_relations n widths ≡ true))

-- So with pairs of codes, where one is held
abbrev pub CodesRule : Type 0
CodesRule =
    (n : ℕ) (ps : List CodePair) → (codes.good (n, ps) ≡ true) ↔ ((1 ≤ n) × (length ps ≡ 16) × (good_codes n ps ≡ true))

-- So with functional dependencies
abbrev pub DependenciesRule : Type 0
DependenciesRule =
    (schema : List ℕ) (n : ℕ) (ds : List Dependency)
    → ((dependencies schema).good (n, ds) ≡ true) ↔ ((length ds ≡ 32) × (good_dependencies schema n ds ≡ true))

-- So with join dependencies, where one is held
abbrev pub JoinsRule : Type 0
JoinsRule =
    (schema : List ℕ) (n : ℕ) (js : List JoinDependency)
    → ((joins schema).good (n, js) ≡ true) ↔ ((1 ≤ n) × (length js ≡ 4) × (every shaped_join js ≡ true) × (good_joins schema n js ≡ true))

-- So with queries. That the head is safe is asked apart, by refusal 6
abbrev pub QueriesRule : Type 0
QueriesRule =
    (most : ℕ) (schema : List ℕ) (q : Query) → ((query_for most schema).good q ≡ true) ↔ ((shaped_for most q ≡ true) × (good_up_to most schema q ≡ true))

-- ---- the longest query part

-- A query part has two bytes, at most 40 of the head and at most 41 for each row: at most 534 bytes of a stored query, 1,026 of one with 24 rows
abbrev pub QueryPartShort : Type 0
QueryPartShort =
    (most n : ℕ) (widths : List ℕ) (q : Query) → good_relations n widths ≡ true → good_up_to most (take n widths) q ≡ true
    → length ((query_for most (take n widths)).put q) ≤ 42 + 41 * most
