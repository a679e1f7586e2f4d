-- The statements of `specs/Meaning`. Assumes nothing.
use lib.ListN.{take}
use Rattle.query.proofs.Good as rule
use Rattle.format.specs.Meaning.{RelationsLawful, CodesLawful, DependenciesLawful, JoinsLawful, QueriesLawful, RelationsRule, CodesRule, DependenciesRule, JoinsRule}
use Rattle.format.specs.Meaning.{QueriesRule, QueryPartShort}
use Rattle.format.proofs.Parts.{relations-lawful, codes-lawful, dependencies-lawful, joins-lawful, query-lawful}
use Rattle.format.proofs.Rules.{relations-good, good-relations, good-narrow, codes-good, good-codes, dependencies-good, good-dependencies, joins-good, good-joins}
use Rattle.format.proofs.Rules.{query-good, good-query}
use Rattle.format.proofs.Lengths.{query-short}

pub relations-laws : RelationsLawful
relations-laws = relations-lawful

pub codes-laws : CodesLawful
codes-laws = codes-lawful

pub dependencies-laws : DependenciesLawful
dependencies-laws = dependencies-lawful

pub joins-laws : JoinsLawful
joins-laws = joins-lawful

pub queries-laws : QueriesLawful
queries-laws most n widths good = query-lawful most (take n widths) (good-narrow n widths good)

pub relations-rule : RelationsRule
relations-rule n widths = (good-relations (n, widths), λ h. relations-good n widths h.0 h.1)

pub codes-rule : CodesRule
codes-rule n ps = (good-codes (n, ps), λ h. codes-good n ps h.0 h.1 h.2)

pub dependencies-rule : DependenciesRule
dependencies-rule schema n ds = (good-dependencies schema (n, ds), λ h. dependencies-good schema n ds h.0 h.1)

pub joins-rule : JoinsRule
joins-rule schema n js = (good-joins schema (n, js), λ h. joins-good schema n js h.0 h.1 h.2 h.3)

pub queries-rule : QueriesRule
queries-rule most schema q = (good-query most schema q, λ h. query-good most schema q h.0 h.1)

pub query-part-short : QueryPartShort
query-part-short most n widths q good fits =
    let within = rule.good-query most (take n widths) q fits in
    query-short most (take n widths) q (good-narrow n widths good) within.arity within.size
