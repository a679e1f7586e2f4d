-- `reduction::shorten` meets its contract, by `Results`. Assumes nothing.
use Rattle.std.proofs.Common.{◌≡◌, ℕ, ◌*◌, ◌≤◌, true, List, map, length, sym, ap, ◌∙◌, subst, arith, rules}
use Rattle.lists.specs.Tests.{every, between}
use Rattle.lists.proofs.Loops.{mapped-length}
use Rattle.query.specs.Types.{Query}
use Rattle.query.specs.View.{as_query, dependency_of}
use Rattle.query.specs.declared.Cell.{Cell}
use Rattle.reduction.specs.internal.Steps.{IsShortened}
use Rattle.query.specs.Rule.{good_query, good_tableau}
use Rattle.query.proofs.Good.{good-query}
use Rattle.query.proofs.Shape.{SizedFor}
use Rattle.chase.specs.internal.Outcome.{IsChased}
use Rattle.chase.proofs.Callers.{chasable, width-le}
use Rattle.tableaux.specs.internal.Tableaux.{tableau_of, stored_of}
use Rattle.tableaux.proofs.Tableaux.{tableau-good}
use Rattle.reduction.proofs.Results.{chased-query, chased-counted, chased-good, shortened}
use Rattle.reduction.proofs.shorten.Goals as goal
use Rattle.reduction.proofs.shorten.Goals.{After-from_query, After-to_query-query}

-- The arrays of the query are as long as its type says
sized : (c : After-from_query) → SizedFor 12 c.args.q
sized c = record { head = search (mapped-length, rules); relations = search (mapped-length, rules); cells = search (mapped-length, rules) }

pub chase-chased-requires : goal.chase-chased-requires
chase-chased-requires c =
    let a = c.args in
    let p = c.requires in
    let good : good_tableau p.schema c.from_query.result ≡ true =
    ap (good_tableau p.schema) c.from_query.ensures ∙ tableau-good p.schema a.q (sized (goal.at.chase-chased-requires c).After-from_query) p.query-good
    in
    let long : length c.from_query.result.relations ≡ 24 = search (mapped-length, rules) in
    chasable p.schema a.dependencies.now c.from_query.result p.widths p.dependencies-good good long

module _ (c : After-to_query-query) where
  stored-sized : SizedFor 12 c.args.q
  stored-sized = record { head = search (mapped-length, rules); relations = search (mapped-length, rules); cells = search (mapped-length, rules) }

  -- The arrays of the chased tableau are as long as its type says
  roomy : SizedFor 24 (as_query c.chase-chased.result.query)
  roomy = record { head = search (mapped-length, rules); relations = search (mapped-length, rules); cells = search (mapped-length, rules) }

  module _ (schema : List ℕ) (widths : every (between 1 8) schema ≡ true) (good : good_query schema c.args.q ≡ true) where
    -- What the chase promises, for the tableau of the query
    chased : IsChased schema c.args.dependencies.now (tableau_of c.args.q) c.chase-chased.result
    chased =
        let is = c.from_query.ensures in
        rw is at (c.chase-chased.ensures schema (ap (good_tableau schema) is ∙ tableau-good schema c.args.q stored-sized good) widths)

    -- It is good as a stored query
    good-again : good_query schema c.to_query-query.result ≡ true
    good-again =
        let a = c.args in
        ap (good_query schema) c.to_query-query.ensures
        ∙ chased-good schema widths a.dependencies.now a.q stored-sized good c.chase-chased.result chased roomy

pub core_of-result-requires : goal.core_of-result-requires
core_of-result-requires c =
    let p = c.requires in
    (p.schema, width-le p.schema p.widths, good-again (goal.at.core_of-result-requires c).After-to_query-query p.schema p.widths p.query-good)

pub mapped-images-requires : goal.mapped-images-requires
mapped-images-requires c =
    let p = c.requires in
    let at = goal.at.mapped-images-requires c in
    let again = good-again at.After-to_query-query p.schema p.widths p.query-good in
    let core = c.core_of-result.ensures p.schema (width-le p.schema p.widths) again in
    ((p.schema, p.query-good), (p.schema, core.good))

pub returns : goal.returns
returns c =
    let a = c.args in
    let q = a.q in
    let at = goal.at.returns c in
    let cored = at.After-to_query-query in
    λ codes schema widths good safe without.
    let narrow = width-le schema widths in
    let s = stored-sized cored in
    let is = chased cored schema widths good in
    -- what losing rows promises
    let p = c.core_of-result.ensures schema narrow (good-again cored schema widths good) in
    let long : 8 * q.size ≤ length q.cells = omega (arith, s.cells, (good-query 12 schema q good).size) in
    let query-is = c.to_query-query.ensures in
    let same : q.arity ≡ c.core_of-result.result.arity = sym (p.same-arity ∙ ap (λ (x : Query). x.arity) query-is ∙ is.same-arity) in
    let told = shortened codes schema _ q (stored_of c.chase-chased.result.query) c.core_of-result.result c.chase-chased.result.count
    c.mapped-images.result
    widths long good safe without
    (chased-query schema widths a.dependencies.now q s good c.chase-chased.result is (roomy cored))
    (chased-counted schema widths a.dependencies.now q s good c.chase-chased.result is (roomy cored))
    (rw query-is at p)
    (c.mapped-images.ensures schema narrow good p.good same)
    in
    subst
    (λ (images : List Cell).
    IsShortened codes schema (map dependency_of a.dependencies.now) q
    (record { query = c.core_of-result.result; count = c.chase-chased.result.count; images = images }))
    (sym c.unwrap_or.ensures) told
