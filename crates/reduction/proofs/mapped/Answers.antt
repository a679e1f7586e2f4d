-- `reduction::mapped` meets its contract: what is tested first is a mapping, and otherwise one is searched for. Assumes nothing.
use Rattle.std.proofs.Common.{◌≡◌, true, List, ℕ, sym, ap, ◌∙◌, subst, rules}
use Rattle.lists.proofs.Loops.{mapped-length}
use Rattle.query.specs.Types.{Tableau}
use Rattle.query.specs.View.{query_of, as_query}
use Rattle.query.specs.Rule.{good_query, good_tableau}
use Rattle.query.proofs.Shape.{SizedFor}
use Rattle.theory.specs.Query as theory
use Rattle.mapping.specs.internal.Mapped.{IsMapped}
use Rattle.mapping.proofs.Checked.{test-tells}
use Rattle.tableaux.proofs.Tableaux.{tableau-query, tableau-good}
use Rattle.reduction.proofs.mapped.Goals as goal
use Rattle.reduction.proofs.mapped.Goals.{After-from_query}

module _ (c : After-from_query) where
  target-sized : SizedFor 12 c.args.target
  target-sized = record { head = search (mapped-length, rules); relations = search (mapped-length, rules); cells = search (mapped-length, rules) }

  -- The target's tableau is good
  target-good : (schema : List ℕ) → good_query schema c.args.target ≡ true → good_tableau schema c.from_query.result ≡ true
  target-good schema good = ap (good_tableau schema) c.from_query.ensures ∙ tableau-good schema c.args.target target-sized good

pub find-requires : goal.find-requires
find-requires c =
    (c.requires.0, (c.requires.1.0, target-good (goal.at.find-requires c).After-from_query c.requires.1.0 c.requires.1.1))

pub returns-then-check : goal.returns-then-check
returns-then-check c schema narrow good good' same =
    (test-tells (query_of schema c.args.source) (query_of schema c.args.target) c.staying-images.result).0
    (sym (c.check.ensures schema narrow good good') ∙ c.if-check.true)

pub returns : goal.returns
returns c schema narrow good good' same =
    let at = (goal.at.returns c).After-from_query in
    let is = c.from_query.ensures in
    subst (λ (T : theory.Query). IsMapped (query_of schema c.args.source) T c.find.result)
    (ap (λ (t : Tableau). query_of schema (as_query t)) is ∙ tableau-query schema c.args.target (target-sized at) good' narrow)
    (c.find.ensures schema narrow good (target-good at schema good') (same ∙ sym (ap (λ (t : Tableau). t.arity) is)))
