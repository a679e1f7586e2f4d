-- `comparison::compare_places` meets its contract: each answer is one of the cases of `Answers`. Assumes nothing.
use mathlib.Core.Path.{◌≡◌, refl, sym, ap, ◌∙◌}
use mathlib.Core.Bool.{true}
use lib.ListN.{length, take}
use borrow.Author.Rules.{rules}
use Rattle.lists.specs.Tests.{every}
use Rattle.query.specs.Rule.{shaped_join}
use Rattle.lists.proofs.Loops.{mapped-length}
use Rattle.query.proofs.Shape.{SizedFor}
use Rattle.tableaux.specs.internal.Tableaux.{tableau_of}
use Rattle.join_rule.proofs.Shapes.{argument-shaped}
use Rattle.join_chase.specs.internal.JoinChased.{IsJoinChased}
use Rattle.record.specs.View.{schema_of}
use Rattle.comparison.proofs.Pairs.{standing}
use Rattle.comparison.proofs.Answers.{can-be-chased, parts-within, answers-over, both-storable, answers-never, answers-contained, answers-apart}
use Rattle.std.specs.Prelude.{Option as Maybe, None, Some, Ok, Err, ok_or}
use Rattle.std.proofs.lemmas.Result.{err_from_is_err_and}
use Rattle.refusals.specs.declared.Refusal.{Refusal}
use Rattle.comparison.proofs.compare_places.Goals as goal
use Rattle.comparison.proofs.compare_places.Goals.{After-from_query, After-chase-chased, In_ok-query}

-- What an answer in place of none tells
found : {T : Type 0} (o : Maybe T) (e : Refusal) (x : T) → ok_or o e ≡ Ok x → o ≡ Some x
found None e x h = cc
found (Some y) e x h = let same : y ≡ x = cc in ap (λ z. Some z) same

missing : {T : Type 0} (o : Maybe T) (e w : Refusal) → ok_or o e ≡ Err w → (o ≡ None) × (w ≡ e)
missing None e w h = (refl, cc)
missing (Some y) e w h = cc

pub query-second-requires : goal.query-second-requires
query-second-requires c = let s = standing c.args.given c.args.p c.args.q c.requires in (s.low-q, s.good, s.filled-q)

pub query-first-requires : goal.query-first-requires
query-first-requires c = let s = standing c.args.given c.args.p c.args.q c.requires in (s.low-p, s.good, s.filled-p)

-- The arrays of the first query are as long as its type says
sized : (c : After-from_query) → SizedFor 12 c.query-first.result
sized c =
    let ok = c.query-first.type_inv in
    record {
      head = search (mapped-length, rules, ok);
      relations = search (mapped-length, rules, ok);
      cells = search (mapped-length, rules, ok);
    }

-- The sets of its join dependencies are as many as their type says
shaped : (c : After-from_query) → every shaped_join c.args.given.joins ≡ true
shaped c = argument-shaped 4 c.args.given.joins _ c.well_formed.0.1.1.1.1.1.1.1.1.1.0

pub shared_ref_as_front-chase : goal.shared_ref_as_front-chase
shared_ref_as_front-chase c = (parts-within c.args.given c.args.p c.args.q c.requires).0

pub shared_ref_as_front-chase-2 : goal.shared_ref_as_front-chase-2
shared_ref_as_front-chase-2 c = (parts-within c.args.given c.args.p c.args.q c.requires).1

pub shared_ref_as_front-chase-3 : goal.shared_ref_as_front-chase-3
shared_ref_as_front-chase-3 c = (parts-within c.args.given c.args.p c.args.q c.requires).2

pub chase-chased-requires : goal.chase-chased-requires
chase-chased-requires c =
    let from = (goal.at.chase-chased-requires c).After-from_query in
    let a = c.args in
    rw (c.from_query.ensures) (can-be-chased a.given a.p a.q c.query-first.result c.query-second.result c.requires c.query-first.ensures c.query-second.ensures (sized from) (shaped from))

-- What the chase promises, for the tableau of the first query
chased : (c : After-chase-chased)
    → IsJoinChased
    (tableau_of c.query-first.result)
    (schema_of c.args.given)
    (take c.args.given.held c.args.given.dependencies)
    (take c.args.given.joined c.args.given.joins)
    c.chase-chased.result
chased c = rw (c.from_query.ensures) at c.chase-chased.ensures

-- The chased tableau has room for 24 rows
room : (c : In_ok-query) → length c.in_ok-query.query.relations ≡ 24
room c = search (mapped-length, rules)

pub returns-in_err-query-clause-compared : goal.returns-in_err-query-clause-compared
returns-in_err-query-clause-compared c =
    let a = c.args in
    let from = (goal.at.returns-in_err-query-clause-compared c).After-from_query in
    let after = (goal.at.returns-in_err-query-clause-compared c).After-chase-chased in
    let left = err_from_is_err_and c.from_residual.result c.from_residual.ensures.1 in
    let none = missing _ _ _ (sym c.ok_or.ensures.value ∙ c.in_err-query.was) in
    rw (left.1, left.2, none.1)
    (answers-over a.given a.p a.q c.query-first.result c.query-second.result c.requires c.query-first.ensures c.query-second.ensures (sized from) (shaped from) c.chase-chased.result (chased after) none.0)

pub returns-then-query-eq0-clause-compared : goal.returns-then-query-eq0-clause-compared
returns-then-query-eq0-clause-compared c =
    let a = c.args in
    let from = (goal.at.returns-then-query-eq0-clause-compared c).After-from_query in
    let after = (goal.at.returns-then-query-eq0-clause-compared c).After-chase-chased in
    answers-never a.given a.p a.q c.query-first.result c.query-second.result c.requires c.query-first.ensures c.query-second.ensures (sized from) (shaped from) c.chase-chased.result (chased after) c.in_ok-query.query (found _ _ _ (sym c.ok_or.ensures.value ∙ c.in_ok-query.was))
    c.if-query-eq0.true

pub find-requires : goal.find-requires
find-requires c =
    let a = c.args in
    let from = (goal.at.find-requires c).After-from_query in
    let after = (goal.at.find-requires c).After-chase-chased in
    let both = both-storable a.given a.p a.q c.query-first.result c.query-second.result c.requires c.query-first.ensures c.query-second.ensures (sized from) (shaped from) c.chase-chased.result (chased after) c.in_ok-query.query (found _ _ _ (sym c.ok_or.ensures.value ∙ c.in_ok-query.was)) in
    both

pub returns-in-Some-clause-compared : goal.returns-in-Some-clause-compared
returns-in-Some-clause-compared c =
    let a = c.args in
    let from = (goal.at.returns-in-Some-clause-compared c).After-from_query in
    let after = (goal.at.returns-in-Some-clause-compared c).After-chase-chased in
    answers-contained a.given a.p a.q c.query-first.result c.query-second.result c.requires c.query-first.ensures c.query-second.ensures (sized from) (shaped from) c.chase-chased.result (chased after) c.in_ok-query.query (found _ _ _ (sym c.ok_or.ensures.value ∙ c.in_ok-query.was))
    c.find.result c.find.ensures c.in-Some.images c.in-Some.is

pub returns-in-None-clause-compared : goal.returns-in-None-clause-compared
returns-in-None-clause-compared c =
    let a = c.args in
    let from = (goal.at.returns-in-None-clause-compared c).After-from_query in
    let after = (goal.at.returns-in-None-clause-compared c).After-chase-chased in
    answers-apart a.given a.p a.q c.query-first.result c.query-second.result c.requires c.query-first.ensures c.query-second.ensures (sized from) (shaped from) c.chase-chased.result (chased after) c.in_ok-query.query (found _ _ _ (sym c.ok_or.ensures.value ∙ c.in_ok-query.was))
    c.find.result c.find.ensures (room (goal.at.returns-in-None-clause-compared c).In_ok-query) c.if-query-eq0.false c.in-None.is
