-- `join_chase::make_round` meets its contract: each answer is one of the cases of `Rounds`. Assumes nothing.
use mathlib.Core.Path.{◌≡◌, ap}
use Rattle.std.proofs.lemmas.Grind.{common_steps}
use Rattle.lists.proofs.Positions.{length_none}
use mathlib.Core.Bool.{true}
use mathlib.Core.List.{List, []}
use mathlib.Core.Logic.{◌≢◌}
use Prim.Native.Nat.{ℕ, ◌<◌}
use native.Mathlib.Omega.{arith}
use lib.ListN.{length}
use borrow.Author.Rules.{rules}
use Rattle.lists.proofs.Loops.{mapped-length}
use Rattle.query.specs.View.{as_query}
use Rattle.query.specs.Rule.{good_tableau}
use Rattle.query.proofs.Good.{good-query}
use Rattle.chase.proofs.Callers.{chasable}
use Rattle.join_chase.proofs.Rounds.{counts-fit, made-functional, settled-tableau, made-end, made-over, made_more}
use Rattle.join_chase.proofs.make_round.Goals as goal
use Rattle.join_chase.proofs.make_round.Goals.{After-without_repeats-settled}

-- ---- what the types tell of arrays

relations-long : (w : After-without_repeats-settled) → length w.chase-chased.result.query.relations ≡ 24
relations-long w = search (mapped-length, rules)

cells-long : (w : After-without_repeats-settled) → length w.chase-chased.result.query.cells ≡ 192
cells-long w = search (mapped-length, rules)

-- ---- without repeated rows

abbrev schema : After-without_repeats-settled → List ℕ
schema w = w.args.schema.now

-- A join dependency is held
one-held : (w : After-without_repeats-settled) → w.args.joins.now ≢ []
one-held w none =
    let some : 0 < length w.args.joins.now = grind (arith, common_steps, w.if-is_empty.ensures) in
    absurd (omega (arith, ap length none))

-- The tableau without repeated rows is good
settled : (w : After-without_repeats-settled) → good_tableau (schema w) w.without_repeats-settled.result ≡ true
settled w =
    let a = w.args in
    settled-tableau a.t a.schema.now a.dependencies.now a.joins.now w.requires
    w.chase-chased.result w.chase-chased.ensures (one-held w) (relations-long w) (cells-long w)
    w.without_repeats-settled.result w.without_repeats-settled.ensures

-- and has room for a row unless it has 24
room : (w : After-without_repeats-settled) → (w.without_repeats-settled.result.size ≡ 24 → ⊥) → w.without_repeats-settled.result.size < 24
room w other = omega (arith, other, (good-query 24 (schema w) (as_query w.without_repeats-settled.result) (settled w)).size)

pub chase-chased-requires : goal.chase-chased-requires
chase-chased-requires c =
    let p = c.requires in
    let a = c.args in
    let long : length a.t.relations ≡ 24 = search (mapped-length, rules) in
    chasable a.schema.now a.dependencies.now a.t p.widths-good p.dependencies-good p.tableau-good long

pub returns-then-is_empty : goal.returns-then-is_empty
returns-then-is_empty c =
    let a = c.args in
    let none-held : a.joins.now ≡ [] = length_none _ (grind (arith, common_steps, c.if-is_empty.ensures)) in
    made-functional a.t a.schema.now a.dependencies.now a.joins.now c.requires
    c.chase-chased.result c.chase-chased.ensures none-held

pub without_repeats-settled-requires : goal.without_repeats-settled-requires
without_repeats-settled-requires c =
    let a = c.args in
    let is = c.chase-chased.ensures a.schema.now c.requires.tableau-good c.requires.widths-good in
    (good-query 24 a.schema.now (as_query c.chase-chased.result.query) is.good).size

pub next_row-requires : goal.next_row-requires
next_row-requires c =
    record {
      size_fits = (good-query 24 (schema c) (as_query c.without_repeats-settled.result) (settled c)).size;
      joins-shaped = c.requires.joins-shaped;
      counts-fit = counts-fit (schema c) c.args.joins.now c.requires.joins-good;
    }

pub returns-in_default : goal.returns-in_default
returns-in_default c =
    let w = (goal.at.returns-in_default c).After-without_repeats-settled in
    let a = c.args in
    made-end a.t a.schema.now a.dependencies.now a.joins.now c.requires
    c.chase-chased.result c.chase-chased.ensures (one-held w) (relations-long w) (cells-long w)
    c.without_repeats-settled.result c.without_repeats-settled.ensures c.next_row.result c.next_row.ensures c.in_default.is

pub returns-then-settled-eq24 : goal.returns-then-settled-eq24
returns-then-settled-eq24 c =
    let w = (goal.at.returns-then-settled-eq24 c).After-without_repeats-settled in
    let a = c.args in
    made-over a.t a.schema.now a.dependencies.now a.joins.now c.requires
    c.chase-chased.result c.chase-chased.ensures (one-held w) (relations-long w) (cells-long w)
    c.without_repeats-settled.result c.without_repeats-settled.ensures c.next_row.result c.next_row.ensures c.in-Some.next c.in-Some.is
    c.if-settled-eq24.true

pub with_row-requires : goal.with_row-requires
with_row-requires c = room (goal.at.with_row-requires c).After-without_repeats-settled c.if-settled-eq24.false

pub returns : goal.returns
returns c =
    let w = (goal.at.returns c).After-without_repeats-settled in
    let a = c.args in
    let eight : length c.in-Some.next.row ≡ 8 = search (mapped-length, rules) in
    made_more a.t a.schema.now a.dependencies.now a.joins.now c.requires
    c.chase-chased.result c.chase-chased.ensures (one-held w) (relations-long w) (cells-long w)
    c.without_repeats-settled.result c.without_repeats-settled.ensures c.next_row.result c.next_row.ensures c.in-Some.next c.in-Some.is
    (room w c.if-settled-eq24.false) eight c.with_row.result c.with_row.ensures
