-- `reduction::store_reduced` meets its contract, by `Results`. Assumes nothing.
use Rattle.std.proofs.Common.{◌≡◌, refl, true, length, rules}
use Rattle.query.specs.Rule.{shaped_for}
use Rattle.record.proofs.Good.{good-record}
use Rattle.lists.proofs.Loops.{mapped-length}
use Rattle.reduction.proofs.Results.{able-shortenable, stored-reduced}
use Rattle.reduction.proofs.store_reduced.Goals as goal
use Rattle.reduction.proofs.store_reduced.Goals.{Start, After-shorten-shortened}

-- There are 8 places
eight : (c : Start) → length c.args.given.places ≡ 8
eight c = let long : length c.args.given.places ≡ 8 = search (mapped-length, rules) in long

-- The arrays of the shortened query are as long as its type says
shaped : (c : After-shorten-shortened) → shaped_for 12 c.shorten-shortened.result.query ≡ true
shaped c =
    let ok = c.shorten-shortened.type_inv in
    let head : length c.shorten-shortened.result.query.head ≡ 8 = search (mapped-length, rules, ok) in
    let relations : length c.shorten-shortened.result.query.relations ≡ 12 = search (mapped-length, rules, ok) in
    let cells : length c.shorten-shortened.result.query.cells ≡ 96 = search (mapped-length, rules, ok) in
    rw (head, relations, cells) refl

pub query-long-requires : goal.query-long-requires
query-long-requires c = (c.requires.source-low, c.requires.good, c.requires.source-filled)

pub shorten-shortened-requires : goal.shorten-shortened-requires
shorten-shortened-requires c =
    rw c.dependencies_held.ensures (able-shortenable c.args.given c.args.source c.args.target c.requires c.query-long.result c.query-long.ensures)

pub returns : goal.returns
returns c =
    rw c.with_place.ensures
    (stored-reduced c.args.given c.args.source c.args.target c.requires c.query-long.result c.query-long.ensures (eight (goal.at.returns c).Start)
    c.shorten-shortened.result (shaped (goal.at.returns c).After-shorten-shortened) (rw c.dependencies_held.ensures at c.shorten-shortened.ensures))

pub dependencies_held-requires : goal.dependencies_held-requires
dependencies_held-requires c = (good-record c.args.given c.requires.good).held
