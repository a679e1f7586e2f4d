-- `report::write_lines` meets its contract, by `Listed`. Assumes nothing.
use mathlib.Core.Path.{◌≡◌}
use Prim.Native.Nat.{◌<◌}
use lib.ListN.{length}
use Rattle.lists.proofs.Loops.{mapped-length}
use Rattle.report.proofs.Listed.{listable, lines-written}
use borrow.Author.Rules.{rules}
use Rattle.report.proofs.write_lines.Goals as goal
use Rattle.report.proofs.write_lines.Goals.{After-reduce-reduced, After-stored-result, After-stored-source, Start}

eight : (c : Start) → length c.args.given.places ≡ 8
eight c = let long : length c.args.given.places ≡ 8 = search (mapped-length, rules) in long

-- The arrays of what the calls return have their lengths, and the count is a byte
source-long : (c : After-stored-source) → length c.stored-source.result.relations ≡ 12
source-long c = let long : length c.stored-source.result.relations ≡ 12 = search (mapped-length, rules) in long

result-long : (c : After-stored-result) → length c.stored-result.result.relations ≡ 12
result-long c = let long : length c.stored-result.result.relations ≡ 12 = search (mapped-length, rules) in long

count_small : (c : After-reduce-reduced) → c.reduce-reduced.result.count < 256
count_small c = let small : c.reduce-reduced.result.count < 256 = search rules in small

pub write_place-requires : goal.write_place-requires
write_place-requires c =
    listable c.args.given c.args.place c.requires.2 c.requires.1 (eight (goal.at.write_place-requires c).Start) c.requires.3 c.other_place-target.result
    c.other_place-target.ensures c.alone-single.result c.alone-single.ensures c.reduce-reduced.result c.reduce-reduced.ensures c.stored-source.result
    c.stored-source.ensures c.stored-result.result c.stored-result.ensures c.schema.result c.schema.ensures.value c.args.buffer.now c.args.at c.requires.0.room

pub returns : goal.returns
returns c =
    lines-written c.args.given c.args.place c.requires.2 c.requires.1 (eight (goal.at.returns c).Start) c.requires.3 c.other_place-target.result
    c.other_place-target.ensures c.alone-single.result c.alone-single.ensures c.reduce-reduced.result c.reduce-reduced.ensures c.stored-source.result
    c.stored-source.ensures c.stored-result.result c.stored-result.ensures (source-long (goal.at.returns c).After-stored-source)
    (result-long (goal.at.returns c).After-stored-result) (count_small (goal.at.returns c).After-reduce-reduced) c.args.buffer.now c.args.at
    c.write_place.new.buffer c.write_place.result (rw c.schema.ensures.value at c.write_place.ensures)
