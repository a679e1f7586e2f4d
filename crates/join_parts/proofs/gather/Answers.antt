-- `gather` goes along the chain. Assumes nothing.
use mathlib.Core.Path.{refl, ◌∙◌}
use Prim.Native.Nat.{◌+◌, ◌-◌, ◌≤◌}
use native.Mathlib.Omega.{arith}
use lib.ListN.{length, get_or}
use Rattle.join_parts.proofs.Gathering.{gathered-none, next-room, next-fits, next-less, gathered-next, gathered-all}
use Rattle.join_parts.proofs.gather.Goals as goal
use Rattle.join_parts.proofs.gather.Goals.{In-loop-link}

-- The row that the link leads to is in the words, and has room before those that are copied
room : (c : In-loop-link) → c.loop-link.link - 1 + (c.args.x.index.width + 1) ≤ length c.args.words.now
room c =
    let l = c.loop-link in
    next-room c.requires.chained.0 c.args.schema.now c.args.words.now c.requires.words_value.0 c.args.x c.requires.words_value.1 c.args.b
    l.link l.start l.buffer (l.invariant.0 c.requires.chained.0 c.requires.chained.1) c.loop-link-test.true

fits : (c : In-loop-link) → c.args.x.index.width + 1 ≤ c.loop-link.start
fits c =
    let l = c.loop-link in
    next-fits c.requires.chained.0 c.args.schema.now c.args.words.now c.requires.words_value.0 c.args.x c.requires.words_value.1 c.args.b
    l.link l.start l.buffer (l.invariant.0 c.requires.chained.0 c.requires.chained.1) c.loop-link-test.true (omega (arith, l.invariant.1, c.requires.room.2))

pub loop-link-init : goal.loop-link-init
loop-link-init c = (
  λ pairs chained. gathered-none pairs c.args.schema.now c.args.words.now c.requires.words_value.0 c.args.x c.requires.words_value.1 c.args.b
      (get_or c.args.heads.now c.args.b 0) c.args.buffer.now (chained.head c.args.b c.requires.words_value.2),
  refl,
)

pub put-requires : goal.put-requires
put-requires c = let i = (goal.at.put-requires c).In-loop-link in (room i, fits i, (c.loop-link.invariant.0 c.requires.chained.0 c.requires.chained.1).ends)

pub overflow_sub-start : goal.overflow_sub-start
overflow_sub-start c = fits (goal.at.overflow_sub-start c).In-loop-link

pub bounds-links-at : goal.bounds-links-at
bounds-links-at c = omega (arith, room (goal.at.bounds-links-at c).In-loop-link, c.requires.room.1)

pub loop-link-smaller : goal.loop-link-smaller
loop-link-smaller c =
    let l = c.loop-link in
    next-less c.requires.chained.0 c.args.schema.now c.args.words.now c.requires.words_value.0 c.args.x c.requires.words_value.1 c.args.b
    l.link l.start l.buffer (l.invariant.0 c.requires.chained.0 c.requires.chained.1) c.loop-link-test.true c.args.heads.now c.args.links.now
    c.requires.chained.1

pub loop-link-preserved : goal.loop-link-preserved
loop-link-preserved c =
    let l = c.loop-link in (
      λ pairs chained. gathered-next pairs c.args.schema.now c.args.words.now c.requires.words_value.0 c.args.x c.requires.words_value.1 c.args.b
          l.link l.start l.buffer (l.invariant.0 pairs chained) c.loop-link-test.true c.args.heads.now c.args.links.now chained
          (omega (arith, l.invariant.1, c.requires.room.2)) c.put.new.buffer c.put.ensures.buffer_len_unchanged c.put.ensures.put,
      c.put.ensures.buffer_len_unchanged ∙ l.invariant.1,
    )

pub returns-clause-part : goal.returns-clause-part
returns-clause-part c pairs chained =
    let l = c.loop-link in
    gathered-all pairs c.args.schema.now c.args.words.now c.requires.words_value.0 c.args.x c.requires.words_value.1 c.args.b
    l.link l.start l.buffer (l.invariant.0 pairs chained) c.loop-link-test.false
