-- `find` goes along table 0. Invariant: no row passed has the values. Assumes nothing.
use mathlib.Core.Path.{◌≡◌}
use Prim.Native.Nat.{suc}
use native.Mathlib.Omega.{arith}
use lib.ListN.{length}
use Rattle.join_lookup.specs.internal.Tables.{Reaches}
use Rattle.join_lookup.proofs.Reaching.{pass-begins, pass-next, pass-end, reach-less}
use borrow.Author.Rules.{rules}
use Rattle.join_lookup.proofs.find.Goals as goal
use Rattle.codes.specs.internal.Codes.{codes_in}
use Rattle.join_lookup.proofs.find.Goals.{After-following-at}

pub loop-at-init : goal.loop-at-init
loop-at-init c = let s = c in
    let a = s.args in (
      s.requires.words_value.0,
      s.requires.words_value.1,
      (0, c.start-at.ensures (codes_in a.codes.now) 0 a.nodes.now s.requires.tabled, λ p l. absurd (omega arith)),
    )

pub has-requires-clause-by_index : goal.has-requires-clause-by_index
has-requires-clause-by_index c = let a = c.args in
    let w = c.loop-at.invariant in
    (w.2.1.row, pass-begins (codes_in a.codes.now) a.schema.now a.words.now w.0 a.x w.1 a.columns a.values c.loop-at.at w.2 c.loop-at-test.true)

pub following-at-requires-clause-by_index : goal.following-at-requires-clause-by_index
following-at-requires-clause-by_index c = let a = c.args in
    let w = c.loop-at.invariant in
    (w.2.1.row, pass-begins (codes_in a.codes.now) a.schema.now a.words.now w.0 a.x w.1 a.columns a.values c.loop-at.at w.2 c.loop-at-test.true)

-- The way goes on
onward : (c : After-following-at)
    → Reaches (codes_in c.args.codes.now) c.args.schema.now c.args.words.now c.args.x 0 c.args.columns 0 c.args.values
    (suc c.loop-at.invariant.2.1.row) c.following-at.result
onward c = let s = c in
    let a = s.args in
    let l = c in
    let w = l.loop-at.invariant in
    let size : length a.values ≡ 8 = search rules in
    c.following-at.ensures (codes_in a.codes.now) a.columns 0 w.2.0 a.values a.heads.now s.ranges.columns.fits
    (omega (arith, w.1.narrow)) s.requires.tabled w.2.1

pub loop-at-smaller : goal.loop-at-smaller
loop-at-smaller c = let s = c in
    let a = s.args in
    let l = c in
    let i = c in
    let w = l.loop-at.invariant in
    omega (
      arith,
      i.loop-at-test.true,
      reach-less (codes_in a.codes.now) a.schema.now a.words.now w.0 a.x w.1 0 a.columns 0 a.values w.2.1.row l.loop-at.at c.following-at.result w.2.1.place
          (onward (goal.at.loop-at-smaller c).After-following-at),
    )

pub loop-at-preserved : goal.loop-at-preserved
loop-at-preserved c = let s = c in
    let a = s.args in
    let l = c in
    let i = c in
    let h = c in
    let e = c in
    let w = l.loop-at.invariant in
    let p = w.2 in
    let n = pass-next (codes_in a.codes.now) a.schema.now a.words.now w.0 a.x w.1 a.columns a.values l.loop-at.at p
    (h.has.ensures.by_index_3 w.2.1.row
    (pass-begins (codes_in a.codes.now) a.schema.now a.words.now w.0 a.x w.1 a.columns a.values l.loop-at.at p i.loop-at-test.true)
    e.if-has.false)
    c.following-at.result (onward (goal.at.loop-at-preserved c).After-following-at) in
    (w.0, w.1, n)

pub returns : goal.returns
returns c = let s = c in
    let a = s.args in
    let l = c in
    let w = l.loop-at.invariant in
    pass-end (codes_in a.codes.now) a.schema.now a.words.now w.0 a.x w.1 a.columns a.values l.loop-at.at w.2 c.loop-at-test.false
