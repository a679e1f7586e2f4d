-- `put_codes` meets its contract. Assumes nothing.
use borrow.Author.Rules.{rules}
use mathlib.Core.Path.{◌≡◌, sym, ap, ◌∙◌}
use mathlib.Core.List.{List, flat_map}
use Prim.Native.Nat.{ℕ, ◌+◌, ◌*◌, ◌≤◌}
use native.Mathlib.Nat.{add-zero}
use native.Mathlib.Omega.{arith}
use lib.ListN.{length, take, set, length-set}
use Rattle.query.specs.declared.CodePair.{CodePair}
use Rattle.query.specs.Rule.{no_pair}
use Rattle.lists.specs.Over.{over}
use Rattle.lists.proofs.Over.{over-nil}
use Rattle.assembly.specs.internal.Pieces.{put_pair}
use Rattle.encoder.proofs.Stores.{Writing, writing-starts, writing-turns, writing-ends, byte-and-run}
use Rattle.assembly.proofs.Codes.{length-pair, codes-none, none-long, codes-some, some-long, pairs-long}
use Rattle.assembly.proofs.put_codes.Goals as goal

begins : (buffer : List ℕ) (at coded : ℕ) (list : List CodePair) → coded ≤ length list → at + 1 + 8 * coded ≤ length buffer
    → Writing put_pair buffer (at + 1) (take coded list) buffer (at + 1 + 0) 0
begins buffer at coded list l h =
    rw (add-zero (at + 1)) (writing-starts put_pair buffer (at + 1) (take coded list) (omega (arith, pairs-long coded list l)))

pub returns-then-coded-eq0 : goal.returns-then-coded-eq0
returns-then-coded-eq0 c =
    let none = codes-none c.args.coded c.args.list c.if-coded-eq0.true in (
      sym (ap (over c.args.buffer.now c.args.at) none ∙ over-nil c.args.buffer.now c.args.at),
      omega (arith, none-long c.args.coded c.if-coded-eq0.true),
    )

pub loop-i-init : goal.loop-i-init
loop-i-init c =
    let l : length c.args.list ≡ 16 = search rules in
    begins (set c.args.buffer.now c.args.at c.args.coded) c.args.at c.args.coded c.args.list (omega (arith, c.requires.coded_bound))
    (rw length-set (omega (arith, some-long c.args.coded c.if-coded-eq0.false, c.requires.list_in_bounds)))

pub loop-i-preserved : goal.loop-i-preserved
loop-i-preserved c =
    writing-turns c.loop-i.invariant no_pair c.put_pair.new.buffer (c.args.at + 1 + 8 * (c.loop-i.i + 1)) c.loop-i-test.true
    c.put_pair.ensures (omega (arith, length-pair))

pub returns : goal.returns
returns c =
    let some = c.if-coded-eq0.false in (
      byte-and-run c.args.buffer.now c.args.at c.args.coded (flat_map put_pair (take c.args.coded c.args.list)) c.loop-i.buffer
          (omega (arith, some-long c.args.coded some, c.requires.list_in_bounds)) (writing-ends c.loop-i.invariant c.loop-i-test.false).0
          ∙ ap (over c.args.buffer.now c.args.at) (sym (codes-some c.args.coded c.args.list some)),
      omega (arith, some-long c.args.coded some),
    )
