-- `Codes::new` meets its contract. Assumes nothing.
use mathlib.Core.Path.{refl, sym, ap, ◌∙◌}
use Prim.Native.Nat.{◌≤◌, ◌<◌}
use native.Mathlib.Omega.{arith}
use lib.Dec.{leb}
use lib.ListN.{length, length-set}
use borrow.Author.Tests.{le-leb}
use Rattle.lists.proofs.Tests.{every_made}
use Rattle.codes.specs.internal.Found.{led}
use Rattle.query.specs.Rule.{no_pair}
use Rattle.codes.proofs.Found.{moved-within, moved-led, all-same, whole, take-whole}
use Rattle.codes.proofs.pairs.Codes.new.Goals as goal

pub loop-i-init : goal.loop-i-init
unfolding led
loop-i-init c = (refl, all-same 256 (length c.args.pairs.now) (length c.args.pairs.now) (omega arith), refl)

pub loop-i-preserved : goal.loop-i-preserved
loop-i-preserved c =
    let kept = c.loop-i.invariant in
    let inside : c.loop-i.i < length c.args.pairs.now = omega arith in (
      length-set _ _ _ ∙ kept.0,
      moved-within c.loop-i.firsts c.args.pairs.now c.loop-i.i c.min.result no_pair inside kept.0 (omega (arith, c.min.ensures)) (omega (arith, c.min.ensures)) (length c.args.pairs.now) kept.1,
      moved-led c.loop-i.firsts c.args.pairs.now c.loop-i.i c.min.result no_pair inside kept.0 (omega (arith, c.min.ensures)) (omega (arith, c.min.ensures)) kept.2,
    )

pub invariant_of-result : goal.invariant_of-result
invariant_of-result c =
    let kept = c.loop-i.invariant in
    let all : length c.args.pairs.now ≤ c.loop-i.i = omega arith in
    let kept-all = ap (led c.loop-i.firsts 0) (sym (take-whole c.loop-i.i c.args.pairs.now all)) ∙ kept.2 in
    record {
      sure = (
        c.requires,
        every_made (λ k. leb k (length c.args.pairs.now)) c.loop-i.firsts 0 (λ i h. le-leb _ _ (kept.1 i)),
        ap (led c.loop-i.firsts 0) (whole c.args.pairs.now c.padded.result _ c.padded.ensures) ∙ kept-all,
      );
    }
