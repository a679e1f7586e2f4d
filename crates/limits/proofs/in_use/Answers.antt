-- `in_use` meets its contract: the two chains are the two tests of the definition. Assumes nothing.
use Rattle.std.proofs.Common.{◌≡◌, ◌∙◌, take, drop, refl}
use Rattle.std.specs.Fn.{Called}
use Rattle.std.proofs.lemmas.Fn.{says_at}
use Rattle.lists.specs.Tests.{every}
use Rattle.std.proofs.lemmas.Iterator.{YieldsList-from_slice, YieldsList-from_take}
use Rattle.std.proofs.lemmas.Iterator.Adapters.{YieldsList-from_skip}
use Rattle.std.proofs.lemmas.Iterator.Search.{all_from_yields_List}
use Rattle.chains.proofs.Chains.{all_every}
use Rattle.limits.proofs.in_use.Goals as goal

pub returns-then-all : goal.returns-then-all
returns-then-all g c = λ is_good is_blank ga ba.
    let first : c.all.result ≡ every is_good (take c.args.n c.args.xs.now) =
    all_from_yields_List is_good _ _ _ c.all.ensures.ran (YieldsList-from_take c.args.n (YieldsList-from_slice c.args.xs.now cc) cc) (λ x b q k.
    let was : Called g.G.Fn c.args.good (x, tt) b q = record { met = k.met } in
    (g.met.G.Fn.1.step_stays c.args.good (x, tt) b q was, ga x.now b (says_at g.G.Fn ((g.met.G.FnMut.1.post_iff c.args.good (x, tt) b).1 (q, was)) refl)))
    ∙ all_every is_good (take c.args.n c.args.xs.now)
    in
    let second : c.all-then-all.result ≡ every is_blank (drop c.args.n c.args.xs.now) =
    all_from_yields_List is_blank _ _ _ c.all-then-all.ensures.ran (YieldsList-from_skip c.args.n (YieldsList-from_slice c.args.xs.now cc) cc)
    (λ x b q k.
    let was : Called g.B.Fn c.args.blank (x, tt) b q = record { met = k.met } in
    (g.met.B.Fn.1.step_stays c.args.blank (x, tt) b q was, ba x.now b (says_at g.B.Fn ((g.met.B.FnMut.1.post_iff c.args.blank (x, tt) b).1 (q, was)) refl)))
    ∙ all_every is_blank (drop c.args.n c.args.xs.now)
    in
    rw (← first, c.if-all.true) second

pub returns-else-all : goal.returns-else-all
returns-else-all g c = λ is_good is_blank ga ba.
    let first : c.all.result ≡ every is_good (take c.args.n c.args.xs.now) =
    all_from_yields_List is_good _ _ _ c.all.ensures.ran (YieldsList-from_take c.args.n (YieldsList-from_slice c.args.xs.now cc) cc)
    (λ x b q k.
    let was : Called g.G.Fn c.args.good (x, tt) b q = record { met = k.met } in
    (g.met.G.Fn.1.step_stays c.args.good (x, tt) b q was, ga x.now b (says_at g.G.Fn ((g.met.G.FnMut.1.post_iff c.args.good (x, tt) b).1 (q, was)) refl)))
    ∙ all_every is_good (take c.args.n c.args.xs.now)
    in
    rw (← first, c.if-all.false)
