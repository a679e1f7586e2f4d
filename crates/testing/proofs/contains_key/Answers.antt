-- `contains_key` compares the left columns with those of a key.
-- Assumes nothing.
use Prim.Native.Nat.{◌<◌}
use lib.Bits.{bit_and}
use borrow.Author.Rules.{rules}
use borrow.Author.Tests.{eqb-true}
use mathlib.Core.Path.{subst}
use Rattle.std.specs.Prelude.{Option}
use Rattle.query.specs.declared.Dependency.{Dependency}
use Rattle.testing.specs.internal.Keyed.{KeyIn}
use Rattle.testing.proofs.Superkeys.{key-contained}
use Rattle.testing.proofs.contains_key.Goals as goal

pub returns-then-key-d : goal.returns-then-key-d
returns-then-key-d c = λ t D h.
    let small-e : c.in-Some.key.left < 256 = search rules in
    let small-d : c.args.d.left < 256 = search rules in
    key-contained c.in-Some.key c.args.d D small-e small-d c.if-key-d.true (eqb-true (bit_and c.in-Some.key.left c.args.d.left) c.in-Some.key.left t)
    (subst (λ (x : Option Dependency). KeyIn D x) c.in-Some.is h)
