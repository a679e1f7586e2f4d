use borrow.Author.Rules.{rules}
use mathlib.Core.Path.{◌≡◌, refl}
use mathlib.Core.List.{List, flat_map}
use Prim.Native.Nat.{ℕ, ◌+◌, ◌*◌, ◌≤◌}
use native.Mathlib.Nat.{add-zero}
use native.Mathlib.Omega.{arith}
use lib.ListN.{length, take, set, length-set}
use lib.Seq.{length-take-le}
use Rattle.query.specs.declared.Dependency.{Dependency}
use Rattle.query.specs.Rule.{no_dependency}
use Rattle.format.proofs.Lengths.{length-flat_map}
use Rattle.assembly.specs.internal.Pieces.{put_dependency}
use Rattle.encoder.proofs.Stores.{Writing, writing-starts, writing-turns, writing-ends, byte-and-run}
use Rattle.assembly.proofs.put_dependencies.Goals as goal

begins : (buffer : List ℕ) (at held : ℕ) (list : List Dependency) → held ≤ length list → at + 1 + 3 * held ≤ length buffer
    → Writing put_dependency buffer (at + 1) (take held list) buffer (at + 1 + 0) 0
begins buffer at held list l h =
    let e : length (flat_map put_dependency (take held list)) ≡ 3 * length (take held list) = length-flat_map put_dependency 3 (λ d. refl) (take held list) in
    let k : length (take held list) ≡ held = length-take-le held list l in
    rw (add-zero (at + 1)) (writing-starts put_dependency buffer (at + 1) (take held list) (omega arith))

pub loop-i-init : goal.loop-i-init
loop-i-init c =
    let l : length c.args.list ≡ 32 = search rules in
    begins (set c.args.buffer.now c.args.at c.args.held) c.args.at c.args.held c.args.list (omega (arith, c.requires.held_bound))
    (rw length-set c.requires.held_in_bounds)

pub loop-i-preserved : goal.loop-i-preserved
loop-i-preserved c =
    writing-turns c.loop-i.invariant no_dependency c.put_dependency.new.buffer (c.args.at + 1 + 3 * (c.loop-i.i + 1)) c.loop-i-test.true
    c.put_dependency.ensures (omega arith)

pub returns : goal.returns
returns c =
    byte-and-run c.args.buffer.now c.args.at c.args.held (flat_map put_dependency (take c.args.held c.args.list))
    c.loop-i.buffer (omega (arith, c.requires.held_in_bounds)) (writing-ends c.loop-i.invariant c.loop-i-test.false).0
