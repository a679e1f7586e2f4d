-- `Codes::read` meets its contract: no pair before the position that the number leads to has it, and the first with it decides. Assumes nothing.
use mathlib.Core.Path.{◌≡◌, sym, ap, ◌∙◌}
use mathlib.Core.List.{List, map}
use Prim.Native.Nat.{ℕ, ◌-◌, ◌%◌, ◌≤◌, ◌<◌}
use native.Mathlib.Omega.{arith}
use borrow.Author.Rules.{rules}
use borrow.Author.Tests.{leb-true}
use lib.Dec.{leb}
use lib.ListN.{length, take, drop, get_or}
use lib.Seq.{length-take-le}
use Rattle.lists.proofs.Loops.{mapped-length}
use Rattle.lists.proofs.Tests.{every-get_or}
use Rattle.query.specs.declared.CodePair.{CodePair}
use Rattle.query.specs.View.{pair_of}
use Rattle.query.specs.Rule.{no_pair}
use Rattle.theory.specs.Codes.{read_code}
use Rattle.codes.specs.declared.pairs.Codes.{Codes}
use Rattle.codes.proofs.Found.{part, read-first, read-here, read-behind, read-past}
use Rattle.codes.proofs.pairs.Codes.read.Goals as goal

pub slice_bounds-p-items-start : goal.slice_bounds-p-items-start
slice_bounds-p-items-start c =
    let s = c.args.self.now in
    let long : length s.firsts ≡ 256 = search rules in
    leb-true _ _ (every-get_or (λ k. leb k s.count) s.firsts (c.args.n % 256) 0 s.sure.1 (omega arith))

pub slice_bounds-p-items-count : goal.slice_bounds-p-items-count
slice_bounds-p-items-count c =
    let s = c.args.self.now in
    let long : length s.firsts ≡ 256 = search rules in
    leb-true _ _ (every-get_or (λ k. leb k s.count) s.firsts (c.args.n % 256) 0 s.sure.1 (omega arith))

pub loop-p-init : goal.loop-p-init
loop-p-init c =
    let s = c.args.self.now in
    let long : length s.firsts ≡ 256 = search rules in
    let room : length s.pairs ≡ 16 = search (mapped-length, rules) in
    let first = get_or s.firsts (c.args.n % 256) 0 in
    let most : first ≤ s.count = leb-true _ _ (every-get_or (λ k. leb k s.count) s.firsts (c.args.n % 256) 0 s.sure.1 (omega arith)) in
    let few : s.count ≤ 16 = s.sure.0 in
    let size = length-take-le s.count s.pairs (omega arith) in
    read-first s.firsts (take s.count s.pairs) c.args.n s.sure.2 (omega arith)
    ∙ ap (λ (l : List CodePair). read_code (map pair_of l) c.args.n) (sym (part first s.count s.pairs most))

-- The pairs that are looked through
abbrev items : Codes → ℕ → List CodePair
items s n = let first = get_or s.firsts (n % 256) 0 in take (s.count - first) (drop first s.pairs)

pub returns-then-n-p : goal.returns-then-n-p
returns-then-n-p c =
    let ps = items c.args.self.now c.args.n in
    let inside : c.loop-p.p-index < length ps = search rules in
    sym (c.loop-p.invariant ∙ read-here ps c.loop-p.p-index c.args.n no_pair inside c.if-n-p.true)

pub loop-p-preserved : goal.loop-p-preserved
loop-p-preserved c =
    let ps = items c.args.self.now c.args.n in
    let inside : c.loop-p.p-index < length ps = search rules in
    c.loop-p.invariant ∙ read-behind ps c.loop-p.p-index c.args.n no_pair inside c.if-n-p.false

pub returns : goal.returns
returns c = sym (c.loop-p.invariant ∙ read-past (items c.args.self.now c.args.n) c.loop-p.p-index c.args.n (search rules))
