-- `shared_columns` marks columns that share a variable.
-- Assumes nothing.
use borrow.Author.Rules.{rules}
use mathlib.Core.Path.{◌≡◌, sym, ◌∙◌, ap, subst}
use Prim.Native.Nat.{ℕ, ◌+◌, ◌*◌, ◌%◌, ◌^◌}
use native.Mathlib.Omega.{arith}
use lib.Bits.{bit_or}
use lib.ListN.{get_or, set}
use Rattle.query.proofs.Codes.{code-variable}
use Rattle.candidates.proofs.Columns.{Marked, slot, bit_column, marked-none, marked-variable}
use Rattle.candidates.proofs.shared.shared_columns.Goals as goal

pub loop-k-init : goal.loop-k-init
loop-k-init c = marked-none c.args.source.now _ _ (search rules) (search rules)

pub loop-k-preserved : goal.loop-k-preserved
loop-k-preserved c =
    let source = c.args.source.now in
    let l = c.loop-k in
    let variable = code-variable _ _ (sym c.from.ensures ∙ c.in-Variable.is) in
    let at : slot (get_or source l.k 0) ≡ c.from-x.result = ap (λ (v : ℕ). v % 96) variable.1 ∙ sym c.from-x.ensures in
    subst
    (λ (x : ℕ). Marked source (set l.columns (l.k % 8) (bit_or (get_or l.columns (l.k % 8) 0) (get_or l.seen x 0)))
    (set l.seen x (bit_or (get_or l.seen x 0) (1 * 2 ^ (l.k % 8) % 256))) (l.k + 1)) at
    (marked-variable source l.columns l.seen l.k l.invariant _ (bit_column (l.k % 8) (omega arith)))
