-- `table` cuts a table of all candidates.
-- Assumes nothing.
use mathlib.Core.Path.{refl, sym, ◌∙◌, subst}
use mathlib.Core.Bool.{false≢true}
use Prim.Native.Nat.{ℕ, ◌/◌, ◌%◌}
use native.Mathlib.Omega.{arith}
use Rattle.candidates.specs.internal.Sharing.{Cut, Joins}
use Rattle.candidates.proofs.Columns.{shares-met}
use Rattle.candidates.proofs.Cutting.{cut-none, passed-none, passed-more, passed-all}
use Rattle.candidates.proofs.table.table.Goals as goal
use Rattle.candidates.proofs.table.table.Goals.{then-share, else-share}

pub loop-k-init : goal.loop-k-init
loop-k-init c = passed-none c.args.source.now c.args.target.now c.args.size c.args.count c.fill.new.self

pub loop-k-preserved : goal.loop-k-preserved
loop-k-preserved c =
    let a = c.args in
    let l = c.loop-k in
    let Join : ℕ → ℕ → ℕ → ℕ → Type 0 = Joins a.source.now a.target.now a.size (l.k / 8) (l.k % 8) in
    let step : Cut a.size a.count Join l.table c.if-share.table =
    elim c.if-share.branch [
      | then-share w ↦ subst (Cut a.size a.count Join l.table) (sym w.table-is) w.cut_columns.ensures
      | else-share w ↦
          subst (Cut a.size a.count Join l.table) (sym w.table-is)
          (cut-none a.size a.count Join l.table
          (λ r d q e hr hd hq he shared.
          absurd
          (false≢true
          (sym w.if-share.false
          ∙ c.share.ensures.1
          (shares-met a.source.now c.shared_columns-columns.result a.size (l.k / 8) (l.k % 8) r q c.requires.few-rows (omega arith) (omega arith) hr hq c.shared_columns-columns.ensures shared)))))
    ]
    in
    passed-more a.source.now a.target.now a.size a.count l.k c.fill.new.self l.table c.if-share.table c.loop-k-test.true l.invariant step

pub returns : goal.returns
returns c =
    let a = c.args in
    passed-all a.source.now a.target.now a.size a.count c.loop-k.k c.fill.new.self c.loop-k.table c.loop-k-test.false c.requires.few-rows c.requires.few-images
    (λ p h. c.fill.ensures.clones p 0 (omega (arith, c.fill.ensures.len)) refl) c.loop-k.invariant
