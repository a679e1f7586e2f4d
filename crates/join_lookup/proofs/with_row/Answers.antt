-- `with_row` puts in the columns of a set one by one.
-- Assumes nothing.
use mathlib.Core.Path.{refl, sym, subst, ◌∙◌}
use mathlib.Core.Bool.{false≢true}
use mathlib.Core.List.{List}
use Prim.Native.Nat.{ℕ, ◌+◌, ◌<◌}
use native.Mathlib.Omega.{arith}
use borrow.Author.Tests.{eqb-true, eq-eqb}
use borrow.Author.Rules.{rules}
use Rattle.join_lookup.proofs.Putting.{PutIn, put-here, put-not}
use Rattle.join_lookup.proofs.with_row.Goals as goal
use Rattle.codes.specs.internal.Codes.{codes_in}
use Rattle.join_lookup.proofs.with_row.Goals.{then-has_column, else-has_column}

pub loop-c-init : goal.loop-c-init
loop-c-init c = record { size = search rules; new = λ d h. absurd (omega arith); old = λ d clear. refl }

pub loop-c-preserved : goal.loop-c-preserved
loop-c-preserved c =
    let a = c.args in
    let l = c.loop-c in
    let low : l.c < 8 = omega (arith, c.loop-c-test.true, c.requires.1) in
    elim c.if-has_column.branch [
      | then-has_column w ↦ subst (λ (r : List ℕ). PutIn (codes_in a.codes.now) a.words.now a.at a.set a.values r (l.c + 1)) (sym w.row-is)
          (put-here (codes_in a.codes.now) a.words.now a.at a.set a.values l.row l.c w.value.result l.invariant low
          (eqb-true _ 1 (sym c.has_column.ensures ∙ w.if-has_column.true)) w.value.ensures)
      | else-has_column w ↦ subst (λ (r : List ℕ). PutIn (codes_in a.codes.now) a.words.now a.at a.set a.values r (l.c + 1)) (sym w.row-is)
          (put-not (codes_in a.codes.now) a.words.now a.at a.set a.values l.row l.c l.invariant
          (λ bit. false≢true (sym w.if-has_column.false ∙ c.has_column.ensures ∙ eq-eqb _ 1 bit)))
    ]

pub returns : goal.returns
returns c = record {
  by_index = λ d h b. c.loop-c.invariant.new d (omega (arith, c.loop-c-test.false)) b;
  by_index_2 = c.loop-c.invariant.old;
}
