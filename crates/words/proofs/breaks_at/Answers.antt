-- `breaks_at` answers whether two rows break a dependency.
-- Assumes nothing.
use mathlib.Core.Path.{◌≡◌, sym, ap, ◌∙◌}
use mathlib.Core.Bool.{Bool, true, false, not, ◌&&◌}
use Prim.Native.Nat.{◌+◌}
use borrow.Author.Tests.{not-false}
use lib.Dec.{eqb}
use lib.ListN.{get_or}
use Rattle.query.specs.View.{dependency_of}
use Rattle.words.specs.internal.Rows.{span_read, agree_rows}
use Rattle.theory.specs.Codes.{read_code}
use Rattle.codes.specs.internal.Codes.{codes_in}
use Rattle.words.proofs.Columns.{breaks-spans}
use Rattle.words.proofs.breaks_at.Goals as goal

pub returns-then-not-agrees_at : goal.returns-then-not-agrees_at
returns-then-not-agrees_at c = let s = c in
    let a = s.args in
    let C = codes_in a.codes.now in
    let rooms = s.requires.width_in_bounds in
    let e : agree_rows (dependency_of a.d) (span_read C a.width a.words.now a.a) (span_read C a.width a.words.now a.b) ≡ false =
    sym c.agrees_at.ensures ∙ c.if-not-agrees_at.true in
    sym (breaks-spans C a.width a.words.now a.a a.b rooms.0 rooms.1 a.d s.requires.a_value.0 s.requires.a_value.1 s.requires.width_bound.2
    ∙ ap (λ (b : Bool). b && not (eqb (read_code C (get_or a.words.now (a.a + 1 + a.d.right) 0)) (read_code C (get_or a.words.now (a.b + 1 + a.d.right) 0)))) e)

pub returns : goal.returns
returns c = let s = c in
    let a = s.args in
    let C = codes_in a.codes.now in
    let rooms = s.requires.width_in_bounds in
    let e : agree_rows (dependency_of a.d) (span_read C a.width a.words.now a.a) (span_read C a.width a.words.now a.b) ≡ true =
    sym c.agrees_at.ensures ∙ not-false c.agrees_at.result
    (ap not c.if-not-agrees_at.false) in
    let same : not (eqb c.value.result c.value-2.result)
    ≡ not (eqb (read_code C (get_or a.words.now (a.a + 1 + a.d.right) 0)) (read_code C (get_or a.words.now (a.b + 1 + a.d.right) 0))) =
    rw (c.value.ensures, c.value-2.ensures) in
    same ∙ sym (breaks-spans C a.width a.words.now a.a a.b rooms.0 rooms.1 a.d s.requires.a_value.0 s.requires.a_value.1 s.requires.width_bound.2
    ∙ ap (λ (b : Bool). b && not (eqb (read_code C (get_or a.words.now (a.a + 1 + a.d.right) 0)) (read_code C (get_or a.words.now (a.b + 1 + a.d.right) 0)))) e)
