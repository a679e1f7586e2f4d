-- `first_partner` is the first row that breaks the dependency with the row at `a`.
-- Assumes nothing.
use mathlib.Core.Path.{◌≡◌, sym, ap, ap₂, ◌∙◌}
use mathlib.Core.Bool.{Bool, true, false}
use Prim.Native.Nat.{ℕ}
use lib.ListN.{get_or}
use Rattle.theory.specs.Query.{Row}
use Rattle.query.specs.View.{dependency_of}
use Rattle.theory.specs.Chase.{first_passing}
use Rattle.std.specs.Prelude.{Some}
use Rattle.words.specs.declared.Position.{Position}
use Rattle.words.specs.internal.Rows.{row_read, span_read, rows_read}
use Rattle.words.specs.Testing.{breaks_rows, breaks_with}
use Rattle.words.specs.internal.Found.{partner_of}
use Rattle.codes.specs.internal.Codes.{codes_in}
use Rattle.words.proofs.Walking.{stepped, ended}
use Rattle.words.proofs.Search.{breaks-second, passing-here, passing-later, passing-end}
use Rattle.words.proofs.first_partner.Goals as goal
use Rattle.words.proofs.first_partner.Goals.{else-words-row-via-then-words-row+else-breaks_at, else-words-row-via-else-words-row}

pub returns-then-breaks_at : goal.returns-then-breaks_at
returns-then-breaks_at c =
    let a = c.args in
    let C = codes_in a.codes.now in
    let l = c.loop-row in
    let W = a.words.now in
    let S = a.schema.now in
    let at = l.row-iterator.place.at in
    let step = stepped l.invariant.0 l.invariant.1 c.in-Some.ensures.steps in
    let here : get_or W at 0 ≡ a.d.relation = ap (λ (r : Position). get_or W r.at 0) (sym step.row) ∙ c.if-words-row.true in
    let t = breaks_with (dependency_of a.d) (row_read C S W a.a) in
    let width : ℕ = get_or S a.d.relation 0 in
    let ra : row_read C S W a.a ≡ span_read C width W a.a = ap (λ (r : ℕ). span_read C (get_or S r 0) W a.a) c.requires.a_value.0 in
    let rb : row_read C S W at ≡ span_read C width W c.in-Some.row.at =
    ap (λ (r : ℕ). span_read C (get_or S r 0) W at) here ∙ ap (λ (r : Position). span_read C width W r.at) (sym step.row) in
    let yes : t (l.row-iterator.place.number, row_read C S W at) ≡ true =
    ap₂ {C = Bool} (λ (x y : Row ℕ). breaks_rows (dependency_of a.d) x y) ra rb ∙ sym c.breaks_at.ensures ∙ c.if-breaks_at.true in
    ap (λ (r : Position). Some r.number) step.row
    ∙ sym (ap partner_of (l.invariant.2 ∙ passing-here C S W t at c.next.new.self.place.at l.row-iterator.place.number step.next yes))

pub loop-row-preserved : goal.loop-row-preserved
loop-row-preserved c =
    let a = c.args in
    let C = codes_in a.codes.now in
    let l = c.loop-row in
    let W = a.words.now in
    let S = a.schema.now in
    let at = l.row-iterator.place.at in
    let step = stepped l.invariant.0 l.invariant.1 c.in-Some.ensures.steps in
    let same : get_or W c.in-Some.row.at 0 ≡ get_or W at 0 = ap (λ (r : Position). get_or W r.at 0) step.row in
    let t = breaks_with (dependency_of a.d) (row_read C S W a.a) in
    let width : ℕ = get_or S a.d.relation 0 in
    let fails : t (l.row-iterator.place.number, row_read C S W at) ≡ false =
    elim c.else-words-row.branch [
      | else-words-row-via-then-words-row+else-breaks_at w ↦ ap₂ {C = Bool} (λ (x y : Row ℕ). breaks_rows (dependency_of a.d) x y)
          (ap (λ (r : ℕ). span_read C (get_or S r 0) W a.a) c.requires.a_value.0)
          (ap (λ (r : ℕ). span_read C (get_or S r 0) W at) (sym same ∙ w.if-words-row.true) ∙ ap (λ (r : Position). span_read C width W r.at) (sym step.row))
          ∙ sym w.breaks_at.ensures ∙ w.if-breaks_at.false
      | else-words-row-via-else-words-row w ↦ breaks-second (dependency_of a.d) (row_read C S W a.a) (row_read C S W at) (λ h. w.if-words-row.false (same ∙ h))
    ] in (
      step.schema-same,
      step.words-same,
      l.invariant.2 ∙ passing-later C S W t at c.next.new.self.place.at l.row-iterator.place.number step.next fails
          ∙ ap (λ (n : ℕ). first_passing t (rows_read C S W c.next.new.self.place.at n)) (sym step.number),
    )

pub returns : goal.returns
returns c =
    let a = c.args in
    let C = codes_in a.codes.now in
    let l = c.loop-row in
    sym (ap partner_of (l.invariant.2 ∙ passing-end C a.schema.now a.words.now (breaks_with (dependency_of a.d) (row_read C a.schema.now a.words.now a.a))
    l.row-iterator.place.at l.row-iterator.place.number (ended l.invariant.0 l.invariant.1 c.in-None.ensures.steps)))
