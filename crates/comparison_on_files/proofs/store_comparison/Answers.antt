-- `store_comparison` stores what the verdict asks for. Assumes nothing.
use Rattle.std.proofs.Common.{◌≡◌, refl, sym, ap, ◌∙◌, length}
use Rattle.std.specs.Prelude.{Ok, Err}
use Rattle.limits.specs.internal.Schema.{widths_in}
use Rattle.comparison.specs.declared.Verdict.TheVariants as verdict
use Rattle.refusals.specs.Refusals.{refused}
use Rattle.comparison_on_files.proofs.Verdicts.{given-as, comparison-none, comparison-apart, comparison-contained, comparison-never, comparison-refused}
use Rattle.comparison_on_files.proofs.store_comparison.Goals as goal

pub returns-in-Ok-Apart : goal.returns-in-Ok-Apart
returns-in-Ok-Apart c =
    let a = c.args in
    let w = c.in-Ok-Apart in
    let e : a.compared ≡ Ok (verdict.Apart w.chased) = w.is ∙ ap Ok (rw w.is at w.field-0-is) in
    given-as (widths_in a.schema) a.compared _ e a.verdict.now a.mapping.now a.part.now a.size.now
    (comparison-apart (length a.mapping.now) (length a.part.now) (widths_in a.schema) w.chased) refl _ _ _ _ _ c.store_apart.ensures

pub returns-in-Ok-Mapped : goal.returns-in-Ok-Mapped
returns-in-Ok-Mapped c =
    let a = c.args in
    let w = c.in-Ok-Mapped in
    let e : a.compared ≡ Ok (verdict.Mapped w.images) = w.is ∙ ap Ok (rw w.is at w.field-0-is) in
    given-as (widths_in a.schema) a.compared _ e a.verdict.now a.mapping.now a.part.now a.size.now
    (comparison-contained (length a.mapping.now) (length a.part.now) (widths_in a.schema) w.images) refl _ _ _ _ _ c.store_contained.ensures

pub returns-in-Ok-Never : goal.returns-in-Ok-Never
returns-in-Ok-Never c =
    let a = c.args in
    let w = c.in-Ok-Never in
    let e : a.compared ≡ Ok verdict.Never = w.is ∙ ap Ok (rw w.is at w.field-0-is) in
    given-as (widths_in a.schema) a.compared _ e a.verdict.now a.mapping.now a.part.now a.size.now
    (comparison-never (length a.mapping.now) (length a.part.now) (widths_in a.schema)) refl _ _ _ _ _ c.store_contained-in-Ok-Never.ensures

pub returns-in-Err : goal.returns-in-Err
returns-in-Err c =
    let a = c.args in
    let e : a.compared ≡ Err c.in-Err.refusal = c.in-Err.is in
    given-as (widths_in a.schema) a.compared _ e a.verdict.now a.mapping.now a.part.now a.size.now refl refl _ _ _ _ _
    (comparison-none _ a.verdict.now a.mapping.now a.part.now a.size.now
    (comparison-refused (length a.mapping.now) (length a.part.now) (widths_in a.schema) c.in-Err.refusal ∙ ap refused (sym c.refusal_for.ensures)))
