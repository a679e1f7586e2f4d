-- `record_calls::open` meets its contract, by `Outcomes`: padded widths are good exactly when the widths given are.
-- Assumes nothing.
use mathlib.Core.Path.{sym, ap, ◌∙◌}
use mathlib.Core.Option.{some}
use lib.ListN.{length}
use Rattle.record.specs.declared.Record.{Record}
use Rattle.query.specs.Rule.{good_relations}
use Rattle.record_calls.specs.Calls.{empty_record}
use Rattle.record.specs.Calls.{concluded}
use Rattle.record_calls.proofs.Outcomes.{open-many, open-unfit, open_done}
use Rattle.record_calls.proofs.open.Goals as goal

pub returns-then-widths-gt8 : goal.returns-then-widths-gt8
returns-then-widths-gt8 c =
    c.refused.ensures ∙ ap (λ (given : Record). concluded (some 3) given given) c.blank_record.ensures ∙ open-many
    c.args.widths.now c.if-widths-gt8.true

pub returns-then-not-relations_good : goal.returns-then-not-relations_good
returns-then-not-relations_good c =
    c.refused-then-not-relations_good.ensures ∙ ap (λ (given : Record). concluded (some 3) given given) c.blank_record-then-not-relations_good.ensures
    ∙ open-unfit c.args.widths.now
    (sym (c.relations_good.ensures ∙ ap
    (good_relations (length c.args.widths.now))
    c.padded-padded.ensures) ∙ c.if-not-relations_good.true)

pub returns : goal.returns
returns c =
    c.done.ensures ∙ open_done c.args.widths.now
    (sym (c.relations_good.ensures ∙ ap
    (good_relations (length c.args.widths.now))
    c.padded-padded.ensures) ∙ c.if-not-relations_good.false) c.opened.result
    (c.opened.ensures ∙ ap (empty_record (length c.args.widths.now))
    c.padded-padded.ensures)
