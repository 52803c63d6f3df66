use Rattle.std.proofs.Common.{Some, Err, ap, subst, ◌∙◌}
use Rattle.psm_unwind.specs.Actions.{GivesItemOf, stacked_in}
use Rattle.psm_machine.proofs.StackedArea.{stacked_found, stacked_missing}
use Rattle.psm_machine.proofs.entries.stacked_item_at.Goals as goal

pub returns-in-Some-Ok : goal.returns-in-Some-Ok
returns-in-Some-Ok c = λ area e m.
    stacked_found (stacked_in c.args.run.now) area c.args.number.now c.in-Some-Ok.value c.args.item m e
    (subst (GivesItemOf (stacked_in c.args.run.now) c.args.number.now c.args.item) (c.in-Some-Ok.is ∙ ap Some c.in-Some-Ok.field-0-is) c.stacked_condition_item.ensures)

pub returns-in-Some-Err-Number : goal.returns-in-Some-Err-Number
returns-in-Some-Err-Number c = λ area e m.
    stacked_missing (stacked_in c.args.run.now) area c.args.number.now c.args.item m c.stop_at.result e
    (subst (GivesItemOf (stacked_in c.args.run.now) c.args.number.now c.args.item) (c.in-Some-Err-Number.is ∙ ap Some (c.in-Some-Err-Number.field-0-is ∙ ap Err c.in-Some-Err-Number.field-0-0-is)) c.stacked_condition_item.ensures) c.stop_at.ensures
