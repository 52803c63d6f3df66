use Rattle.std.proofs.Common.{Err, ap, subst, ◌∙◌}
use Rattle.psm_cond.specs.Item.{GivesItem, entries_of}
use Rattle.psm_machine.proofs.Numbering.{item_found, item_missing}
use Rattle.psm_machine.proofs.entries.item_at.Goals as goal

pub returns-in-Ok : goal.returns-in-Ok
returns-in-Ok c = λ m.
    item_found c.args.area.now.entries c.args.number.now c.in-Ok.value c.args.item m c.in-Ok.ensures.0 c.in-Ok.ensures.1 c.in-Ok.ensures.2 c.in-Ok.ensures.3 c.in-Ok.ensures.4

pub returns-in-Err-Number : goal.returns-in-Err-Number
returns-in-Err-Number c = λ m.
    item_missing c.args.area.now.entries c.args.number.now c.args.item m c.stop_at.result
    (subst (GivesItem (entries_of c.args.area.now.entries) c.args.number.now c.args.item) (c.in-Err-Number.is ∙ ap Err c.in-Err-Number.field-0-is) c.condition_item.ensures) c.stop_at.ensures
