use Rattle.std.proofs.Common.{ap, sym, ◌∙◌, subst}
use Rattle.std.specs.Option.{option_copied}
use Rattle.psm_cond.specs.declared.choice.Asked.TheVariants.{Outward}
use Rattle.psm_cond.specs.Handlers.{Asks}
use Rattle.psm_cond.proofs.Contexts.{asks_parent, asks_outside}
use Rattle.psm_cond.proofs.choice.ask.Goals as goal

pub returns-in-None-chosen_in : goal.returns-in-None-chosen_in
returns-in-None-chosen_in c =
    asks_parent c.args.table.now c.args.context c.args.entry.now c.in-Some.found.now c.in-Block.field-0 c.requires.well_formed_handlers
    (sym c.context.ensures ∙ ap option_copied c.in-Some.is) c.in-Block.is (sym c.chosen_in.ensures ∙ c.in-None-chosen_in.is)

pub returns-in-Action : goal.returns-in-Action
returns-in-Action c =
    subst (λ next. Asks c.args.table.now c.args.context c.args.entry.now (Outward next)) (sym c.outside.ensures)
    (asks_outside c.args.table.now c.args.context c.args.entry.now c.in-Some.found.now c.in-Action.handler c.requires.well_formed_handlers
    (sym c.context.ensures ∙ ap option_copied c.in-Some.is) c.in-Action.is)
