use Rattle.std.proofs.Common.{◌∙◌, ap, sym}
use Rattle.psm_rules.specs.Faults.{earlier}
use Rattle.psm_rules.specs.StatementFaults.{diagnostics_fault, number_fault}
use Rattle.psm_check_stmt.proofs.conditions.diagnostics_fault.Goals as goal

pub returns-in-Condition : goal.returns-in-Condition
returns-in-Condition c =
    c.earlier.ensures
    ∙ ap (λ f. earlier f c.condition_items_fault.result) c.number_fault.ensures
    ∙ ap (λ f. earlier (number_fault c.args.scopes.now c.in-Condition.number) f) c.condition_items_fault.ensures
    ∙ ap (λ d. diagnostics_fault c.args.scopes.now d) (sym c.in-Condition.is)
