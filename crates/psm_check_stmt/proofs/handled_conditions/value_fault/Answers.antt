use Rattle.psm_check_stmt.proofs.Handling.{finds_one}
use Rattle.psm_check_stmt.proofs.handled_conditions.value_fault.Goals as goal

pub returns : goal.returns
returns c =
    finds_one c.args.scopes.now c.args.value.now c.args.handled_conditions.now c.repeats.new.self c.in_ok-repeats.repeats c.handler_value_fault.result c.in_ok-repeats.ensures c.handler_value_fault.ensures
