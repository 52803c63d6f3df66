use Rattle.std.proofs.Common.{◌∙◌, arith}
use Rattle.psm_check_script.proofs.Pairs.{values_first}
use Rattle.psm_check_script.proofs.inserts.typed_values_fault.Goals as goal

pub returns-then-rest-others : goal.returns-then-rest-others
returns-then-rest-others c =
    c.earlier.ensures
    ∙ values_first c.args.values.now c.args.types.now c.in-Some.first.now c.in-Some.rest.now c.constant_fault-fault.result c.constants_fault.result
    (grind arith) (grind arith) (grind arith) (grind arith)
