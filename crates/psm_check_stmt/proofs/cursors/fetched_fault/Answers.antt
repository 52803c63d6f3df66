use Rattle.std.proofs.Common.{◌∙◌, arith}
use Rattle.psm_check_stmt.proofs.Pairs.{fetched_first}
use Rattle.psm_check_stmt.proofs.cursors.fetched_fault.Goals as goal

pub returns-then-rest-others : goal.returns-then-rest-others
returns-then-rest-others c =
    c.earlier.ensures
    ∙ fetched_first c.args.scopes.now c.args.targets.now c.args.shapes.now c.in-Some.first.now c.in-Some.rest.now c.fetched_into-fault.result c.all_fetched_into.result
    (grind arith) (grind arith) (grind arith) (grind arith)
