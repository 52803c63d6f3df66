use Rattle.std.proofs.Common.{rules, arith}
use Rattle.psm_code.specs.PlanRules.{query_faults}
use Rattle.psm_verify.proofs.Each.{flat_go, flat_stop}
use Rattle.psm_verify.proofs.verify_context.VerifyContext.queries.Goals as goal

pub returns-in_err-line : goal.returns-in_err-line
returns-in_err-line c =
    flat_stop c.args.self.now.routine.now.queries c.items-query-items.result.now c.loop-query.query-index c.query-item.result c.args.line c.loop-query.line (query_faults c.args.self.now.code.now c.args.self.now.routine.now)
    c.in_err-line.field-0.0 c.from_residual.result (search rules) c.items-query-items.ensures (omega arith) c.query-item.is c.loop-query.invariant c.in_err-line.ensures

pub loop-query-preserved : goal.loop-query-preserved
loop-query-preserved c =
    flat_go c.args.self.now.routine.now.queries c.items-query-items.result.now c.loop-query.query-index c.query-item.result c.args.line c.loop-query.line (query_faults c.args.self.now.code.now c.args.self.now.routine.now)
    c.in_ok-line.line c.items-query-items.ensures (omega arith) c.query-item.is c.loop-query.invariant c.in_ok-line.ensures
