use Rattle.std.proofs.Common.{rules, arith}
use Rattle.psm_code.specs.PlanRules.{plan_faults}
use Rattle.psm_verify.proofs.Each.{flat_go, flat_stop}
use Rattle.psm_verify.proofs.verify_context.VerifyContext.plans.Goals as goal

pub returns-in_err-line : goal.returns-in_err-line
returns-in_err-line c =
    flat_stop c.args.self.now.routine.now.plans c.items-plan-items.result.now c.loop-plan.plan-index c.plan-item.result c.args.line c.loop-plan.line (plan_faults c.args.self.now.code.now c.args.self.now.routine.now)
    c.in_err-line.field-0.0 c.from_residual.result (search rules) c.items-plan-items.ensures (omega arith) c.plan-item.is c.loop-plan.invariant c.in_err-line.ensures

pub loop-plan-preserved : goal.loop-plan-preserved
loop-plan-preserved c =
    flat_go c.args.self.now.routine.now.plans c.items-plan-items.result.now c.loop-plan.plan-index c.plan-item.result c.args.line c.loop-plan.line (plan_faults c.args.self.now.code.now c.args.self.now.routine.now)
    c.in_ok-line.line c.items-plan-items.ensures (omega arith) c.plan-item.is c.loop-plan.invariant c.in_ok-line.ensures
