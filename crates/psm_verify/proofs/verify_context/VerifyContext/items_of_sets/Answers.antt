use Rattle.std.proofs.Common.{refl, rules, arith}
use Rattle.psm_code.specs.PlanRules.{set_in}
use Rattle.psm_verify.proofs.Each.{flat_go, flat_stop}
use Rattle.psm_verify.proofs.verify_context.VerifyContext.items_of_sets.Goals as goal

pub returns-in_err-line : goal.returns-in_err-line
returns-in_err-line c =
    flat_stop c.args.sets.now c.args.sets.now c.loop-set.set-index c.set-item.result c.args.line c.loop-set.line (set_in c.args.self.now.code.now c.args.self.now.routine.now c.args.table)
    c.in_err-line.field-0.0 c.from_residual.result (search rules) refl (omega arith) c.set-item.is c.loop-set.invariant c.in_err-line.ensures

pub loop-set-preserved : goal.loop-set-preserved
loop-set-preserved c =
    flat_go c.args.sets.now c.args.sets.now c.loop-set.set-index c.set-item.result c.args.line c.loop-set.line (set_in c.args.self.now.code.now c.args.self.now.routine.now c.args.table)
    c.in_ok-line.line refl (omega arith) c.set-item.is c.loop-set.invariant c.in_ok-line.ensures
