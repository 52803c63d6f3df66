use Rattle.std.proofs.Common.{refl, rules, arith}
use Rattle.psm_code.specs.PlanRules.{item_in}
use Rattle.psm_verify.proofs.Each.{flat_go, flat_stop}
use Rattle.psm_verify.proofs.verify_context.VerifyContext.items_of_rows.Goals as goal

pub returns-in_err-line : goal.returns-in_err-line
returns-in_err-line c =
    flat_stop c.args.codes.now c.args.codes.now c.loop-code.code-index c.code-item.result c.args.line c.loop-code.line (item_in c.args.self.now.code.now c.args.self.now.routine.now c.args.table)
    c.in_err-line.field-0.0 c.from_residual.result (search rules) refl (omega arith) c.code-item.is c.loop-code.invariant c.in_err-line.ensures

pub loop-code-preserved : goal.loop-code-preserved
loop-code-preserved c =
    flat_go c.args.codes.now c.args.codes.now c.loop-code.code-index c.code-item.result c.args.line c.loop-code.line (item_in c.args.self.now.code.now c.args.self.now.routine.now c.args.table)
    c.in_ok-line.line refl (omega arith) c.code-item.is c.loop-code.invariant c.in_ok-line.ensures
