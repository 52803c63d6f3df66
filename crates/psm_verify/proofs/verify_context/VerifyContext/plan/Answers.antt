use Rattle.std.proofs.Common.{◌≡◌, [], ◌∷◌, Ok, ap, sym, ◌∙◌}
use Rattle.psm_code.specs.PlanRules.{plan_fault, plan_parts}
use Rattle.psm_verify.specs.Checked.{checked}
use Rattle.psm_verify.proofs.LinesInOrder.{go}
use Rattle.psm_verify.proofs.verify_context.VerifyContext.plan.Goals as goal

pub returns : goal.returns
returns c =
    let passed_1 : checked c.args.line (plan_fault c.args.self.now.code.now c.args.self.now.routine.now c.args.plan.now ∷ []) ≡ Ok c.in_ok-line.line = (ap (λ f. checked c.args.line (f ∷ [])) (sym c.in_ok-fault.ensures) ∙ c.in_ok-line.ensures) in
    go (plan_fault c.args.self.now.code.now c.args.self.now.routine.now c.args.plan.now ∷ []) (plan_parts c.args.self.now.code.now c.args.self.now.routine.now c.args.plan.now) c.args.line c.plan_parts.result passed_1 (c.plan_parts.ensures)
