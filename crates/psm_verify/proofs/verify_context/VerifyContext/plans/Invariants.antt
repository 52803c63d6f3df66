use Rattle.std.proofs.Common.{◌≡◌, drop}
use Rattle.std.specs.List.{flat_map}
use Rattle.psm_code.specs.PlanRules.{plan_faults}
use Rattle.psm_verify.specs.Checked.{checked}
use Rattle.psm_verify.proofs.verify_context.VerifyContext.plans.Given as goal

abbrev pub invariant-loop-plan : goal.invariant-loop-plan
invariant-loop-plan l = checked l.fn.line (flat_map (plan_faults l.self.code.now l.self.routine.now) l.self.routine.now.plans) ≡ checked l.line (flat_map (plan_faults l.self.code.now l.self.routine.now) (drop l.plan-index l.self.routine.now.plans))
