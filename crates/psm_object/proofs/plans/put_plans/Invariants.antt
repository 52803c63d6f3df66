use Rattle.std.proofs.Common.{◌≡◌, ◌++◌, drop}
use Rattle.std.specs.List.{flat_map}
use Rattle.psm_object.specs.Plans.{plan_lines}
use Rattle.psm_object.specs.Words.{text}
use Rattle.psm_object.proofs.plans.put_plans.Given as goal

abbrev pub invariant-loop-plan : goal.invariant-loop-plan
invariant-loop-plan l = l.out.items ++ text (flat_map plan_lines (drop l.plan-index l.plans)) ≡ l.fn.out.items ++ text (flat_map plan_lines l.plans)
