use Rattle.std.proofs.Common.{◌≡◌, drop}
use Rattle.std.specs.List.{flat_map}
use Rattle.psm_code.specs.PlanRules.{set_in}
use Rattle.psm_verify.specs.Checked.{checked}
use Rattle.psm_verify.proofs.verify_context.VerifyContext.items_of_sets.Given as goal

abbrev pub invariant-loop-set : goal.invariant-loop-set
invariant-loop-set l = checked l.fn.line (flat_map (set_in l.self.code.now l.self.routine.now l.table) l.sets) ≡ checked l.line (flat_map (set_in l.self.code.now l.self.routine.now l.table) (drop l.set-index l.sets))
