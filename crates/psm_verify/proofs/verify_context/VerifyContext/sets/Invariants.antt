use Rattle.std.proofs.Common.{◌≡◌, [], drop, map, take}
use Rattle.psm_code.specs.Rules.{each_after}
use Rattle.psm_code.specs.PlanRules.{set_faults}
use Rattle.psm_verify.specs.Checked.{checked}
use Rattle.psm_verify.proofs.verify_context.VerifyContext.sets.Given as goal

abbrev pub invariant-loop-at : goal.invariant-loop-at
invariant-loop-at l =
    (checked l.fn.line (each_after (set_faults l.self.code.now l.self.routine.now l.table) [] l.sets) ≡ checked l.line (each_after (set_faults l.self.code.now l.self.routine.now l.table) (take l.at l.sets) (drop l.at l.sets)))
    × (l.columns ≡ map (λ s. s.column) (take l.at l.sets))
