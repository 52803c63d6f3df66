use Rattle.std.proofs.Common.{◌≡◌, drop}
use Rattle.psm_code.specs.RoutineRules.{line_faults}
use Rattle.psm_verify.specs.Checked.{checked}
use Rattle.psm_verify.proofs.verify_context.VerifyContext.lines.Given as goal

abbrev pub invariant-loop-at : goal.invariant-loop-at
invariant-loop-at l = checked l.fn.line (line_faults l.self.code.now l.self.routine.now 0 l.self.routine.now.lines) ≡ checked l.line (line_faults l.self.code.now l.self.routine.now l.at (drop l.at l.self.routine.now.lines))
