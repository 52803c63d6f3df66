use Rattle.std.proofs.Common.{◌≡◌, ◌+◌, drop}
use Rattle.psm_code.specs.RoutineRules.{context_faults}
use Rattle.psm_verify.specs.Checked.{checked}
use Rattle.psm_verify.proofs.handlers.contexts.Given as goal

abbrev pub invariant-loop-at : goal.invariant-loop-at
invariant-loop-at l = checked l.fn.line (context_faults l.routine 1 l.routine.handlers.contexts) ≡ checked l.line (context_faults l.routine (l.at + 1) (drop l.at l.routine.handlers.contexts))
