use Rattle.std.proofs.Common.{◌≡◌, drop, map}
use Rattle.psm_code.specs.RoutineRules.{declared_fault}
use Rattle.psm_verify.specs.Checked.{checked}
use Rattle.psm_verify.proofs.handlers.conditions.Given as goal

abbrev pub invariant-loop-declared : goal.invariant-loop-declared
invariant-loop-declared l = checked l.fn.line (map declared_fault l.routine.handlers.declared) ≡ checked l.line (map declared_fault (drop l.declared-index l.routine.handlers.declared))
