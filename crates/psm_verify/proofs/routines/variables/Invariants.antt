use Rattle.std.proofs.Common.{◌≡◌, drop, map}
use Rattle.psm_code.specs.RoutineRules.{type_fault}
use Rattle.psm_verify.specs.Checked.{checked}
use Rattle.psm_verify.proofs.routines.variables.Given as goal

abbrev pub invariant-loop-kind : goal.invariant-loop-kind
invariant-loop-kind l = checked l.fn.line (map type_fault l.routine.variables) ≡ checked l.line (map type_fault (drop l.kind-index l.routine.variables))
