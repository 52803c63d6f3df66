use Rattle.std.proofs.Common.{◌≡◌, [], drop, map, take}
use Rattle.psm_code.specs.RoutineRules.{parameter_fault}
use Rattle.psm_code.specs.Rules.{each_after}
use Rattle.psm_verify.specs.Checked.{checked}
use Rattle.psm_verify.proofs.routines.parameters.Given as goal

abbrev pub invariant-loop-at : goal.invariant-loop-at
invariant-loop-at l =
    (checked l.fn.line (each_after (parameter_fault l.routine) [] l.routine.parameters) ≡ checked l.line (each_after (parameter_fault l.routine) (take l.at l.routine.parameters) (drop l.at l.routine.parameters)))
    × (l.names ≡ map (λ p. p.name) (take l.at l.routine.parameters))
