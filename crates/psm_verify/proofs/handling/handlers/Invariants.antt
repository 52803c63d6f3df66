use Rattle.std.proofs.Common.{◌≡◌, [], drop, take}
use Rattle.std.specs.List.{flat_map}
use Rattle.psm_code.specs.Rules.{each_after}
use Rattle.psm_code.specs.RoutineRules.{handler_fault}
use Rattle.psm_keys.specs.Handled.{handled_by}
use Rattle.psm_verify.specs.Checked.{checked}
use Rattle.psm_verify.proofs.handling.handlers.Given as goal

abbrev pub invariant-loop-at : goal.invariant-loop-at
invariant-loop-at l =
    (checked l.fn.line (each_after (handler_fault l.routine) [] l.routine.handlers.handlers) ≡ checked l.line (each_after (handler_fault l.routine) (take l.at l.routine.handlers.handlers) (drop l.at l.routine.handlers.handlers)))
    × (l.handled ≡ flat_map handled_by (take l.at l.routine.handlers.handlers))
