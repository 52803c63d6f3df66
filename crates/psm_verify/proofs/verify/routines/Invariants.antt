use Rattle.std.proofs.Common.{◌≡◌, [], drop, map, take}
use Rattle.psm_code.specs.Rules.{each_after}
use Rattle.psm_code.specs.RoutineRules.{routine_faults}
use Rattle.psm_keys.specs.Signature.{signature_of}
use Rattle.psm_verify.specs.Checked.{checked}
use Rattle.psm_verify.proofs.verify.routines.Given as goal

abbrev pub invariant-loop-at : goal.invariant-loop-at
invariant-loop-at l =
    (checked l.fn.line (each_after (routine_faults l.code) [] l.code.routines) ≡ checked l.line (each_after (routine_faults l.code) (take l.at l.code.routines) (drop l.at l.code.routines)))
    × (l.signatures ≡ map signature_of (take l.at l.code.routines))
