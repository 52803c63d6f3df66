use Rattle.std.proofs.Common.{◌≡◌, ◌++◌, drop}
use Rattle.std.specs.List.{flat_map}
use Rattle.psm_object.specs.Routines.{routine_lines}
use Rattle.psm_object.specs.Words.{text}
use Rattle.psm_object.proofs.routines.put_routines.Given as goal

abbrev pub invariant-loop-routine : goal.invariant-loop-routine
invariant-loop-routine l = l.out.items ++ text (flat_map routine_lines (drop l.routine-index l.routines)) ≡ l.fn.out.items ++ text (flat_map routine_lines l.routines)
