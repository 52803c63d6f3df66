use Rattle.std.proofs.Common.{◌≡◌, [], drop}
use Rattle.psm_check_script.specs.Known.{with_routines}
use Rattle.psm_check_script.proofs.known.procedures_of.Given as goal

abbrev pub invariant-loop-routine : goal.invariant-loop-routine
invariant-loop-routine l = with_routines l.known l.number (drop l.routine-index l.routines) ≡ with_routines [] 0 l.routines
