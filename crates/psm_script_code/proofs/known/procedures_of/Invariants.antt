use Rattle.std.proofs.Common.{◌≡◌, ◌++◌, drop}
use Rattle.psm_script_code.specs.Lowered.{procedure_numbers}
use Rattle.psm_script_code.proofs.known.procedures_of.Given as goal

abbrev pub invariant-loop-routine : goal.invariant-loop-routine
invariant-loop-routine l = l.numbers.items ++ procedure_numbers l.number (drop l.routine-index l.routines) ≡ procedure_numbers 0 l.routines
