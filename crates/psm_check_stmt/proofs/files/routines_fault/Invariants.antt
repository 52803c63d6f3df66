use Rattle.std.proofs.Common.{◌≡◌, [], drop}
use Rattle.psm_rules.specs.Faults.{first_from, first_of}
use Rattle.psm_rules.specs.FileFaults.{routines_fault}
use Rattle.psm_check_stmt.proofs.files.routines_fault.Given as goal

abbrev pub invariant-loop-routine : goal.invariant-loop-routine
invariant-loop-routine l = first_from l.fault (routines_fault l.symbols l.seen_routines (drop l.routine-index l.routines)) ≡ first_of (routines_fault l.symbols [] l.routines)
