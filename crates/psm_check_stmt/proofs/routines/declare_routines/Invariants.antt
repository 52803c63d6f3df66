use Rattle.std.proofs.Common.{◌≡◌, drop}
use Rattle.psm_rules.specs.FileFaults.{with_routines}
use Rattle.psm_check_stmt.proofs.routines.declare_routines.Given as goal

abbrev pub invariant-loop-routine : goal.invariant-loop-routine
invariant-loop-routine l = with_routines l.symbols (drop l.routine-index l.routines) ≡ with_routines l.fn.symbols l.routines
