use Rattle.std.proofs.Common.{drop}
use Rattle.psm_check_stmt.proofs.Noted.{Noted}
use Rattle.psm_check_stmt.proofs.routines.characteristics_fault.Given as goal

abbrev pub invariant-loop-characteristic : goal.invariant-loop-characteristic
invariant-loop-characteristic l = Noted l.seen l.fault (drop l.characteristic-index l.characteristics) l.characteristics
