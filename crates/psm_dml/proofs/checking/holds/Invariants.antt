use Rattle.std.proofs.Common.{[]}
use Rattle.psm_tablecode.specs.Codes.{over}
use Rattle.psm_dml.proofs.Holding.{Holds}
use Rattle.psm_dml.proofs.checking.holds.Given as goal

abbrev pub invariant-loop-check : goal.invariant-loop-check
invariant-loop-check l = Holds (over []) l.checks l.row l.check-index l.kept
