use Rattle.std.proofs.Common.{[], length, take}
use Rattle.psm_tablecode.specs.Codes.{over}
use Rattle.psm_dml.specs.Judged.{IsWithin}
use Rattle.psm_dml.proofs.Judging.{Stands}
use Rattle.psm_dml.proofs.checking.judge.Given as goal

abbrev pub invariant-loop-at : goal.invariant-loop-at
invariant-loop-at l = record {
  stands : Stands (over []) l.checks l.key l.rows (take l.at l.rows) l.verdict;
  within : IsWithin (length l.rows) l.verdict;
}
