use Rattle.std.proofs.Common.{◌≡◌, ◌++◌, drop, map}
use Rattle.psm_rules.specs.StatementFaults.{several}
use Rattle.psm_check_script.specs.Commands.{row_of}
use Rattle.psm_check_script.proofs.inserts.rows_of.Given as goal

abbrev pub invariant-loop-row : goal.invariant-loop-row
invariant-loop-row l = l.made.items ++ map row_of (drop l.row-index l.rows.rest) ≡ map row_of (several l.rows)
