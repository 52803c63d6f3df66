use Rattle.std.proofs.Common.{◌≡◌, drop}
use Rattle.psm_rules.specs.Faults.{first_from, first_of}
use Rattle.psm_rules.specs.StatementFaults.{fetched_into}
use Rattle.psm_check_stmt.proofs.cursors.all_fetched_into.Given as goal

abbrev pub invariant-loop-number : goal.invariant-loop-number
invariant-loop-number l = first_from l.fault (fetched_into l.scopes (drop l.number l.targets) (drop l.number l.shapes)) ≡ first_of (fetched_into l.scopes l.targets l.shapes)
