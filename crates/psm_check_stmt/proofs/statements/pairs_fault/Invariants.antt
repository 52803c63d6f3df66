use Rattle.std.proofs.Common.{◌≡◌, drop}
use Rattle.psm_rules.specs.Faults.{first_from, first_of}
use Rattle.psm_rules.specs.StatementFaults.{pairs_fault}
use Rattle.psm_check_stmt.proofs.statements.pairs_fault.Given as goal

abbrev pub invariant-loop-number : goal.invariant-loop-number
invariant-loop-number l = first_from l.fault (pairs_fault (drop l.number l.items) (drop l.number l.kinds)) ≡ first_of (pairs_fault l.items l.kinds)
