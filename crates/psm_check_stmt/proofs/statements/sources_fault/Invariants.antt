use Rattle.std.proofs.Common.{◌≡◌, drop}
use Rattle.psm_rules.specs.Faults.{first_from, first_of}
use Rattle.psm_rules.specs.StatementFaults.{sources_fault}
use Rattle.psm_check_stmt.proofs.statements.sources_fault.Given as goal

abbrev pub invariant-loop-number : goal.invariant-loop-number
invariant-loop-number l = first_from l.fault (sources_fault (drop l.number l.kinds) (drop l.number l.values)) ≡ first_of (sources_fault l.kinds l.values)
