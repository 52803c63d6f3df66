use Rattle.std.proofs.Common.{◌≡◌, None, drop, map}
use Rattle.psm_rules.specs.Faults.{first_from, first_of}
use Rattle.psm_rules.specs.StatementFaults.{source_fault}
use Rattle.psm_check_stmt.proofs.statements.untyped_fault.Given as goal

abbrev pub invariant-loop-value : goal.invariant-loop-value
invariant-loop-value l = first_from l.fault (map (source_fault None) (drop l.value-index l.values)) ≡ first_of (map (source_fault None) l.values)
