use Rattle.std.proofs.Common.{◌≡◌, drop, map}
use Rattle.psm_rules.specs.Faults.{first_from}
use Rattle.psm_rules.specs.StatementFaults.{several, target_fault, targets_fault}
use Rattle.psm_check_stmt.proofs.sources.targets_fault.Given as goal

abbrev pub invariant-loop-target : goal.invariant-loop-target
invariant-loop-target l = first_from l.fault (map (target_fault l.scopes) (drop l.target-index l.targets.rest)) ≡ targets_fault l.scopes (several l.targets)
