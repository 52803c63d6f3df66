use Rattle.std.proofs.Common.{◌≡◌, ◌++◌, drop, map}
use Rattle.psm_rules.specs.StatementFaults.{several, target_type}
use Rattle.psm_check_stmt.proofs.statements.target_types.Given as goal

abbrev pub invariant-loop-target : goal.invariant-loop-target
invariant-loop-target l = l.kinds.items ++ map (target_type l.scopes) (drop l.target-index l.targets.rest) ≡ map (target_type l.scopes) (several l.targets)
