use Rattle.std.proofs.Common.{◌≡◌, ◌++◌, drop, map}
use Rattle.psm_rules.specs.StatementFaults.{several}
use Rattle.psm_resolve.specs.Blocks.{value_of}
use Rattle.psm_resolve.proofs.handlers.values_of.Given as goal

abbrev pub invariant-loop-value : goal.invariant-loop-value
invariant-loop-value l = l.resolved.items ++ map (value_of l.scopes) (drop l.value-index l.values.rest) ≡ map (value_of l.scopes) (several l.values)
