use Rattle.std.proofs.Common.{◌≡◌, ◌++◌, drop}
use Rattle.psm_rules.specs.StatementFaults.{several}
use Rattle.psm_resolve.specs.Statements.{slots_of}
use Rattle.psm_resolve.proofs.known.slots_of.Given as goal

abbrev pub invariant-loop-target : goal.invariant-loop-target
invariant-loop-target l = l.slots.items ++ slots_of l.scopes (drop l.target-index l.targets.rest) ≡ slots_of l.scopes (several l.targets)
