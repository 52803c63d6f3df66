use Rattle.std.proofs.Common.{◌≡◌, ◌++◌, ◌-◌, length, drop}
use Rattle.psm_code.specs.Parts.{given_back}
use Rattle.psm_machine.proofs.ends.given_back.Given as goal

abbrev pub invariant-loop-at : goal.invariant-loop-at
invariant-loop-at l = given_back l.parameters l.variables ≡ l.values.items ++ given_back (drop l.at l.parameters) (drop l.at l.variables)

abbrev pub decreases-loop-at : goal.decreases-loop-at
decreases-loop-at l = length l.parameters - l.at
