use Rattle.std.proofs.Common.{◌≡◌, length}
use Rattle.std.specs.Prelude.{nat_eq}
use Rattle.psm_keys.specs.Fresh.{are_new}
use Rattle.psm_code.specs.Rules.{are_distinct}
use Rattle.psm_keys.proofs.numbers.are_distinct.Given as goal

abbrev pub invariant-loop-number : goal.invariant-loop-number
invariant-loop-number l = are_distinct l.numbers ≡ are_new nat_eq l.before l.rest

abbrev pub decreases-loop-number : goal.decreases-loop-number
decreases-loop-number l = length l.rest
