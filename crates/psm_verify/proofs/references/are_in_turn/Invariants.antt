use Rattle.std.proofs.Common.{◌≡◌, length}
use Rattle.psm_code.specs.TableRules.{are_in_turn}
use Rattle.psm_verify.proofs.references.are_in_turn.Given as goal

abbrev pub invariant-loop-key : goal.invariant-loop-key
invariant-loop-key l = are_in_turn 0 l.count l.keys ≡ are_in_turn l.at l.count l.rest

abbrev pub decreases-loop-key : goal.decreases-loop-key
decreases-loop-key l = length l.rest
