use Rattle.std.proofs.Common.{◌≡◌}
use Rattle.std.specs.Prelude.{replicate}
use Rattle.psm_exprcode.specs.WellFormed.{left_of}
use Rattle.psm_verify_line.proofs.operands.left_by_many.Given as goal

abbrev pub invariant-loop-more : goal.invariant-loop-more
invariant-loop-more l = left_of (replicate l.more l.letter) l.rest ≡ left_of (replicate l.count l.letter) l.stack

abbrev pub decreases-loop-more : goal.decreases-loop-more
decreases-loop-more l = l.more
