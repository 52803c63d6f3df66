use Rattle.std.proofs.Common.{◌≡◌}
use Rattle.psm_exprcode.specs.WellFormed.{left_of}
use Rattle.psm_verify.specs.Moves.{given_rows}
use Rattle.psm_verify.proofs.changing.left_rows.Given as goal

abbrev pub invariant-loop-more : goal.invariant-loop-more
invariant-loop-more l = left_of (given_rows l.more l.row) l.rest ≡ left_of (given_rows l.rows l.row) l.stack

abbrev pub decreases-loop-more : goal.decreases-loop-more
decreases-loop-more l = l.more
