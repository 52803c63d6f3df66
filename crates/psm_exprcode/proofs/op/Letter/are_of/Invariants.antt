use Rattle.std.proofs.Common.{◌≡◌, length}
use Rattle.psm_exprcode.specs.Kinds.{are_of}
use Rattle.psm_exprcode.proofs.op.Letter.are_of.Given as goal

abbrev pub invariant-loop-kind : goal.invariant-loop-kind
invariant-loop-kind l = are_of l.left l.right ≡ are_of l.kinds l.values

abbrev pub decreases-loop-kind : goal.decreases-loop-kind
decreases-loop-kind l = length l.left
