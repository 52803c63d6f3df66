use Rattle.std.proofs.Common.{◌-◌, length}
use Rattle.std.specs.Prelude.{reverse}
use Rattle.psm_exprcode.proofs.Running.{Going}
use Rattle.psm_exprcode.proofs.evaluating.run.Given as goal

abbrev pub invariant-loop-op : goal.invariant-loop-op
invariant-loop-op l = Going l.row l.vars l.lines l.index l.index (reverse l.operands.items)

abbrev pub decreases-loop-op : goal.decreases-loop-op
decreases-loop-op l = length l.lines - l.index
