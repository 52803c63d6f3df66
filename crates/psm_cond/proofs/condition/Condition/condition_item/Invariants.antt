use Rattle.std.proofs.Common.{◌+◌}
use Rattle.psm_cond.proofs.Numbers.{None_before}
use Rattle.psm_cond.proofs.condition.Condition.condition_item.Given as goal

abbrev pub invariant-loop-at : goal.invariant-loop-at
invariant-loop-at l = None_before l.number (l.at + 1)
