use Rattle.std.proofs.Common.{◌≡◌, length}
use Rattle.psm_code.specs.Calling.{on_top}
use Rattle.psm_machine.proofs.ends.put_on_top.Given as goal

abbrev pub invariant-loop-value : goal.invariant-loop-value
invariant-loop-value l = record {
  own : on_top l.initial.values.items l.initial.operands.own ≡ on_top l.values.items l.operands.own;
  callers : l.operands.callers ≡ l.initial.operands.callers;
}

abbrev pub decreases-loop-value : goal.decreases-loop-value
decreases-loop-value l = length l.values.items
