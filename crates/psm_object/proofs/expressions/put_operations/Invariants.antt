use Rattle.std.proofs.Common.{◌≡◌, ◌++◌, ◌-◌, drop, length, map}
use Rattle.psm_object.specs.Expressions.{operation_line}
use Rattle.psm_object.specs.Words.{text}
use Rattle.psm_object.proofs.expressions.put_operations.Given as goal

abbrev pub invariant-loop-op : goal.invariant-loop-op
invariant-loop-op l = l.out.items ++ text (map operation_line (drop l.at l.lines)) ≡ l.fn.out.items ++ text (map operation_line l.lines)

abbrev pub decreases-loop-op : goal.decreases-loop-op
decreases-loop-op l = length l.lines - l.at
