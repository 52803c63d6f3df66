use Rattle.std.proofs.Common.{◌≡◌, ◌++◌, drop, map}
use Rattle.psm_object.specs.Handlers.{condition_line}
use Rattle.psm_object.specs.Words.{text}
use Rattle.psm_object.proofs.handlers.put_conditions.Given as goal

abbrev pub invariant-loop-condition : goal.invariant-loop-condition
invariant-loop-condition l = l.out.items ++ text (map condition_line (drop l.condition-index l.conditions)) ≡ l.fn.out.items ++ text (map condition_line l.conditions)
