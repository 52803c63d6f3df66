use Rattle.std.proofs.Common.{◌≡◌, ◌++◌, drop, map}
use Rattle.psm_object.specs.Handlers.{value_word}
use Rattle.psm_object.specs.Words.{further}
use Rattle.psm_object.proofs.handlers.put_condition_values.Given as goal

abbrev pub invariant-loop-value : goal.invariant-loop-value
invariant-loop-value l = l.out.items ++ further (map value_word (drop l.value-index l.values)) ≡ l.fn.out.items ++ further (map value_word l.values)
