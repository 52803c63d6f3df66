use Rattle.std.proofs.Common.{◌≡◌, ◌++◌, drop}
use Rattle.psm_object.specs.Words.{further, numbers}
use Rattle.psm_object.proofs.words.put_indices.Given as goal

abbrev pub invariant-loop-n : goal.invariant-loop-n
invariant-loop-n l = l.out.items ++ further (numbers (drop l.n-index l.ns)) ≡ l.fn.out.items ++ further (numbers l.ns)
