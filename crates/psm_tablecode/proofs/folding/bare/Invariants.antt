use Rattle.std.proofs.Common.{◌≡◌, ◌++◌, map}
use Rattle.std.specs.Vec.Iter.{into_iter_items}
use Rattle.psm_tablecode.specs.Folding.{bare}
use Rattle.psm_tablecode.proofs.folding.bare.Given as goal

abbrev pub invariant-loop-op : goal.invariant-loop-op
invariant-loop-op l = l.lines ++ map bare (into_iter_items l.op-iterator) ≡ map bare l.fn.ops.items
