use Rattle.std.proofs.Common.{◌∷◌, take}
use Rattle.psm_cond.specs.Index.{Notes, has_value}
use Rattle.psm_cond.proofs.index.Index.add_values.Given as goal

abbrev pub invariant-loop-value : goal.invariant-loop-value
invariant-loop-value l = Notes (has_value l.context (l.fn.first ∷ take l.value-index l.rest)) l.number l.fn.self l.self
