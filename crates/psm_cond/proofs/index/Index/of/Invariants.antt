use Rattle.std.proofs.Common.{take}
use Rattle.psm_cond.specs.Index.{IsIndex}
use Rattle.psm_cond.proofs.index.Index.of.Given as goal

abbrev pub invariant-loop-number : goal.invariant-loop-number
invariant-loop-number l = IsIndex l.index (take l.number l.handlers)
