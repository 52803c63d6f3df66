use Rattle.std.specs.Prelude.{reverse}
use Rattle.psm_tablecode.specs.Folding.{IsDone}
use Rattle.psm_tablecode.proofs.folding.folded.Given as goal

abbrev pub invariant-loop-at : goal.invariant-loop-at
invariant-loop-at l = IsDone l.vars l.lines l.at (reverse l.done.items)
