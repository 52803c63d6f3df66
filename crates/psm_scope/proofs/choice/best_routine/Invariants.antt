use Rattle.std.proofs.Common.{drop}
use Rattle.psm_scope.proofs.Grouped.{Walk}
use Rattle.psm_scope.proofs.choice.best_routine.Given as goal

abbrev pub invariant-loop-block : goal.invariant-loop-block
invariant-loop-block l = Walk l.routines l.name l.kinds (drop l.block-index l.block-items) l.best
