use Rattle.psm_tablecode.proofs.LookUps.{Passes}
use Rattle.psm_tablecode.proofs.asking.first_filled.Given as goal

abbrev pub invariant-loop-list : goal.invariant-loop-list
invariant-loop-list l = Passes l.vars l.lines l.lists l.list
