use Rattle.psm_tablecode.proofs.LookUps.{Fills}
use Rattle.psm_tablecode.proofs.asking.many_filled.Given as goal

abbrev pub invariant-loop-column : goal.invariant-loop-column
invariant-loop-column l = Fills l.vars l.lines l.columns l.column-index l.values.items
