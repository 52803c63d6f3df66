use Rattle.std.proofs.Common.{◌-◌, []}
use Rattle.psm_load.specs.Left.{Repeated}
use Rattle.psm_load.specs.Stated.{operation}
use Rattle.psm_load.proofs.expressions.operations.Given as goal

abbrev pub invariant-loop-turn : goal.invariant-loop-turn
invariant-loop-turn l = Repeated operation l.n l.initial.lines [] l.code (l.n - l._turn) l.lines
