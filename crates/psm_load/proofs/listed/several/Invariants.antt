use Rattle.std.proofs.Common.{◌-◌, []}
use Rattle.psm_load.specs.Left.{Repeated}
use Rattle.psm_load.proofs.listed.several.Given as goal

abbrev pub invariant-loop-turn : goal.invariant-loop-turn
invariant-loop-turn g l = Repeated g.T.Listed.part l.n l.initial.lines [] l.items.items (l.n - l._turn) l.lines
