use Rattle.std.proofs.Common.{◌-◌, [], ◌∷◌}
use Rattle.psm_load.specs.Left.{Repeated}
use Rattle.psm_load.specs.Read.{row_item}
use Rattle.psm_load.proofs.items.more_rows.Given as goal

abbrev pub invariant-loop-turn : goal.invariant-loop-turn
invariant-loop-turn l = Repeated row_item l.n l.initial.lines (l.fn.first ∷ []) l.values.items (l.n - l._turn) l.lines
