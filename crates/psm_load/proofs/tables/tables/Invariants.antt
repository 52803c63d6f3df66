use Rattle.std.proofs.Common.{◌-◌}
use Rattle.psm_load.specs.Left.{TablesRead}
use Rattle.psm_load.proofs.tables.tables.Given as goal

abbrev pub invariant-loop-number : goal.invariant-loop-number
invariant-loop-number l = TablesRead l.n l.initial.lines l.tables.items l.keys.items (l.n - l.number) l.lines
