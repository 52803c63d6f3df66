use Rattle.std.proofs.Common.{◌≡◌, drop}
use Rattle.psm_table.specs.Key.{key_order, values_at}
use Rattle.psm_dml.proofs.comparing.order.Given as goal

abbrev pub invariant-loop-column : goal.invariant-loop-column
invariant-loop-column l = key_order (values_at l.key l.a) (values_at l.key l.b) ≡ key_order (values_at (drop l.column-index l.key) l.a) (values_at (drop l.column-index l.key) l.b)
