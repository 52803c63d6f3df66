use Rattle.std.proofs.Common.{◌≡◌, drop}
use Rattle.psm_table.specs.Key.{key_order}
use Rattle.psm_table.specs.PairPosition.{probe_key}
use Rattle.psm_table.proofs.probe.Probe.order.Given as goal

abbrev pub invariant-loop-i : goal.invariant-loop-i
invariant-loop-i l = key_order (probe_key l.self) (probe_key l.other) ≡ key_order (drop l.i (probe_key l.self)) (drop l.i (probe_key l.other))
