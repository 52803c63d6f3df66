use Rattle.std.proofs.Common.{◌≡◌, take}
use Rattle.psm_table.specs.PairPosition.{probe_key}
use Rattle.psm_table.proofs.probe.Probe.copied.Given as goal

abbrev pub invariant-loop-i : goal.invariant-loop-i
invariant-loop-i l = l.copy.items ≡ take l.i (probe_key l.self)
