use Rattle.std.proofs.Common.{◌-◌}
use Rattle.psm_table.specs.Key.{key_order}
use Rattle.psm_table.specs.PairPosition.{probe_key}
use Rattle.psm_table.proofs.PairPositions.{Between}
use Rattle.psm_table.proofs.run.Run.find.Given as goal

abbrev pub invariant-loop-low : goal.invariant-loop-low
invariant-loop-low g l = Between (λ p. key_order p.key (probe_key l.probe)) l.self l.low l.high

abbrev pub decreases-loop-low : goal.decreases-loop-low
decreases-loop-low g l = l.high - l.low
