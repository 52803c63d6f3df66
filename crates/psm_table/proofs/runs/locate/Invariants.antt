use Rattle.std.proofs.Common.{◌-◌}
use Rattle.std.specs.Ordering.{is_gt}
use Rattle.psm_table.specs.Key.{key_order}
use Rattle.psm_table.specs.PairPosition.{probe_key}
use Rattle.psm_table.specs.Runs.{IsCut}
use Rattle.psm_table.proofs.runs.locate.Given as goal

abbrev pub invariant-loop-low : goal.invariant-loop-low
invariant-loop-low g l = IsCut (λ p. is_gt (key_order p.key (probe_key l.probe))) l.runs l.low l.high

abbrev pub decreases-loop-low : goal.decreases-loop-low
decreases-loop-low g l = l.high - l.low
