use Rattle.std.proofs.Common.{◌-◌}
use Rattle.psm_table.specs.Cuts.{is_past}
use Rattle.psm_table.specs.PairPosition.{probe_key}
use Rattle.psm_table.specs.Runs.{IsCut}
use Rattle.psm_table.proofs.runs.locate_past.Given as goal

abbrev pub invariant-loop-low : goal.invariant-loop-low
invariant-loop-low g l = IsCut (λ p. is_past (probe_key l.probe) l.is_after p.key) l.runs l.low l.high

abbrev pub decreases-loop-low : goal.decreases-loop-low
decreases-loop-low g l = l.high - l.low
