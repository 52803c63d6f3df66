use Rattle.std.proofs.Common.{◌≡◌, option_map, reverse, take}
use Rattle.psm_unwind.specs.Actions.{activating_of}
use Rattle.psm_unwind.proofs.actions.activating.Given as goal

abbrev pub invariant-loop-frame : goal.invariant-loop-frame
invariant-loop-frame l = option_map (λ p. record { entries = p.0.now; rows = p.1 }) l.innermost ≡ activating_of (reverse (take l.frame-index l.frames))
