use Rattle.std.proofs.Common.{◌≡◌, ◌++◌, drop, take}
use Rattle.psm_load_line.specs.Readers.{bare}
use Rattle.psm_load_line.proofs.front.bare_size.Given as goal

abbrev pub invariant-loop-at : goal.invariant-loop-at
invariant-loop-at l = bare l.text ≡ (take l.at l.text ++ (bare (drop l.at l.text)).0, (bare (drop l.at l.text)).1)
