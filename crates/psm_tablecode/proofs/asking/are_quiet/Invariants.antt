use Rattle.std.proofs.Common.{◌≡◌, drop}
use Rattle.psm_tablecode.specs.Tests.{are_quiet}
use Rattle.psm_tablecode.proofs.asking.are_quiet.Given as goal

abbrev pub invariant-loop-at : goal.invariant-loop-at
invariant-loop-at l = are_quiet l.lines ≡ are_quiet (drop l.at l.lines)
