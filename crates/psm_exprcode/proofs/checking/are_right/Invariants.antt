use Rattle.std.proofs.Common.{◌≡◌, drop}
use Rattle.psm_exprcode.specs.Lent.{lines_in}
use Rattle.psm_exprcode.specs.Ways.{allowed}
use Rattle.psm_exprcode.specs.WellFormed.{are_lines}
use Rattle.psm_exprcode.proofs.checking.are_right.Given as goal

abbrev pub invariant-loop-at : goal.invariant-loop-at
invariant-loop-at l = are_lines (allowed l.kinds) l.end l.at (drop l.at (lines_in l.lines)) ≡ are_lines (allowed l.kinds) l.end 0 (lines_in l.lines)
