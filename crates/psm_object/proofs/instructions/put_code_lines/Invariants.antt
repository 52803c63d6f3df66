use Rattle.std.proofs.Common.{◌≡◌, ◌++◌, ◌-◌, drop, length, map}
use Rattle.psm_object.specs.Instructions.{code_line}
use Rattle.psm_object.specs.Words.{text}
use Rattle.psm_object.proofs.instructions.put_code_lines.Given as goal

abbrev pub invariant-loop-line : goal.invariant-loop-line
invariant-loop-line l = l.out.items ++ text (map code_line (drop l.at l.lines)) ≡ l.fn.out.items ++ text (map code_line l.lines)

abbrev pub decreases-loop-line : goal.decreases-loop-line
decreases-loop-line l = length l.lines - l.at
