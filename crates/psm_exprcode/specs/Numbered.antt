-- Lines that have their stacks by number.
use Rattle.std.specs.Prelude.{ℕ, ◌<◌, zero, suc, List, [], ◌∷◌, length, map, reverse}
use Rattle.std.specs.List.{All}
use Rattle.psm_exprcode.specs.declared.op.Letter.{Letter}
use Rattle.psm_exprcode.specs.declared.op.Line.{Line}
use Rattle.psm_exprcode.specs.declared.op.Op.{Op}
use Rattle.psm_exprcode.specs.declared.raw.NumberedLine.{NumberedLine}
use Rattle.psm_exprcode.specs.Stacks.{stack_at}

-- the line, with the letters of its stack
abbrev pub line_of : List (List Letter) → NumberedLine → Line
line_of stacks l = record { stack = reverse (stack_at stacks l.stack); op = l.op }

abbrev pub lines_of : List (List Letter) → List NumberedLine → List Line
lines_of stacks lines = map (line_of stacks) lines

-- the stack of each line is there
abbrev pub AreStatedIn : List (List Letter) → List NumberedLine → Type 0
AreStatedIn stacks lines = All (λ l. l.stack < length stacks) lines

-- another operation at a line; where there is none the lines stay
abbrev pub with_op_at : List Line → ℕ → Op → List Line
with_op_at [] at o = []
with_op_at (l ∷ lines) zero o = record { stack = l.stack; op = o } ∷ lines
with_op_at (l ∷ lines) (suc at) o = l ∷ with_op_at lines at o
