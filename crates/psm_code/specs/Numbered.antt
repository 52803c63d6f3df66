-- Lines that have their stacks by number.
use Rattle.std.specs.Prelude.{ℕ, ◌<◌, zero, suc, List, [], ◌∷◌, length, map, reverse, Option}
use Rattle.std.specs.List.{All}
use Rattle.psm_exprcode.specs.declared.op.Letter.{Letter}
use Rattle.psm_exprcode.specs.Stacks.{stack_at}
use Rattle.psm_code.specs.declared.instruction.Instruction.{Instruction}
use Rattle.psm_code.specs.declared.lines.CodeLine.{CodeLine}
use Rattle.psm_code.specs.declared.lines.NumberedLine.{NumberedLine}

-- the line, with the letters of its stack
abbrev pub line_of : List (List Letter) → NumberedLine → CodeLine
line_of stacks l = record { context = l.context; resume = l.resume; stack = reverse (stack_at stacks l.stack); instruction = l.instruction }

abbrev pub lines_of : List (List Letter) → List NumberedLine → List CodeLine
lines_of stacks lines = map (line_of stacks) lines

-- the stack of each line is there
abbrev pub AreStatedIn : List (List Letter) → List NumberedLine → Type 0
AreStatedIn stacks lines = All (λ l. l.stack < length stacks) lines

-- another instruction at a line; where there is none the lines stay
abbrev pub with_instruction_at : List CodeLine → ℕ → Instruction → List CodeLine
with_instruction_at [] at i = []
with_instruction_at (l ∷ lines) zero i = record l { instruction = i } ∷ lines
with_instruction_at (l ∷ lines) (suc at) i = l ∷ with_instruction_at lines at i

-- another line to go on at
abbrev pub with_resume_at : List CodeLine → ℕ → Option ℕ → List CodeLine
with_resume_at [] at r = []
with_resume_at (l ∷ lines) zero r = record l { resume = r } ∷ lines
with_resume_at (l ∷ lines) (suc at) r = l ∷ with_resume_at lines at r
