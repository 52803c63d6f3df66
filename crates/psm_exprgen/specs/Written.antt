-- Lines that are written, one after another.
use Rattle.std.specs.Prelude.{ℕ, List, [], ◌∷◌, ◌++◌, drop, length, reverse, slice_get, slice_set, Option, Some, None}
use Rattle.psm_exprcode.specs.declared.op.Letter.{Letter}
use Rattle.psm_exprcode.specs.declared.op.Op.{Op}
use Rattle.psm_exprcode.specs.declared.query.Query.{Query}
use Rattle.psm_code.specs.declared.instruction.Instruction.{Instruction}
use Rattle.psm_code.specs.declared.instruction.Instruction.TheVariants as instruction
use Rattle.psm_code.specs.declared.lines.CodeLine.{CodeLine}
use Rattle.psm_resolved.specs.Written.{letter_or}

-- the lines so far, the letters of the operands after them, the last one first, the queries of the routine so far, and the labels: for each
-- the line to which it is bound. Where lines have numbers of lines and none of labels, there is no label
pub record Written : Type 0 where
  pub lines : List CodeLine
  pub stack : List Letter
  pub queries : List Query
  pub labels : List (Option ℕ)

-- the number of the line that follows
abbrev pub here : Written → ℕ
here w = length w.lines

-- an instruction, with the letters that stand after it
abbrev pub with_line : ℕ → Option ℕ → Instruction → List Letter → Written → Written
with_line context resume i after w = record w { lines = w.lines ++ record { context = context; resume = resume; stack = reverse w.stack; instruction = i } ∷ []; stack = after }

-- one that raises no condition, and leaves the operands as they are
abbrev pub plain : ℕ → Instruction → Written → Written
plain context i w = with_line context None i w.stack w

-- one that takes n operands and puts some, the last one first; after a condition the run goes on at the line resume
abbrev pub puts : ℕ → ℕ → Instruction → ℕ → List Letter → Written → Written
puts context resume i takes letters w = with_line context (Some resume) i (letters ++ drop takes w.stack) w

-- one that takes n operands
abbrev pub takes : ℕ → ℕ → Instruction → ℕ → Written → Written
takes context resume i count w = puts context resume i count [] w

-- an operation that takes n operands and puts one
abbrev pub applied : ℕ → ℕ → Op → ℕ → Letter → Written → Written
applied context resume o count k w = puts context resume (instruction.Operation o) count (k ∷ []) w

-- operations, the first of which takes n operands; each puts one, which the next one takes
abbrev pub all_applied : ℕ → ℕ → ℕ → Letter → List Op → Written → Written
all_applied context resume count k [] w = w
all_applied context resume count k (o ∷ os) w = all_applied context resume 1 k os (applied context resume o count k w)

-- an operation that takes an operand
abbrev pub taken : ℕ → ℕ → Op → Written → Written
taken context resume o w = takes context resume (instruction.Operation o) 1 w

-- a query more
abbrev pub with_query : Query → Written → Written
with_query q w = record w { queries = w.queries ++ q ∷ [] }

-- ---- labels

-- a label more, which is bound to a line or to none
abbrev pub with_label : Option ℕ → Written → Written
with_label line w = record w { labels = w.labels ++ line ∷ [] }

-- a label is bound to the line that follows
abbrev pub bound : ℕ → Written → Written
bound label w = record w { labels = slice_set w.labels label (Some (here w)) }

-- ---- letters

-- the letter of the last operand, and of the one below it
abbrev pub last_letter : Written → Letter
last_letter w = letter_or (slice_get w.stack 0)

abbrev pub second_letter : Written → Letter
second_letter w = letter_or (slice_get w.stack 1)

-- those at an index, of which there are none where nothing is there
abbrev pub letters_or : Option (List Letter) → List Letter
letters_or None = []
letters_or (Some ls) = ls

abbrev pub letter_at : List Letter → ℕ → Letter
letter_at letters n = letter_or (slice_get letters n)

abbrev pub letters_at : List (List Letter) → ℕ → List Letter
letters_at lists n = letters_or (slice_get lists n)

abbrev pub number_at : Option ℕ → ℕ
number_at None = 0
number_at (Some n) = n
