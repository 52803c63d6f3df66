-- Lines of a routine that are well-formed, and the line at which a run goes on after others.
use Rattle.std.specs.Prelude.{◌≡◌, ◌≤◌, ◌<◌, ℕ, true, List, [], reverse, Some, None}
use Rattle.psm_exprcode.specs.declared.op.Letter.{Letter}
use Rattle.psm_code.specs.declared.code.RawCode.{RawCode}
use Rattle.psm_code.specs.declared.code.RawRoutine.{RawRoutine}
use Rattle.psm_code.specs.declared.lines.CodeLine.{CodeLine}
use Rattle.psm_code.specs.Parts.{line_at}
use Rattle.psm_code.specs.RoutineRules.{context_there, line_fault}
use Rattle.psm_exprgen.specs.Written.{Written, here}
use Rattle.psm_exprgen.specs.Writing.{Begins, Grows}

-- the lines from a line on, up to another one, are well-formed
pub record Free (code : RawCode) (r : RawRoutine) (from to : ℕ) : Type 0 where
  pub right : (n : ℕ) (l : CodeLine) → from ≤ n → n < to → line_at r n ≡ Some l → line_fault code r n l ≡ None

-- there is a line, in that context, and it states these operands, the last one first
pub record Follows (r : RawRoutine) (n context : ℕ) (stack : List Letter) : Type 0 where
  pub line : CodeLine
  pub there : line_at r n ≡ Some line
  pub inside : line.context ≡ context
  pub states : reverse line.stack ≡ stack

-- a line at which a run may go on after a condition that was handled in that context
abbrev pub Ends : RawRoutine → ℕ → ℕ → Type 0
Ends r resume context = Follows r resume context []

-- What is written from w to v leaves these operands. In a routine that begins with it its first line states the operands of w where a
-- line follows, and then its lines are well-formed where the first line of the routine is the routine's own, the context is there, and a run
-- may go on at the line resume.
pub record WellFormedLines (code : RawCode) (r : RawRoutine) (context resume : ℕ) (w v : Written) (s : List Letter) : Type 0 where
  pub grows : Grows w v
  pub stack : v.stack ≡ s
  pub starts : Begins v r → Follows r (here v) context v.stack → Follows r (here w) context w.stack
  pub free : Follows r 0 0 [] → context_there r context ≡ true → Ends r resume context → Begins v r → here v ≤ resume → Follows r (here v) context v.stack → Free code r (here w) (here v)
