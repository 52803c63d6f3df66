-- Lines that stand one after another, as a block: from operands of some letters it evaluates to operands of others, whatever
-- lines follow.
use Rattle.std.specs.Prelude.{◌≡◌, ℕ, ◌+◌, Bool, true, List, [], ◌∷◌, ◌++◌, length, Option, Some, None, Result, Ok, Err}
use Rattle.psm_value.specs.declared.datum.Datum.{Datum}
use Rattle.psm_exprcode.specs.declared.op.Letter.{Letter}
use Rattle.psm_exprcode.specs.declared.op.Line.{Line}
use Rattle.psm_exprcode.specs.declared.op.Op.{Op}
use Rattle.psm_exprcode.specs.declared.operand.Operand.{Operand}
use Rattle.psm_exprcode.specs.Evaluated.{Outcome, ran}
use Rattle.psm_exprcode.specs.WellFormed.{lands, are_lines}

-- the operands that there are then, the SQLSTATE of a condition, or nothing where it is stuck
abbrev pub Moved : Type 0
Moved = Option (Result (List Operand) (List ℕ))

-- what becomes of operands over a row and variables
abbrev pub Move : Type 0
Move = List Datum → List Datum → List Operand → Moved

-- an outcome that is put on operands
abbrev pub put : Outcome → List Operand → Moved
put None os = None
put (Some (Err state)) os = Some (Err state)
put (Some (Ok x)) os = Some (Ok (x ∷ os))

-- outcomes that are put on operands one after another
abbrev pub put_all : List Outcome → List Operand → Moved
put_all [] os = Some (Ok os)
put_all (None ∷ others) os = None
put_all (Some (Err state) ∷ others) os = Some (Err state)
put_all (Some (Ok x) ∷ others) os = put_all others (x ∷ os)

-- what comes of the operands that there are then
abbrev pub after : Moved → (List Operand → Outcome) → Outcome
after None go = None
after (Some (Err state)) go = Some (Err state)
after (Some (Ok os)) go = go os

-- The lines of a block at an index, up to the next index. A test says which letter a variable or a column may have.
pub record Block (may : Op → Letter → Bool) (s t : List Letter) (pc next : ℕ) (lines : List Line) (move : Move) : Type 0 where
  pub size : next ≡ pc + length lines
  pub begins : (end : Letter) (more : List Line) → lands end more 0 t ≡ true → lands end (lines ++ more) 0 s ≡ true
  pub right : (end : Letter) (more : List Line) → lands end more 0 t ≡ true → are_lines may end next more ≡ true → are_lines may end pc (lines ++ more) ≡ true
  pub runs : (row vars : List Datum) (more : List Line) (os : List Operand) → ran row vars pc pc (lines ++ more) os ≡ after (move row vars os) (ran row vars next next more)
