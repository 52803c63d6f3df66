-- Lines with jumps whose target isn't known yet: a block after them closes them.
use Rattle.std.specs.Prelude.{◌≡◌, ℕ, Bool, List, [], ◌∷◌, ◌++◌, length, Some, None, Ok, Err, if◌then◌else◌}
use Rattle.psm_value.specs.Truth.{is_certain}
use Rattle.psm_exprcode.specs.declared.op.Letter.{Letter}
use Rattle.psm_exprcode.specs.declared.op.Line.{Line}
use Rattle.psm_exprcode.specs.declared.op.Op.{Op}
use Rattle.psm_exprcode.specs.declared.operand.Operand.{Operand}
use Rattle.psm_exprcode.specs.declared.operand.Operand.TheVariants.{Value, Truth}
use Rattle.psm_resolved.specs.Blocks.{Moved, Move, Block}
use Rattle.psm_resolved.specs.Written.{Written, patched}

-- one thing becomes of operands, and then another
abbrev pub then_move : Moved → (List Operand → Moved) → Moved
then_move None go = None
then_move (Some (Err state)) go = Some (Err state)
then_move (Some (Ok os)) go = go os

-- one thing becomes of operands where a test is true, and else another
abbrev pub branch_move : (List Operand → Moved) → (List Operand → Moved) → List Operand → Moved
branch_move v h [] = None
branch_move v h (Value a ∷ os) = None
branch_move v h (Truth t ∷ os) = if is_certain t then v os else h os

-- lines from an index up to the next, in which jumps go to the end e of a block that closes them
pub record Open (may : Op → Letter → Bool) (s t : List Letter) (pc next : ℕ) (lines : ℕ → List Line) (move : Move → Move) : Type 0 where
  pub closes : (e : ℕ) (rest : List Line) (h : Move) → Block may s t next e rest h → Block may s t pc e (lines e ++ rest) (move h)

-- Lines are written that leave the operands as they are, with jumps at those indexes. Once their target e is filled in they are
-- an open block.
pub record Pends (may : Op → Letter → Bool) (t : List Letter) (jump : ℕ → Op) (move : Move → Move) (indexes : List ℕ) (old new : Written) : Type 0 where
  pub lines : List Line
  pub filled : ℕ → List Line
  pub added : new.lines ≡ old.lines ++ lines
  pub letters : new.stack ≡ old.stack
  pub as_many : (e : ℕ) → length (filled e) ≡ length lines
  pub fills : (e : ℕ) (before more : List Line) → length before ≡ length old.lines → patched (jump e) indexes (before ++ (lines ++ more)) ≡ before ++ (filled e ++ more)
  pub opens : Open may old.stack t (length old.lines) (length new.lines) filled move
