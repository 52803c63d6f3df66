-- A stack that changes, and lines that are written with it.
use Rattle.std.specs.Prelude.{ℕ, List}
use Rattle.psm_exprcode.specs.declared.op.Letter.{Letter}
use Rattle.psm_exprcode.specs.declared.op.Line.{Line}
use Rattle.psm_exprcode.specs.Stacks.{stack_at}

-- stacks, and the number of the current one
pub record StackNow : Type 0 where
  pub stacks : List (List Letter)
  pub number : ℕ

-- the letters of the current stack, the last one first
abbrev pub letters_now : StackNow → List Letter
letters_now s = stack_at s.stacks s.number

-- the lines so far, and the letters of the operands after them, the last one first
pub record Writing : Type 0 where
  pub lines : List Line
  pub stack : List Letter
