-- Lines of a routine that are written one after another.
use Rattle.std.specs.Prelude.{List}
use Rattle.psm_exprcode.specs.declared.op.Letter.{Letter}
use Rattle.psm_code.specs.declared.lines.CodeLine.{CodeLine}

-- the lines so far, and the letters of the operands after them, the last one first
pub record Writing : Type 0 where
  pub lines : List CodeLine
  pub stack : List Letter
