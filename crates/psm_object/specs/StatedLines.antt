-- Lines of a routine, and their stacks apart.
use Rattle.std.specs.Prelude.{List, []}
use Rattle.psm_exprcode.specs.declared.op.Letter.{Letter}
use Rattle.psm_code.specs.declared.lines.CodeLine.{CodeLine}
use Rattle.psm_object.specs.declared.instructions.StatedLine.{StatedLine}

-- the line with that stack
abbrev pub with_stack : List Letter → StatedLine → CodeLine
with_stack stack l = record { context = l.context; resume = l.resume; stack = stack; instruction = l.instruction.now }

abbrev pub without_stack : CodeLine → CodeLine
without_stack l = record { context = l.context; resume = l.resume; stack = []; instruction = l.instruction }
