-- Lines that are lent with their stacks.
use Rattle.std.specs.Prelude.{List}
use Rattle.psm_exprcode.specs.declared.lent.NumberedLines.{NumberedLines}
use Rattle.psm_exprcode.specs.declared.op.Line.{Line}
use Rattle.psm_exprcode.specs.Numbered.{lines_of}

abbrev pub lines_in : NumberedLines → List Line
lines_in l = lines_of l.stacks.now l.lines.now
