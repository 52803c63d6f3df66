use Rattle.std.proofs.Common.{Some, ◌++◌, map, ap, ◌∙◌}
use Rattle.psm_object.specs.Instructions.{code_line}
use Rattle.psm_object.specs.StatedLines.{without_stack}
use Rattle.psm_object.specs.Words.{text}
use Rattle.psm_object.proofs.LinesInOrder.{no_more, code_line_next}
use Rattle.psm_object.proofs.instructions.put_code_lines.Goals as goal

pub loop-line-preserved : goal.loop-line-preserved
loop-line-preserved c =
    code_line_next c.args.lines.now c.loop-line.at c.in-Some.line c.as_slice.result.now c.loop-line.out.items c.put_code_line.new.out.items
    (c.args.out.now.items ++ text (map code_line c.args.lines.now)) c.in-Some.ensures.line (ap Some c.as_slice.ensures.value ∙ c.in_ok-stack.ensures) c.in_ok-put_code_line.ensures c.loop-line.invariant

pub returns : goal.returns
returns c = no_more code_line without_stack c.args.lines.now c.loop-line.at c.loop-line.out.items (c.args.out.now.items ++ text (map code_line c.args.lines.now)) c.in_default.ensures.line c.loop-line.invariant
