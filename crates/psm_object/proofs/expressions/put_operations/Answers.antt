use Rattle.std.proofs.Common.{Some, ◌++◌, map, ap, ◌∙◌}
use Rattle.psm_exprcode.specs.declared.op.Line.{Line}
use Rattle.psm_object.specs.Expressions.{operation_line}
use Rattle.psm_object.specs.Words.{text}
use Rattle.psm_object.proofs.LinesInOrder.{no_more, operation_next}
use Rattle.psm_object.proofs.expressions.put_operations.Goals as goal

pub loop-op-preserved : goal.loop-op-preserved
loop-op-preserved c =
    operation_next c.args.lines.now c.loop-op.at c.in-Some.op.now c.as_slice.result.now c.loop-op.out.items c.put_operation_line.new.out.items
    (c.args.out.now.items ++ text (map operation_line c.args.lines.now)) c.in-Some.ensures.op (ap Some c.as_slice.ensures.value ∙ c.in_ok-stack.ensures) c.in_ok-put_operation_line.ensures c.loop-op.invariant

pub returns : goal.returns
returns c = no_more operation_line (λ (l : Line). l.op) c.args.lines.now c.loop-op.at c.loop-op.out.items (c.args.out.now.items ++ text (map operation_line c.args.lines.now)) c.in_default.ensures.op c.loop-op.invariant
