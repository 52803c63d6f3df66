use Rattle.std.proofs.Common.{sym, ◌∙◌}
use Rattle.psm_load.proofs.Noted.{other_noted}
use Rattle.psm_load.proofs.expressions.operation.Goals as goal

pub returns-in_default : goal.returns-in_default
returns-in_default c = rw c.note.ensures (other_noted c.args.lines.now c.next.new.self c.in_ok-line.line c.operation_line.result c.in_ok-stack.stack c.in_ok-stack.instruction
    c.in_ok-line.ensures c.operation_line.ensures (sym c.in_ok-stack.was ∙ c.says.ensures) c.in_default.not-Operation)
