use Rattle.std.proofs.Common.{◌∙◌}
use Rattle.psm_commands.proofs.Answering.{puts_same}
use Rattle.psm_commands.proofs.refusal.report.Goals as goal

pub returns-in-Ok : goal.returns-in-Ok
returns-in-Ok g c = rw c.in-Unread.is (puts_same _ _ _ _ _ (c.deref.ensures.value ∙ c.in-Ok.ensures) c.put_line.ensures)

pub returns-in-Ok-too_long_line : goal.returns-in-Ok-too_long_line
returns-in-Ok-too_long_line g c = rw c.in-TooLong.is (puts_same _ _ _ _ _ (c.deref-in-TooLong.ensures.value ∙ c.in-Ok-too_long_line.ensures) c.put_line-in-TooLong.ensures)
