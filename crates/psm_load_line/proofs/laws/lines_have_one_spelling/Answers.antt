use Rattle.std.proofs.Common.{refl}
use Rattle.psm_load_line.proofs.Forms.{expression_written, handler_written, plan_written, table_written}
use Rattle.psm_load_line.proofs.Instructions.{code_line_written}
use Rattle.psm_load_line.proofs.laws.lines_have_one_spelling.Goals as goal

pub returns : goal.returns
returns c = record {
  table_heads = λ own t. refl;
  table_again = table_written.again;
  table_takes = table_written.takes;
  expression_again = expression_written.again;
  expression_takes = expression_written.takes;
  plan_again = plan_written.again;
  plan_takes = plan_written.takes;
  handler_again = handler_written.again;
  handler_takes = handler_written.takes;
  line_again = code_line_written.again;
  line_takes = code_line_written.takes;
}
