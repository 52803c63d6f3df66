use Rattle.psm_load_line.proofs.OtherForms.{column_written, condition_written, context_written, cursor_written, first_written, item_written, key_written, parameter_written, query_written, reference_written, routine_written, slot_written, unique_written}
use Rattle.psm_load_line.proofs.laws.other_lines_have_one_spelling.Goals as goal

pub returns : goal.returns
returns c = record {
  first_again = first_written.again;
  first_takes = first_written.takes;
  column_again = column_written.again;
  column_takes = column_written.takes;
  key_again = key_written.again;
  key_takes = key_written.takes;
  unique_again = unique_written.again;
  unique_takes = unique_written.takes;
  reference_again = reference_written.again;
  reference_takes = reference_written.takes;
  query_again = query_written.again;
  query_takes = query_written.takes;
  item_again = λ i. item_written.again i tt;
  item_takes = λ s i e. (item_written.takes s i e).0;
  condition_again = condition_written.again;
  condition_takes = condition_written.takes;
  context_again = context_written.again;
  context_takes = context_written.takes;
  parameter_again = parameter_written.again;
  parameter_takes = parameter_written.takes;
  slot_again = slot_written.again;
  slot_takes = slot_written.takes;
  cursor_again = cursor_written.again;
  cursor_takes = cursor_written.takes;
  routine_again = routine_written.again;
  routine_takes = routine_written.takes;
}
