use Rattle.psm_load_line.specs.Groups.{instruction_at, stack_and_instruction_at}
use Rattle.psm_load_line.proofs.code_lines.operation_line.Goals as goal

pub returns : goal.returns
unfolding stack_and_instruction_at instruction_at
returns c = c.stack_and_instruction.ensures
