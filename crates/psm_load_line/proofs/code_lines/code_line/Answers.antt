use Rattle.psm_load_line.specs.Groups.{instruction_at, whole_line_at}
use Rattle.psm_load_line.proofs.code_lines.code_line.Goals as goal

pub returns : goal.returns
unfolding whole_line_at instruction_at
returns c = c.whole_line.ensures
