use Rattle.psm_code.proofs.Ending.{one_end}
use Rattle.psm_code.proofs.laws.runs_have_one_end.Goals as goal

pub returns : goal.returns
returns c = record { end = one_end }
