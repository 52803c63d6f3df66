use Rattle.psm_machine.proofs.CodeGuarantees.{put_kept, put_right}
use Rattle.psm_machine.proofs.laws.well_formed_code_may_put.Goals as goal

pub returns : goal.returns
returns c = record { puts = put_right; kept = put_kept }
