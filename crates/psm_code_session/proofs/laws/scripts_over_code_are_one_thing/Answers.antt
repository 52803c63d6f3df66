use Rattle.psm_code_session.proofs.Scripts.{script_exclusive, script_total}
use Rattle.psm_code_session.proofs.laws.scripts_over_code_are_one_thing.Goals as goal

pub returns : goal.returns
returns c = record { exclusive = script_exclusive; total = script_total }
