use Rattle.psm_cond.proofs.MostSpecific.{most_specific, no_match}
use Rattle.psm_cond.proofs.laws.choice_is_most_specific.Goals as goal

pub returns : goal.returns
returns c = record { chosen = most_specific; none = no_match }
