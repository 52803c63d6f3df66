use Rattle.psm_cond.proofs.MostSpecific.{inner, further_out, no_match_anywhere}
use Rattle.psm_cond.proofs.laws.choice_is_innermost.Goals as goal

pub returns : goal.returns
returns c = record { inner = inner; outer = further_out; none = no_match_anywhere }
