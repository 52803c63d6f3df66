use Rattle.std.proofs.Common.{length}
use Rattle.psm_parse_token.proofs.token.+is_sign_of.Given as goal

abbrev pub decreases-is_sign_of : goal.decreases-is_sign_of
decreases-is_sign_of l = length l.signs.now
