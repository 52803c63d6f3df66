use Rattle.std.proofs.Common.{refl}
use Rattle.psm_cond.proofs.Contexts.{scopes_block, scopes_action}
use Rattle.psm_cond.proofs.laws.scopes_go_outward.Goals as goal

pub returns : goal.returns
returns c = record { routine = λ t. refl; block = λ t k c b s e f. scopes_block t k c b s e f; action = λ t k c handler s e f. scopes_action t k c handler s e f }
