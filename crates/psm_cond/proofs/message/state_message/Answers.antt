use Rattle.std.proofs.Common.{sym, subst}
use Rattle.std.specs.Str.{IsAscii}
use Rattle.psm_cond.proofs.Messages.{message_ascii}
use Rattle.psm_cond.proofs.message.state_message.Goals as goal

pub returns-clause-ascii : goal.returns-clause-ascii
returns-clause-ascii c = subst (λ t. IsAscii t) (sym c.message.ensures) (message_ascii c.args.state)
