use Rattle.std.proofs.Common.{sym, ap, ◌∙◌, ◌&&◌, Bool, drop, ◌+◌}
use Rattle.std.specs.Option.{option_copied}
use Rattle.psm_tablecode.specs.Tests.{are_quiet}
use Rattle.psm_tablecode.proofs.Windows.{quiet_none, quiet_some}
use Rattle.psm_tablecode.proofs.asking.is_quiet_at.Goals as goal

pub returns-in-Some : goal.returns-in-Some
returns-in-Some c =
    quiet_some c.args.lines.now c.args.at c.in-Some.op.now (sym (ap option_copied c.in-Some.is) ∙ c.op.ensures.op)
    ∙ ap (λ (b : Bool). b && are_quiet (drop (c.args.at + 1) c.args.lines.now)) (sym c.is_quiet.ensures)

pub returns-in-None : goal.returns-in-None
returns-in-None c = quiet_none c.args.lines.now c.args.at (sym (ap option_copied c.in-None.is) ∙ c.op.ensures.op)
