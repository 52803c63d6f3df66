use Rattle.std.proofs.Common.{ap, sym, ◌∙◌, not}
use Rattle.std.specs.Option.{option_copied}
use Rattle.psm_unwind.proofs.Lasts.{innermost_none, innermost_some}
use Rattle.psm_unwind.proofs.leaving.is_innermost_inside.Goals as goal

pub returns-in-None : goal.returns-in-None
returns-in-None c = λ at. innermost_none at c.args.stop c.args.frames.now (sym (ap option_copied c.in-None.is) ∙ c.last.ensures.value)

pub returns-in-Some : goal.returns-in-Some
returns-in-Some c = λ at.
    ap not (c.is_at.ensures at) ∙ innermost_some at c.args.stop c.args.frames.now c.in-Some.frame.now (sym (ap option_copied c.in-Some.is) ∙ c.last.ensures.value)
