use Rattle.std.proofs.Common.{◌∙◌, ap, sym}
use Rattle.std.specs.Option.{option_copied}
use Rattle.psm_exprcode.proofs.Sharing.{stated_some, stated_none}
use Rattle.psm_exprcode.proofs.lent.NumberedLines.stack.Goals as goal

pub returns-in-Some-clause-stated : goal.returns-in-Some-clause-stated
returns-in-Some-clause-stated c =
    stated_some c.args.self.now.stacks.now c.args.self.now.lines.now c.args.at c.in-Some.line.now (sym c.line_at.ensures ∙ ap option_copied c.in-Some.is)

pub returns-in-None-clause-stated : goal.returns-in-None-clause-stated
returns-in-None-clause-stated c = stated_none c.args.self.now.stacks.now c.args.self.now.lines.now c.args.at (sym c.line_at.ensures ∙ ap option_copied c.in-None.is)
