use Rattle.std.proofs.Common.{◌∙◌, ◌+◌, ap}
use Rattle.std.proofs.lemmas.List.{take_rest}
use Rattle.psm_exprcode.specs.Numbered.{lines_of}
use Rattle.psm_exprcode.proofs.Sharing.{lines_after}
use Rattle.psm_exprcode.proofs.lent.NumberedLines.after.Goals as goal

pub returns-clause-lines : goal.returns-clause-lines
returns-clause-lines c = ap (lines_of c.args.self.now.stacks.now) (take_rest c.args.self.now.lines.now (c.args.at + 1)) ∙ lines_after c.args.self.now.stacks.now c.args.self.now.lines.now (c.args.at + 1)
