use Rattle.std.proofs.Common.{None, Some, ap, sym, ◌∙◌}
use Rattle.std.specs.Option.{option_copied}
use Rattle.psm_machine.proofs.Exiting.{last_block}
use Rattle.psm_machine.proofs.blocks.is_innermost.Goals as goal

pub returns-in-None : goal.returns-in-None
returns-in-None c = λ at. last_block at c.args.context c.args.frames.now None (sym (ap option_copied c.in-None.is) ∙ c.last.ensures.value)

pub returns-in-Some : goal.returns-in-Some
returns-in-Some c = λ at. c.is_block.ensures at ∙ last_block at c.args.context c.args.frames.now (Some c.in-Some.frame.now) (sym (ap option_copied c.in-Some.is) ∙ c.last.ensures.value)
