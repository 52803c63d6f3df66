use Rattle.std.proofs.Common.{ap, reverse, sym, ◌∙◌}
use Rattle.psm_unwind.specs.View.{frames_of}
use Rattle.psm_machine.specs.Innermost.{is_innermost}
use Rattle.psm_machine.proofs.Exiting.{popped_block}
use Rattle.psm_machine.proofs.blocks.pop_block.Goals as goal

pub returns-then-is_innermost-clause-block : goal.returns-then-is_innermost-clause-block
returns-then-is_innermost-clause-block c =
    popped_block c.args.context c.args.frames.now.items c.pop.new.self.items c.pop.result c.pop.ensures.items
    (λ at. ap (λ fs. is_innermost c.args.context (frames_of at (reverse fs))) (sym c.as_slice.ensures.value) ∙ sym (c.is_innermost.ensures at) ∙ c.if-is_innermost.true)

pub returns-else-is_innermost-clause-other : goal.returns-else-is_innermost-clause-other
returns-else-is_innermost-clause-other c = λ at.
    ap (λ fs. is_innermost c.args.context (frames_of at (reverse fs))) (sym c.as_slice.ensures.value) ∙ sym (c.is_innermost.ensures at) ∙ c.if-is_innermost.false
