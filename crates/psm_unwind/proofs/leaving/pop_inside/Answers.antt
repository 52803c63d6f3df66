use Rattle.std.proofs.Common.{ap, reverse, sym, ◌∙◌}
use Rattle.psm_unwind.specs.Leaving.{is_innermost_inside}
use Rattle.psm_unwind.specs.View.{frames_of}
use Rattle.psm_unwind.proofs.Lasts.{popped_inside}
use Rattle.psm_unwind.proofs.leaving.pop_inside.Goals as goal

pub returns-then-is_innermost_inside-clause-inside : goal.returns-then-is_innermost_inside-clause-inside
returns-then-is_innermost_inside-clause-inside c =
    popped_inside c.args.stop c.args.frames.now.items c.pop.new.self.items c.pop.result c.pop.ensures.items
    (λ at. ap (λ fs. is_innermost_inside c.args.stop (frames_of at (reverse fs))) (sym c.as_slice.ensures.value) ∙ sym (c.is_innermost_inside.ensures at) ∙ c.if-is_innermost_inside.true)

pub returns-else-is_innermost_inside-clause-outside : goal.returns-else-is_innermost_inside-clause-outside
returns-else-is_innermost_inside-clause-outside c = λ at.
    ap (λ fs. is_innermost_inside c.args.stop (frames_of at (reverse fs))) (sym c.as_slice.ensures.value) ∙ sym (c.is_innermost_inside.ensures at) ∙ c.if-is_innermost_inside.false
