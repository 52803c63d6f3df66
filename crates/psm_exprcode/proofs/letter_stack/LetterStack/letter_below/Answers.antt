use Rattle.std.proofs.Common.{◌∙◌, ap}
use Rattle.std.specs.Prelude.{slice_get}
use Rattle.psm_exprcode.specs.Stacks.{stack_at}
use Rattle.psm_exprcode.specs.Writing.{letters_now}
use Rattle.psm_exprcode.proofs.Changing.{next_some, next_none}
use Rattle.psm_exprcode.proofs.letter_stack.LetterStack.letter_below.Goals as goal

pub returns-in-Some : goal.returns-in-Some
returns-in-Some c =
    next_some (stack_at c.self.inside.stacks c.self.inside.number) (stack_at c.self.inside.stacks c.dropped-number.result.0) _ c.in-Some.letter c.args.others c.dropped-number.ensures.letters c.in-Some.ensures.parts
    ∙ ap (λ s. slice_get (letters_now s) c.args.others) c.self.view_is

pub returns-in-None : goal.returns-in-None
returns-in-None c =
    next_none (stack_at c.self.inside.stacks c.self.inside.number) (stack_at c.self.inside.stacks c.dropped-number.result.0) c.args.others c.dropped-number.ensures.letters c.in-None.ensures.parts
    ∙ ap (λ s. slice_get (letters_now s) c.args.others) c.self.view_is
