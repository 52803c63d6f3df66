use Rattle.std.proofs.Common.{◌≡◌, ◌<◌, ◌∙◌, sym, arith, rules}
use denote.Enum.Bare.{same_true}
use Rattle.psm_exprcode.specs.Stacks.{stack_at}
use Rattle.psm_exprcode.specs.contracts.op.Letter.{the_type}
use Rattle.psm_exprcode.proofs.Stripping.{left_step}
use Rattle.psm_exprcode.proofs.letters.left_by_many.Goals as goal

pub loop-more-preserved : goal.loop-more-preserved
loop-more-preserved c =
    let same : c.in-Some.last ≡ c.args.letter = same_true the_type (search rules) _ _ (sym c.if-eq.ensures) in
    let more : 0 < c.loop-more.more = omega arith in (
      omega (arith, c.in-Some.ensures.earlier, c.loop-more.invariant.0),
      sym (left_step c.loop-more.more c.args.letter c.in-Some.last (stack_at c.args.stacks.now c.loop-more.rest) (stack_at c.args.stacks.now c.in-Some.below) more c.in-Some.ensures.parts same) ∙ c.loop-more.invariant.1,
    )
