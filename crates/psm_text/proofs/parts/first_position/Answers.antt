use Rattle.std.proofs.Common.{refl}
use Rattle.psm_text.proofs.Positions.{searching_on}
use Rattle.psm_text.proofs.parts.first_position.Goals as goal

pub loop-left-preserved : goal.loop-left-preserved
loop-left-preserved c =
    searching_on c.args.wanted.now c.args.characters.now c.loop-left.left.now c.args.wanted.now c.rest-left.result.now c.loop-left.before c.starts_with.result
    refl c.loop-left.invariant c.starts_with.ensures.value c.if-starts_with.false c.loop-left-test.true c.rest-left.ensures
