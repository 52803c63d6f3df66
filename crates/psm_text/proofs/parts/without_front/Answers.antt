use Rattle.std.proofs.Common.{arith}
use Rattle.psm_text.proofs.Trims.{front_more, shorter_front}
use Rattle.psm_text.proofs.parts.without_front.Goals as goal

pub loop-left-preserved : goal.loop-left-preserved
loop-left-preserved c =
    let begins = c.begins_blank.ensures.0 c.loop-left-test.true in
    record {
      parts = front_more c.args.characters.now c.loop-left.left.now c.rest-left.result.now c.loop-left.invariant.parts begins c.rest-left.ensures;
      shorter = omega (arith, shorter_front c.loop-left.left.now c.rest-left.result.now begins c.rest-left.ensures);
    }
