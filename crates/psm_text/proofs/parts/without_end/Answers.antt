use Rattle.std.proofs.Common.{arith}
use Rattle.psm_text.proofs.Trims.{back_more, shorter_back}
use Rattle.psm_text.proofs.parts.without_end.Goals as goal

pub loop-left-preserved : goal.loop-left-preserved
loop-left-preserved c =
    let ends = c.ends_blank.ensures.0 c.loop-left-test.true in
    record {
      parts = back_more c.args.characters.now c.loop-left.left.now c.without_last-left.result.now c.loop-left.invariant.parts ends c.without_last-left.ensures;
      shorter = omega (arith, shorter_back c.loop-left.left.now c.without_last-left.result.now ends c.without_last-left.ensures);
    }
