use Rattle.psm_exprcode.proofs.Stripping.{comparing_all}
use Rattle.psm_exprcode.proofs.letters.are_same.Goals as goal

pub returns : goal.returns
returns c = comparing_all c.args.stacks.now c.args.stack c.args.other c.loop-left.left c.loop-left.right c.loop-left.invariant c.loop-left-test.false
