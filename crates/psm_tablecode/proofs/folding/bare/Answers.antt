use Rattle.std.proofs.Common.{arith, map}
use Rattle.std.specs.Vec.Iter.{into_iter_items}
use Rattle.psm_tablecode.specs.Folding.{bare}
use Rattle.psm_tablecode.proofs.FoldSteps.{bare_end, bare_next}
use Rattle.psm_tablecode.proofs.folding.bare.Goals as goal

pub loop-op-preserved : goal.loop-op-preserved
loop-op-preserved c =
    bare_next c.loop-op.lines c.push.new.self (map bare c.args.ops.items) c.in-Some.op (into_iter_items c.loop-op.op-iterator) (into_iter_items c.next.new.self) c.in-Some.ensures.steps.0 c.in_ok-push.ensures.ok
    c.loop-op.invariant

pub returns : goal.returns
returns c =
    bare_end c.loop-op.lines (map bare c.args.ops.items) (into_iter_items c.loop-op.op-iterator) (omega (arith, c.in-None.ensures.steps.0, c.loop-op.op-iterator.rest.ok.0)) c.loop-op.invariant
