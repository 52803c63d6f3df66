use Rattle.std.proofs.Common.{refl, arith}
use Rattle.psm_cond.proofs.Indexes.{index_all, index_next}
use Rattle.psm_cond.proofs.index.Index.of.Goals as goal

pub loop-number-preserved : goal.loop-number-preserved
loop-number-preserved c =
    let position = c.loop-number in
    index_next position.index c.add_handler.new.self c.args.handlers.now position.number position.number c.handler-item.result (grind arith) (grind arith) refl
    position.invariant c.in_ok-add_handler.ensures

pub returns : goal.returns
returns c = index_all c.loop-number.index c.args.handlers.now c.loop-number.number (grind arith) c.loop-number.invariant
