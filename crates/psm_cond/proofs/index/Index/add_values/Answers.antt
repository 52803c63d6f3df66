use Rattle.std.proofs.Common.{take, refl, arith}
use Rattle.psm_cond.proofs.Indexes.{notes_all, notes_first, notes_next}
use Rattle.psm_cond.proofs.index.Index.add_values.Goals as goal

pub loop-value-init : goal.loop-value-init
loop-value-init c = notes_first c.args.self.now c.add.new.self c.args.context c.args.number c.args.first (take 0 c.args.rest.now) refl c.in_ok-add.ensures

pub loop-value-preserved : goal.loop-value-preserved
loop-value-preserved c =
    let position = c.loop-value in
    notes_next c.args.self.now position.self c.add-in-loop-value.new.self c.args.context c.args.number position.value-index c.args.first c.value-item.result c.args.rest.now
    (grind arith) (grind arith) position.invariant c.in_ok-add-2.ensures

pub returns : goal.returns
returns c =
    let position = c.loop-value in
    notes_all c.args.self.now position.self c.args.context c.args.number position.value-index c.args.first c.args.rest.now (grind arith) position.invariant
