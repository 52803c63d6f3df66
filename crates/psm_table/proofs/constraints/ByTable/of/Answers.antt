use Rattle.std.proofs.Common.{arith}
use Rattle.psm_table.proofs.Named.{found_all, found_next}
use Rattle.psm_table.proofs.constraints.ByTable.of.Goals as goal

pub loop-key-preserved : goal.loop-key-preserved
loop-key-preserved c =
    let slot = c.loop-key in
    found_next slot.kept c.add.new.self c.args.keys.now slot.key-index c.key-item.result (grind arith) (grind arith) slot.invariant c.in_ok-add.ensures

pub returns : goal.returns
returns c = found_all c.loop-key.kept c.args.keys.now c.loop-key.key-index (grind arith) c.loop-key.invariant
