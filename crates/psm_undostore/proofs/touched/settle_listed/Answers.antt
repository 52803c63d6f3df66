use Rattle.std.proofs.Common.{length}
use Rattle.psm_undostore.proofs.Settled.{next_settling}
use Rattle.psm_undostore.proofs.touched.settle_listed.Goals as goal

pub loop-t-preserved : goal.loop-t-preserved
loop-t-preserved c =
    next_settling (length c.args.tables.now) c.args.tables.now c.loop-t.is_touched.items c.loop-t.numbers.items c.loop-t.tables c.loop-t.invariant
    c.pop.new.self.items c.in-Some.t c.in-Some.ensures.items c.index-tables-t.result c.settle.new.self c.settle.ensures.rows c.settle.ensures.tidy
