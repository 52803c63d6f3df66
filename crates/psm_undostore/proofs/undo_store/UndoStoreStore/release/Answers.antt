use Rattle.std.proofs.Common.{arith}
use Rattle.psm_undostore.proofs.Held.{released_undo}
use Rattle.psm_undostore.proofs.Noted.{noted_marks}
use Rattle.psm_undostore.proofs.undo_store.UndoStoreStore.release.Goals as goal

pub invariant_of-self : goal.invariant_of-self
invariant_of-self c = (
  released_undo c.self.inside.tables.items c.self.inside.journal c.self.inside.marks c.args.self.now c.self.view_is c.self.invariant.0 c.args.mark c.requires (omega (arith, c.if-mark-gt0.true)),
  noted_marks c.self.inside.touched c.self.inside.tables.items c.self.inside.journal c.self.inside.marks c.self.invariant.1 c.args.mark.depth (omega (arith, c.if-mark-gt0.true)),
)
