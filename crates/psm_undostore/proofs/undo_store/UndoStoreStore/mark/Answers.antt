use Rattle.std.proofs.Common.{◌+◌, arith}
use Rattle.psm_undostore.proofs.Held.{marked_undo, newly_marked}
use Rattle.psm_undostore.proofs.Noted.{noted_marks}
use Rattle.psm_undostore.proofs.undo_store.UndoStoreStore.mark.Goals as goal

pub invariant_of-self : goal.invariant_of-self
invariant_of-self c = (
  marked_undo c.self.inside.tables.items c.self.inside.journal c.self.inside.marks c.args.self.now c.self.view_is c.self.invariant.0 c.requires,
  noted_marks c.self.inside.touched c.self.inside.tables.items c.self.inside.journal c.self.inside.marks c.self.invariant.1 (c.self.inside.marks + 1) (omega arith),
)

pub returns-clause-mark : goal.returns-clause-mark
returns-clause-mark c = newly_marked c.self.inside.tables.items c.self.inside.journal c.self.inside.marks c.args.self.now c.self.view_is c.len.result c.len.ensures
