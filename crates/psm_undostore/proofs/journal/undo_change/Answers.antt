use Rattle.std.proofs.Common.{ap}
use Rattle.psm_undostore.specs.Journal.{old_row}
use Rattle.psm_undostore.proofs.journal.undo_change.Goals as goal

pub revive-requires-clause-kept : goal.revive-requires-clause-kept
revive-requires-clause-kept g c = c.requires.can.kept c.in-Erased.row (ap old_row c.in-Erased.is)

pub revive-requires-in-Changed-clause-kept : goal.revive-requires-in-Changed-clause-kept
revive-requires-in-Changed-clause-kept g c = c.requires.can.kept c.in-Changed.row (ap old_row c.in-Changed.is)
