use Rattle.std.proofs.Common.{length}
use Rattle.psm_undostore.proofs.Undoings.{Undoing}
use Rattle.psm_undostore.proofs.journal.undo_from.Given as goal

abbrev pub invariant-loop-entries : goal.invariant-loop-entries
invariant-loop-entries g l = Undoing l.position l.initial.tables l.initial.entries.items l.initial.steps l.tables l.entries.items l.steps

abbrev pub decreases-loop-entries : goal.decreases-loop-entries
decreases-loop-entries g l = length l.entries.items
