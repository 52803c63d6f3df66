use Rattle.std.proofs.Common.{◌≡◌, reverse, length}
use Rattle.psm_store.specs.Marks.{defs_of}
use Rattle.psm_unwind.specs.Leaving.{cursors_left, inside, outward, tables_left}
use Rattle.psm_unwind.specs.Marks.{Leaves, StayDeepest, marks_in}
use Rattle.psm_unwind.specs.View.{frames_of}
use Rattle.psm_unwind.proofs.leaving.leave_until.Given as goal

abbrev pub invariant-loop-frame : goal.invariant-loop-frame
invariant-loop-frame g l = record {
  frames : outward l.stop (frames_of (g.S.Store.at l.initial.store) (reverse l.frames.items)) ≡ outward l.stop (frames_of (g.S.Store.at l.initial.store) (reverse l.initial.frames.items));
  cursors : cursors_left l.routine (inside l.stop (frames_of (g.S.Store.at l.initial.store) (reverse l.frames.items))) l.cursors.items ≡ cursors_left l.routine (inside l.stop (frames_of (g.S.Store.at l.initial.store) (reverse l.initial.frames.items))) l.initial.cursors.items;
  tables : tables_left l.undo (inside l.stop (frames_of (g.S.Store.at l.initial.store) (reverse l.frames.items))) (g.S.Store.tables l.store) ≡ tables_left l.undo (inside l.stop (frames_of (g.S.Store.at l.initial.store) (reverse l.initial.frames.items))) (g.S.Store.tables l.initial.store);
  defs : defs_of (g.S.Store.tables l.store) ≡ defs_of (g.S.Store.tables l.initial.store);
  deepest : StayDeepest (marks_in (reverse l.initial.frames.items)) (g.S.Store.marks l.initial.store) (marks_in (reverse l.frames.items)) (g.S.Store.marks l.store);
  leaves : Leaves (g.S.Store.holds l.initial.store) (g.S.Store.at l.initial.store) (marks_in (reverse l.initial.frames.items)) (g.S.Store.holds l.store) (g.S.Store.at l.store) (marks_in (reverse l.frames.items));
}

abbrev pub decreases-loop-frame : goal.decreases-loop-frame
decreases-loop-frame g l = length l.frames.items
