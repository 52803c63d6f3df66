use Rattle.std.proofs.Common.{List, reverse, refl, ap, sym, subst, ◌∙◌}
use Rattle.psm_unwind.specs.declared.run.Frame.{Frame}
use Rattle.psm_unwind.specs.Leaving.{cursors_left, inside, outward, tables_left}
use Rattle.psm_unwind.specs.Marks.{Each, Stays, marks_in}
use Rattle.psm_unwind.specs.View.{frames_of}
use Rattle.psm_unwind.proofs.Depths.{deepest_next}
use Rattle.psm_unwind.proofs.Leavings.{cursors_next, frame_nested, frame_stays, inside_end, leaves_next, outward_end, outward_next, tables_next}
use Rattle.psm_unwind.proofs.Nestings.{leaves_none}
use Rattle.psm_unwind.proofs.Views.{frames_stay}
use Rattle.psm_unwind.proofs.leaving.leave_until.Goals as goal

pub loop-frame-init : goal.loop-frame-init
loop-frame-init g c = record {
  frames = refl;
  cursors = refl;
  tables = refl;
  defs = refl;
  deepest = λ n d. d;
  leaves = leaves_none (g.S.Store.holds c.args.store.now) (g.S.Store.at c.args.store.now) (marks_in (reverse c.args.frames.now.items)) c.requires;
}

pub leave_frame-requires : goal.leave_frame-requires
leave_frame-requires g c =
    frame_nested (g.S.Store.holds c.args.store.now) (g.S.Store.at c.args.store.now) (marks_in (reverse c.args.frames.now.items)) (g.S.Store.holds c.loop-frame.store) (g.S.Store.at c.loop-frame.store)
    c.loop-frame.frames.items c.pop_inside.new.frames.items c.in-Some.frame c.requires c.in-Some.ensures.some c.loop-frame.invariant.leaves

pub loop-frame-preserved : goal.loop-frame-preserved
loop-frame-preserved g c =
    let holds0 = g.S.Store.holds c.args.store.now in
    let at0 = g.S.Store.at c.args.store.now in
    let holds1 = g.S.Store.holds c.loop-frame.store in
    let at1 = g.S.Store.at c.loop-frame.store in
    let marks = marks_in (reverse c.args.frames.now.items) in
    let xs = c.loop-frame.frames.items in
    let ys = c.pop_inside.new.frames.items in
    let f = c.in-Some.frame in
    record {
      frames = outward_next c.args.routine.now c.args.undo c.args.stop at0 at1 xs ys f c.in-Some.ensures.some (c.in-Some.ensures.inside at0) (outward c.args.stop (frames_of at0 (reverse c.args.frames.now.items))) c.loop-frame.invariant.frames;
      cursors = cursors_next c.args.routine.now c.args.undo c.args.stop at0 at1 xs ys f c.in-Some.ensures.some (c.in-Some.ensures.inside at0) c.loop-frame.cursors.items c.leave_frame.new.cursors.items
          (cursors_left c.args.routine.now (inside c.args.stop (frames_of at0 (reverse c.args.frames.now.items))) c.args.cursors.now.items) c.leave_frame.ensures.cursors c.loop-frame.invariant.cursors;
      tables = tables_next c.args.routine.now c.args.undo c.args.stop at0 at1 xs ys f c.in-Some.ensures.some (c.in-Some.ensures.inside at0) holds1 (g.S.Store.tables c.loop-frame.store) (g.S.Store.tables c.leave_frame.new.store)
          (tables_left c.args.undo (inside c.args.stop (frames_of at0 (reverse c.args.frames.now.items))) (g.S.Store.tables c.args.store.now))
          (frame_stays holds0 at0 marks holds1 at1 xs ys f c.requires c.in-Some.ensures.some c.loop-frame.invariant.leaves) c.leave_frame.ensures.tables c.loop-frame.invariant.tables;
      defs = c.leave_frame.ensures.defs ∙ c.loop-frame.invariant.defs;
      deepest = deepest_next marks (g.S.Store.marks c.args.store.now) (g.S.Store.marks c.loop-frame.store) (g.S.Store.marks c.leave_frame.new.store) xs ys f c.in-Some.ensures.some c.loop-frame.invariant.deepest c.leave_frame.ensures.deepest;
      leaves = leaves_next holds0 at0 marks holds1 at1 xs ys f c.requires c.in-Some.ensures.some c.loop-frame.invariant.leaves (g.S.Store.holds c.leave_frame.new.store) (g.S.Store.at c.leave_frame.new.store) c.leave_frame.ensures.leaves;
    }

pub returns-clause-frames : goal.returns-clause-frames
returns-clause-frames g c =
    let at0 = g.S.Store.at c.args.store.now in
    let at1 = g.S.Store.at c.loop-frame.store in
    let ys = c.pop_inside.new.frames.items in
    let stay : Each (Stays at0 (g.S.Store.holds c.loop-frame.store) at1) (marks_in (reverse ys)) =
    subst (λ (xs : List Frame). Each (Stays at0 (g.S.Store.holds c.loop-frame.store) at1) (marks_in (reverse xs))) (sym c.in_default.ensures.none) c.loop-frame.invariant.leaves.stay in
    frames_stay at0 (g.S.Store.holds c.loop-frame.store) at1 (reverse ys) stay
    ∙ sym (outward_end c.args.stop (frames_of at0 (reverse ys)) (c.in_default.ensures.outside at0))
    ∙ ap (λ xs. outward c.args.stop (frames_of at0 (reverse xs))) c.in_default.ensures.none
    ∙ c.loop-frame.invariant.frames

pub returns-clause-cursors : goal.returns-clause-cursors
returns-clause-cursors g c =
    let at0 = g.S.Store.at c.args.store.now in
    sym (ap (λ fs. cursors_left c.args.routine.now fs c.loop-frame.cursors.items) (inside_end c.args.stop (frames_of at0 (reverse c.pop_inside.new.frames.items)) (c.in_default.ensures.outside at0)))
    ∙ ap (λ xs. cursors_left c.args.routine.now (inside c.args.stop (frames_of at0 (reverse xs))) c.loop-frame.cursors.items) c.in_default.ensures.none
    ∙ c.loop-frame.invariant.cursors

pub returns-clause-tables : goal.returns-clause-tables
returns-clause-tables g c =
    let at0 = g.S.Store.at c.args.store.now in
    sym (ap (λ fs. tables_left c.args.undo fs (g.S.Store.tables c.loop-frame.store)) (inside_end c.args.stop (frames_of at0 (reverse c.pop_inside.new.frames.items)) (c.in_default.ensures.outside at0)))
    ∙ ap (λ xs. tables_left c.args.undo (inside c.args.stop (frames_of at0 (reverse xs))) (g.S.Store.tables c.loop-frame.store)) c.in_default.ensures.none
    ∙ c.loop-frame.invariant.tables
