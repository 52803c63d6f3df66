use Rattle.std.proofs.Common.{◌++◌, reverse, refl, ap}
use Rattle.psm_unwind.specs.Marks.{Leaves, marks_in, marks_of}
use Rattle.psm_unwind.specs.View.{at_end, callers_of, frames_of, machine_of}
use Rattle.psm_unwind.proofs.Depths.{deepest_next}
use Rattle.psm_unwind.proofs.Leavings.{frame_nested, leaves_next, reverse_pop}
use Rattle.psm_unwind.proofs.Nestings.{leaves_none}
use Rattle.psm_unwind.proofs.Unwinding.{outer_stay, running_nested, unwinds_frames, unwinds_none}
use Rattle.psm_unwind.proofs.Views.{callers_stay, frames_stay}
use Rattle.psm_machine.proofs.Exiting.{exit_came, exit_stuck}
use Rattle.psm_machine.proofs.Standing.{still_unwound}
use Rattle.psm_machine.proofs.blocks.exit.Goals as goal

pub leave_frame-requires : goal.leave_frame-requires
leave_frame-requires g c = frame_nested (g.S.Store.holds c.args.store.now) (g.S.Store.at c.args.store.now) (marks_in (reverse c.args.run.now.running.frames.items)) (g.S.Store.holds c.args.store.now) (g.S.Store.at c.args.store.now) c.args.run.now.running.frames.items c.pop_block.new.frames.items c.in-Some.frame (running_nested (g.S.Store.holds c.args.store.now) c.args.run.now c.requires) c.in-Some.ensures.some (leaves_none (g.S.Store.holds c.args.store.now) (g.S.Store.at c.args.store.now) (marks_in (reverse c.args.run.now.running.frames.items)) (running_nested (g.S.Store.holds c.args.store.now) c.args.run.now c.requires))

pub returns-in-None-clause-expected : goal.returns-in-None-clause-expected
returns-in-None-clause-expected g c =
    let is_stuck = exit_stuck c.args.routine.now c.args.context (machine_of (g.S.Store.tables c.args.store.now) (g.S.Store.at c.args.store.now) c.args.run.now) (c.in-None.ensures.other (g.S.Store.at c.args.store.now)) in
    (ap (λ x. x.given) is_stuck, ap (λ x. at_end x.machine) is_stuck)

pub returns-in-None-clause-unwinds : goal.returns-in-None-clause-unwinds
returns-in-None-clause-unwinds g c =
    unwinds_none (g.S.Store.holds c.args.store.now) (g.S.Store.at c.args.store.now) (g.S.Store.marks c.args.store.now) (g.S.Store.tables c.args.store.now) c.args.run.now (record c.args.run.now { running = record c.args.run.now.running { frames = c.pop_block.new.frames } }) c.requires
    (ap (λ fs. marks_in (reverse fs) ++ marks_of (reverse c.args.run.now.callers.items)) c.in-None.ensures.none) refl refl refl

pub returns-in-Some-clause-expected : goal.returns-in-Some-clause-expected
returns-in-Some-clause-expected g c =
    let left : Leaves (g.S.Store.holds c.args.store.now) (g.S.Store.at c.args.store.now) (marks_in (reverse c.args.run.now.running.frames.items)) (g.S.Store.holds c.leave_frame.new.store) (g.S.Store.at c.leave_frame.new.store) (marks_in (reverse c.pop_block.new.frames.items)) = (leaves_next (g.S.Store.holds c.args.store.now) (g.S.Store.at c.args.store.now) (marks_in (reverse c.args.run.now.running.frames.items)) (g.S.Store.holds c.args.store.now) (g.S.Store.at c.args.store.now) c.args.run.now.running.frames.items c.pop_block.new.frames.items c.in-Some.frame (running_nested (g.S.Store.holds c.args.store.now) c.args.run.now c.requires) c.in-Some.ensures.some (leaves_none (g.S.Store.holds c.args.store.now) (g.S.Store.at c.args.store.now) (marks_in (reverse c.args.run.now.running.frames.items)) (running_nested (g.S.Store.holds c.args.store.now) c.args.run.now c.requires)) (g.S.Store.holds c.leave_frame.new.store) (g.S.Store.at c.leave_frame.new.store) c.leave_frame.ensures.leaves) in
    exit_came c.args.routine.now c.args.context c.in-Some.frame (g.S.Store.at c.args.store.now) (frames_of (g.S.Store.at c.args.store.now) (reverse c.pop_block.new.frames.items)) (frames_of (g.S.Store.at c.leave_frame.new.store) (reverse c.pop_block.new.frames.items))
    (machine_of (g.S.Store.tables c.args.store.now) (g.S.Store.at c.args.store.now) c.args.run.now) c.leave_frame.new.cursors.items (callers_of (g.S.Store.at c.leave_frame.new.store) c.args.run.now.operands.callers (reverse c.args.run.now.callers.items)) (g.S.Store.tables c.leave_frame.new.store)
    (c.in-Some.ensures.block (g.S.Store.at c.args.store.now))
    (ap (frames_of (g.S.Store.at c.args.store.now)) (reverse_pop c.args.run.now.running.frames.items c.pop_block.new.frames.items c.in-Some.frame c.in-Some.ensures.some))
    c.leave_frame.ensures.cursors
    (frames_stay (g.S.Store.at c.args.store.now) (g.S.Store.holds c.leave_frame.new.store) (g.S.Store.at c.leave_frame.new.store) (reverse c.pop_block.new.frames.items) left.stay)
    (callers_stay (g.S.Store.at c.args.store.now) (g.S.Store.holds c.leave_frame.new.store) (g.S.Store.at c.leave_frame.new.store) c.args.run.now.operands.callers (reverse c.args.run.now.callers.items)
    (outer_stay (g.S.Store.holds c.args.store.now) (g.S.Store.at c.args.store.now) c.args.run.now (g.S.Store.holds c.leave_frame.new.store) (g.S.Store.at c.leave_frame.new.store) (marks_in (reverse c.pop_block.new.frames.items)) c.requires left))
    c.leave_frame.ensures.tables

pub returns-in-Some-clause-unwinds : goal.returns-in-Some-clause-unwinds
returns-in-Some-clause-unwinds g c =
    unwinds_frames (g.S.Store.holds c.args.store.now) (g.S.Store.at c.args.store.now) (g.S.Store.marks c.args.store.now) (g.S.Store.tables c.args.store.now) c.args.run.now (g.S.Store.holds c.leave_frame.new.store) (g.S.Store.at c.leave_frame.new.store) (g.S.Store.marks c.leave_frame.new.store) (g.S.Store.tables c.leave_frame.new.store) (record c.args.run.now { running = record c.args.run.now.running { frames = c.pop_block.new.frames; cursors = c.leave_frame.new.cursors } })
    c.requires (leaves_next (g.S.Store.holds c.args.store.now) (g.S.Store.at c.args.store.now) (marks_in (reverse c.args.run.now.running.frames.items)) (g.S.Store.holds c.args.store.now) (g.S.Store.at c.args.store.now) c.args.run.now.running.frames.items c.pop_block.new.frames.items c.in-Some.frame (running_nested (g.S.Store.holds c.args.store.now) c.args.run.now c.requires) c.in-Some.ensures.some (leaves_none (g.S.Store.holds c.args.store.now) (g.S.Store.at c.args.store.now) (marks_in (reverse c.args.run.now.running.frames.items)) (running_nested (g.S.Store.holds c.args.store.now) c.args.run.now c.requires)) (g.S.Store.holds c.leave_frame.new.store) (g.S.Store.at c.leave_frame.new.store) c.leave_frame.ensures.leaves) (deepest_next (marks_in (reverse c.args.run.now.running.frames.items)) (g.S.Store.marks c.args.store.now) (g.S.Store.marks c.args.store.now) (g.S.Store.marks c.leave_frame.new.store) c.args.run.now.running.frames.items c.pop_block.new.frames.items c.in-Some.frame c.in-Some.ensures.some (λ n d. d) c.leave_frame.ensures.deepest)
    c.leave_frame.ensures.defs refl refl refl

pub returns-in-None-clause-still : goal.returns-in-None-clause-still
returns-in-None-clause-still g c =
    still_unwound (g.S.Store.holds c.args.store.now) (g.S.Store.at c.args.store.now) (g.S.Store.marks c.args.store.now) (g.S.Store.tables c.args.store.now) c.args.run.now
    (g.S.Store.holds c.args.store.now) (g.S.Store.at c.args.store.now) (g.S.Store.marks c.args.store.now) (g.S.Store.tables c.args.store.now) (record c.args.run.now { running = record c.args.run.now.running { frames = c.pop_block.new.frames } }) (returns-in-None-clause-unwinds g c)

pub returns-in-Some-clause-still : goal.returns-in-Some-clause-still
returns-in-Some-clause-still g c =
    still_unwound (g.S.Store.holds c.args.store.now) (g.S.Store.at c.args.store.now) (g.S.Store.marks c.args.store.now) (g.S.Store.tables c.args.store.now) c.args.run.now
    (g.S.Store.holds c.leave_frame.new.store) (g.S.Store.at c.leave_frame.new.store) (g.S.Store.marks c.leave_frame.new.store) (g.S.Store.tables c.leave_frame.new.store)
    (record c.args.run.now { running = record c.args.run.now.running { frames = c.pop_block.new.frames; cursors = c.leave_frame.new.cursors } }) (returns-in-Some-clause-unwinds g c)
