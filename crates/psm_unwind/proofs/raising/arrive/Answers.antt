use Rattle.std.proofs.Common.{reverse, refl}
use Rattle.psm_unwind.specs.Marks.{marks_in}
use Rattle.psm_unwind.specs.View.{callers_of, frames_of, machine_of}
use Rattle.psm_unwind.proofs.Arriving.{arrived_is}
use Rattle.psm_unwind.proofs.Unwinding.{outer_stay, running_nested, unwinds_frames}
use Rattle.psm_unwind.proofs.Views.{callers_stay}
use Rattle.psm_unwind.proofs.raising.arrive.Goals as goal

pub leave_until-requires : goal.leave_until-requires
leave_until-requires g c = running_nested (g.S.Store.holds c.args.store.now) c.args.run.now c.requires.nested

pub returns-clause-expected : goal.returns-clause-expected
returns-clause-expected g c =
    let new = c.leave_until.new.store in
    arrived_is c.args.routine.now c.args.undo c.args.handler.now (machine_of (g.S.Store.tables c.args.store.now) (g.S.Store.at c.args.store.now) c.args.run.now) c.leave_until.new.cursors.items
    (frames_of (g.S.Store.at c.leave_until.new.store) (reverse c.leave_until.new.frames.items)) (callers_of (g.S.Store.at c.leave_until.new.store) c.args.run.now.operands.callers (reverse c.args.run.now.callers.items)) (g.S.Store.tables c.leave_until.new.store)
    c.leave_until.ensures.cursors c.leave_until.ensures.frames
    (callers_stay (g.S.Store.at c.args.store.now) (g.S.Store.holds c.leave_until.new.store) (g.S.Store.at c.leave_until.new.store) c.args.run.now.operands.callers (reverse c.args.run.now.callers.items)
    (outer_stay (g.S.Store.holds c.args.store.now) (g.S.Store.at c.args.store.now) c.args.run.now (g.S.Store.holds c.leave_until.new.store) (g.S.Store.at c.leave_until.new.store) (marks_in (reverse c.leave_until.new.frames.items)) c.requires.nested c.leave_until.ensures.leaves))
    c.leave_until.ensures.tables

pub returns-clause-unwinds : goal.returns-clause-unwinds
returns-clause-unwinds g c =
    unwinds_frames (g.S.Store.holds c.args.store.now) (g.S.Store.at c.args.store.now) (g.S.Store.marks c.args.store.now) (g.S.Store.tables c.args.store.now) c.args.run.now
    (g.S.Store.holds c.leave_until.new.store) (g.S.Store.at c.leave_until.new.store) (g.S.Store.marks c.leave_until.new.store) (g.S.Store.tables c.leave_until.new.store) (record c.args.run.now { running = record c.args.run.now.running { cursors = c.leave_until.new.cursors; frames = c.leave_until.new.frames } })
    c.requires.nested c.leave_until.ensures.leaves c.leave_until.ensures.deepest c.leave_until.ensures.defs refl refl refl
