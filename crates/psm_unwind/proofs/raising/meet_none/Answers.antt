use Rattle.std.proofs.Common.{reverse, refl, ap, sym, ◌∙◌}
use Rattle.psm_cond.specs.Choice.{is_exception}
use Rattle.psm_unwind.specs.Marks.{marks_in}
use Rattle.psm_unwind.specs.View.{callers_of, frames_of, machine_of}
use Rattle.psm_unwind.proofs.Arriving.{all_left, goes_on, goes_outside}
use Rattle.psm_unwind.proofs.Unwinding.{outer_stay, running_nested, unwinds_frames, unwinds_same}
use Rattle.psm_unwind.proofs.Views.{callers_stay}
use Rattle.psm_unwind.proofs.raising.meet_none.Goals as goal

pub leave_until-requires : goal.leave_until-requires
leave_until-requires g c = running_nested (g.S.Store.holds c.args.store.now) c.args.run.now c.requires.nested

pub returns-then-is_exception-clause-expected : goal.returns-then-is_exception-clause-expected
returns-then-is_exception-clause-expected g c =
    goes_outside c.args.routine.now c.args.resume c.args.condition.now (machine_of (g.S.Store.tables c.args.store.now) (g.S.Store.at c.args.store.now) c.args.run.now)
    c.leave_until.new.cursors.items (frames_of (g.S.Store.at c.leave_until.new.store) (reverse c.leave_until.new.frames.items))
    (callers_of (g.S.Store.at c.leave_until.new.store) c.args.run.now.operands.callers (reverse c.args.run.now.callers.items)) (g.S.Store.tables c.leave_until.new.store)
    (ap is_exception (sym c.kind.ensures) ∙ sym c.is_exception.ensures ∙ c.if-is_exception.true)
    c.leave_until.ensures.cursors
    (callers_stay (g.S.Store.at c.args.store.now) (g.S.Store.holds c.leave_until.new.store) (g.S.Store.at c.leave_until.new.store) c.args.run.now.operands.callers (reverse c.args.run.now.callers.items)
    (outer_stay (g.S.Store.holds c.args.store.now) (g.S.Store.at c.args.store.now) c.args.run.now (g.S.Store.holds c.leave_until.new.store) (g.S.Store.at c.leave_until.new.store) (marks_in (reverse c.leave_until.new.frames.items)) c.requires.nested c.leave_until.ensures.leaves))
    c.leave_until.ensures.tables

pub returns-then-is_exception-clause-left : goal.returns-then-is_exception-clause-left
returns-then-is_exception-clause-left g c =
    all_left (g.S.Store.at c.leave_until.new.store) c.leave_until.new.frames.items (frames_of (g.S.Store.at c.args.store.now) (reverse c.args.run.now.running.frames.items)) c.leave_until.ensures.frames

pub returns-then-is_exception-clause-unwinds : goal.returns-then-is_exception-clause-unwinds
returns-then-is_exception-clause-unwinds g c =
    unwinds_frames (g.S.Store.holds c.args.store.now) (g.S.Store.at c.args.store.now) (g.S.Store.marks c.args.store.now) (g.S.Store.tables c.args.store.now) c.args.run.now
    (g.S.Store.holds c.leave_until.new.store) (g.S.Store.at c.leave_until.new.store) (g.S.Store.marks c.leave_until.new.store) (g.S.Store.tables c.leave_until.new.store) (record c.args.run.now { running = record c.args.run.now.running { cursors = c.leave_until.new.cursors; frames = c.leave_until.new.frames } })
    c.requires.nested c.leave_until.ensures.leaves c.leave_until.ensures.deepest c.leave_until.ensures.defs refl refl refl

pub returns-else-is_exception-clause-expected : goal.returns-else-is_exception-clause-expected
returns-else-is_exception-clause-expected g c =
    goes_on c.args.routine.now c.args.resume c.args.condition.now (machine_of (g.S.Store.tables c.args.store.now) (g.S.Store.at c.args.store.now) c.args.run.now) c.pass_over.result (machine_of (g.S.Store.tables c.args.store.now) (g.S.Store.at c.args.store.now) c.pass_over.new.run)
    (ap is_exception (sym c.kind.ensures) ∙ sym c.is_exception.ensures ∙ c.if-is_exception.false) (c.pass_over.ensures.expected (g.S.Store.tables c.args.store.now) (g.S.Store.at c.args.store.now))

pub returns-else-is_exception-clause-unwinds : goal.returns-else-is_exception-clause-unwinds
returns-else-is_exception-clause-unwinds g c = unwinds_same (g.S.Store.holds c.args.store.now) (g.S.Store.at c.args.store.now) (g.S.Store.marks c.args.store.now) (g.S.Store.tables c.args.store.now) c.args.run.now c.pass_over.new.run c.requires.nested c.pass_over.ensures.same
