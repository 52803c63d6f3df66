use Rattle.std.proofs.Common.{◌+◌, Some, ◌∷◌, ◌++◌, List, reverse, refl, ap, sym, subst, ◌∙◌}
use Rattle.psm_code.specs.State.{InBlock}
use Rattle.psm_store.specs.declared.store.Mark.{Mark}
use Rattle.psm_unwind.specs.Marks.{Encloses, Stays, marks_in, marks_of, open_marks}
use Rattle.psm_unwind.specs.View.{callers_of, frames_of, machine_of}
use Rattle.psm_unwind.proofs.Nestings.{each_left, each_right}
use Rattle.psm_unwind.proofs.Views.{callers_stay}
use Rattle.psm_machine.proofs.Marking.{all_stay, entered, frames_pushed, keeps_closed, marks_pushed, stand_more, stand_new}
use Rattle.psm_machine.proofs.Standing.{outer_new}
use Rattle.psm_machine.proofs.blocks.enter_atomic.Goals as goal

pub returns-in_err-mark-clause-stand : goal.returns-in_err-mark-clause-stand
returns-in_err-mark-clause-stand g c =
    stand_more (g.S.Store.holds c.args.store.now) (g.S.Store.at c.args.store.now) (g.S.Store.holds c.mark.new.self) (g.S.Store.at c.mark.new.self) (g.S.Store.marks c.args.store.now) (g.S.Store.marks c.mark.new.self) c.args.run.now (record c.args.run.now { marks = c.args.run.now.marks + 1 }) c.requires c.mark.ensures.keeps c.in_err-mark.ensures.marks refl refl c.if-run-ge-MOST_OPEN.false refl

-- ---- where there is no memory for the frame

pub returns-in-Err-clause-keeps : goal.returns-in-Err-clause-keeps
returns-in-Err-clause-keeps g c =
    keeps_closed (g.S.Store.holds c.args.store.now) (g.S.Store.at c.args.store.now) (g.S.Store.holds c.mark.new.self) (g.S.Store.at c.mark.new.self) (g.S.Store.holds c.release.new.self) (g.S.Store.at c.release.new.self)
    (g.S.Store.marks c.args.store.now) (g.S.Store.tables c.args.store.now) c.in_ok-mark.mark c.mark.ensures.keeps (g.met.S.Store.below c.args.store.now) c.in_ok-mark.ensures.mark c.release.ensures.keeps

pub returns-in-Err-clause-stand : goal.returns-in-Err-clause-stand
returns-in-Err-clause-stand g c =
    stand_more (g.S.Store.holds c.args.store.now) (g.S.Store.at c.args.store.now) (g.S.Store.holds c.release.new.self) (g.S.Store.at c.release.new.self) (g.S.Store.marks c.args.store.now) (g.S.Store.marks c.release.new.self)
    c.args.run.now (record c.args.run.now { running = record c.args.run.now.running { frames = c.push.new.self }; marks = c.args.run.now.marks + 1 }) c.requires (returns-in-Err-clause-keeps g c)
    (c.release.ensures.marks ∙ c.in_ok-mark.ensures.mark.deepest) refl refl c.if-run-ge-MOST_OPEN.false
    (ap (λ fs. marks_in (reverse fs) ++ marks_of (reverse c.args.run.now.callers.items)) c.in-Err.ensures.items)

pub returns-in-Err-clause-outer : goal.returns-in-Err-clause-outer
returns-in-Err-clause-outer g c = λ m h a. (
  returns-in-Err-clause-keeps g c m h tt,
  subst (λ (x : List Mark). Encloses x m) (sym (ap (λ fs. marks_in (reverse fs) ++ marks_of (reverse c.args.run.now.callers.items)) c.in-Err.ensures.items)) a,
)

-- ---- where the block is entered

pub returns-clause-stand : goal.returns-clause-stand
returns-clause-stand g c =
    stand_new (g.S.Store.holds c.args.store.now) (g.S.Store.at c.args.store.now) (g.S.Store.holds c.mark.new.self) (g.S.Store.at c.mark.new.self) (g.S.Store.marks c.args.store.now) (g.S.Store.marks c.mark.new.self) (g.S.Store.tables c.args.store.now) c.args.run.now (record c.args.run.now { running = record c.args.run.now.running { frames = c.push.new.self }; marks = c.args.run.now.marks + 1 }) c.in_ok-mark.mark c.requires c.mark.ensures.keeps (g.met.S.Store.below c.args.store.now) c.in_ok-mark.ensures.mark
    c.in_ok-mark.ensures.marks refl refl c.if-run-ge-MOST_OPEN.false
    (marks_pushed c.args.context c.in_ok-mark.mark c.args.run.now.running.frames.items c.push.new.self.items (marks_of (reverse c.args.run.now.callers.items)) c.in_default.ensures.items)

pub returns-clause-expected : goal.returns-clause-expected
returns-clause-expected g c =
    let stay = all_stay (g.S.Store.holds c.args.store.now) (g.S.Store.at c.args.store.now) (g.S.Store.holds c.mark.new.self) (g.S.Store.at c.mark.new.self) (open_marks c.args.run.now) c.requires.nested c.mark.ensures.keeps in
    let inner = marks_in (reverse c.args.run.now.running.frames.items) in
    let outer = marks_of (reverse c.args.run.now.callers.items) in
    entered (machine_of (g.S.Store.tables c.args.store.now) (g.S.Store.at c.args.store.now) c.args.run.now) (InBlock c.args.context (Some (g.S.Store.tables c.args.store.now)) ∷ frames_of (g.S.Store.at c.args.store.now) (reverse c.args.run.now.running.frames.items))
    (frames_of (g.S.Store.at c.mark.new.self) (reverse c.push.new.self.items)) (callers_of (g.S.Store.at c.mark.new.self) c.args.run.now.operands.callers (reverse c.args.run.now.callers.items)) (g.S.Store.tables c.mark.new.self)
    (frames_pushed c.args.context (g.S.Store.tables c.args.store.now) (g.S.Store.at c.args.store.now) (g.S.Store.holds c.mark.new.self) (g.S.Store.at c.mark.new.self) c.args.run.now.running.frames.items c.push.new.self.items c.in_ok-mark.mark c.in_default.ensures.items
    c.in_ok-mark.ensures.mark.stands (each_left (Stays (g.S.Store.at c.args.store.now) (g.S.Store.holds c.mark.new.self) (g.S.Store.at c.mark.new.self)) inner outer stay))
    (callers_stay (g.S.Store.at c.args.store.now) (g.S.Store.holds c.mark.new.self) (g.S.Store.at c.mark.new.self) c.args.run.now.operands.callers (reverse c.args.run.now.callers.items) (each_right (Stays (g.S.Store.at c.args.store.now) (g.S.Store.holds c.mark.new.self) (g.S.Store.at c.mark.new.self)) inner outer stay))
    c.mark.ensures.tables

pub returns-clause-outer : goal.returns-clause-outer
returns-clause-outer g c = λ m h a.
    let o = outer_new (g.S.Store.holds c.args.store.now) (g.S.Store.at c.args.store.now) (g.S.Store.holds c.mark.new.self) (g.S.Store.at c.mark.new.self) (g.S.Store.marks c.args.store.now) (g.S.Store.tables c.args.store.now) (open_marks c.args.run.now) c.in_ok-mark.mark
    c.mark.ensures.keeps (g.met.S.Store.below c.args.store.now) c.in_ok-mark.ensures.mark m h a in (
      o.0,
      subst (λ (x : List Mark). Encloses x m)
          (sym (marks_pushed c.args.context c.in_ok-mark.mark c.args.run.now.running.frames.items c.push.new.self.items (marks_of (reverse c.args.run.now.callers.items)) c.in_default.ensures.items)) o.1,
    )
