use Rattle.std.proofs.Common.{◌≡◌, [], ◌++◌, ◌-◌, None, drop, reverse, take, refl, ap, sym, ◌∙◌, append-nil}
use Rattle.psm_code.specs.State.{cleared}
use Rattle.psm_code.specs.Steps.{Came}
use Rattle.psm_operands.specs.Stacked.{first_of}
use Rattle.psm_unwind.specs.declared.run.Run.{Run}
use Rattle.psm_unwind.specs.Leaving.{inside}
use Rattle.psm_unwind.specs.Marks.{Unwinds}
use Rattle.psm_unwind.specs.View.{activation_of, callers_of, frames_of, machine_of}
use Rattle.psm_unwind.proofs.Arriving.{all_left}
use Rattle.psm_unwind.proofs.Unwinding.{callers_now, nested_unwound, running_nested, unwinds_frames, unwinds_items, unwinds_same, unwinds_then}
use Rattle.psm_machine.proofs.Leavings.{left_over, left_to, tables_kept, unwinds_back}
use Rattle.psm_machine.proofs.ends.leave.Given.{Over}
use Rattle.psm_machine.proofs.ends.leave.Goals.{After-resume}
use Rattle.psm_machine.proofs.ends.leave.Goals as goal

pub leave_until-requires : goal.leave_until-requires
leave_until-requires g c = running_nested (g.S.Store.holds c.args.store.now) c.args.run.now c.requires

pub returns-in_ok-values-in-None-clause-expected : goal.returns-in_ok-values-in-None-clause-expected
returns-in_ok-values-in-None-clause-expected g c =
    let none : c.pop.new.self.items ≡ [] = c.in-None.ensures.rest ∙ ap (λ n. take (n - 1) c.args.run.now.callers.items) c.in-None.ensures.cases.0 in
    let callers : c.args.run.now.callers.items ≡ [] = c.in-None.ensures.items ∙ ap (λ xs. xs ++ []) none in
    let m = machine_of (g.S.Store.tables c.args.store.now) (g.S.Store.at c.args.store.now) c.args.run.now in
    left_over m (machine_of (g.S.Store.tables c.args.store.now) (g.S.Store.at c.args.store.now) c.clear.new.run)
    c.args.values.items c.in_ok-values-in-None.values (ap (λ xs. callers_of (g.S.Store.at c.args.store.now) c.args.run.now.operands.callers (reverse xs)) callers) (c.in_ok-values-in-None.ensures ∙ c.of.ensures)
    (ap (λ xs. cleared (record m { callers = callers_of (g.S.Store.at c.args.store.now) c.args.run.now.operands.callers (reverse xs) })) (c.in-None.ensures.items ∙ append-nil c.pop.new.self.items)
    ∙ ap (λ (came : Came (Unit {0})). came.machine) (c.clear.ensures.expected (g.S.Store.tables c.args.store.now) (g.S.Store.at c.args.store.now)))

pub returns-in_err-values-in-None-clause-unwinds : goal.returns-in_err-values-in-None-clause-unwinds
returns-in_err-values-in-None-clause-unwinds g c =
    unwinds_items (g.S.Store.holds c.args.store.now) (g.S.Store.at c.args.store.now) (g.S.Store.marks c.args.store.now) (g.S.Store.tables c.args.store.now) c.args.run.now c.pop.new.self c.requires c.in-None.ensures.items

pub returns-in_ok-values-in-None-clause-unwinds : goal.returns-in_ok-values-in-None-clause-unwinds
returns-in_ok-values-in-None-clause-unwinds g c =
    let holds = g.S.Store.holds c.args.store.now in
    let at = g.S.Store.at c.args.store.now in
    let count = g.S.Store.marks c.args.store.now in
    let tables = g.S.Store.tables c.args.store.now in
    let last : Run = record c.args.run.now { callers = c.pop.new.self } in
    let popped = unwinds_items holds at count tables c.args.run.now c.pop.new.self c.requires c.in-None.ensures.items in
    unwinds_then holds at count tables c.args.run.now holds at count tables last holds at count tables c.clear.new.run popped
    (unwinds_same holds at count tables last c.clear.new.run (nested_unwound holds at count tables c.args.run.now holds at count tables last c.requires popped) c.clear.ensures.same)

-- ---- after an activation that had a caller

-- the run once the frames of the activation are left
abbrev bare : (g : Over) → After-resume g → Run
bare g c = let r = c.args.run.now in record r { running = record r.running { cursors = c.leave_until.new.cursors; frames = c.leave_until.new.frames } }

abbrev UnwindsTo : (g : Over) → After-resume g → Run → Type 0
UnwindsTo g c new =
    Unwinds (g.S.Store.holds c.args.store.now) (g.S.Store.at c.args.store.now) (g.S.Store.marks c.args.store.now) (g.S.Store.tables c.args.store.now) c.args.run.now
    (g.S.Store.holds c.leave_until.new.store) (g.S.Store.at c.leave_until.new.store) (g.S.Store.marks c.leave_until.new.store) (g.S.Store.tables c.leave_until.new.store) new

frames_left : (g : Over) (c : After-resume g) → UnwindsTo g c (bare g c)
frames_left g c =
    unwinds_frames (g.S.Store.holds c.args.store.now) (g.S.Store.at c.args.store.now) (g.S.Store.marks c.args.store.now) (g.S.Store.tables c.args.store.now) c.args.run.now
    (g.S.Store.holds c.leave_until.new.store) (g.S.Store.at c.leave_until.new.store) (g.S.Store.marks c.leave_until.new.store) (g.S.Store.tables c.leave_until.new.store) (bare g c)
    c.requires c.leave_until.ensures.leaves c.leave_until.ensures.deepest c.leave_until.ensures.defs refl refl refl

caller_resumed : (g : Over) (c : After-resume g) → UnwindsTo g c c.resume.new.run
caller_resumed g c =
    unwinds_back (g.S.Store.holds c.args.store.now) (g.S.Store.at c.args.store.now) (g.S.Store.marks c.args.store.now) (g.S.Store.tables c.args.store.now) c.args.run.now
    (g.S.Store.holds c.leave_until.new.store) (g.S.Store.at c.leave_until.new.store) (g.S.Store.marks c.leave_until.new.store) (g.S.Store.tables c.leave_until.new.store) (bare g c)
    c.in-Some.caller c.pop.new.self c.end.new.self c.resume.new.run c.requires (frames_left g c)
    (all_left (g.S.Store.at c.leave_until.new.store) c.leave_until.new.frames.items (frames_of (g.S.Store.at c.args.store.now) (reverse c.args.run.now.running.frames.items)) c.leave_until.ensures.frames)
    c.in-Some.ensures.items c.resume.ensures.same

pub returns-in_ok-resume-in-Some-clause-expected : goal.returns-in_ok-resume-in-Some-clause-expected
returns-in_ok-resume-in-Some-clause-expected g c =
    let at0 = g.S.Store.at c.args.store.now in
    let tables0 = g.S.Store.tables c.args.store.now in
    let at1 = g.S.Store.at c.leave_until.new.store in
    let tables1 = g.S.Store.tables c.leave_until.new.store in
    let r = c.args.run.now in
    let x = (goal.at.returns-in_ok-resume-in-Some-clause-expected g c).After-resume in
    left_to (machine_of tables0 at0 r) (machine_of tables1 at1 (record r { running = c.in-Some.caller; callers = c.pop.new.self; operands = c.end.new.self })) (machine_of tables1 at1 c.resume.new.run) c.args.values.items
    (activation_of at1 (first_of r.operands.callers) c.in-Some.caller) (callers_of at1 (drop 1 r.operands.callers) (reverse c.pop.new.self.items)) tables1
    (callers_now (g.S.Store.holds c.args.store.now) at0 (g.S.Store.marks c.args.store.now) tables0 r (g.S.Store.holds c.leave_until.new.store) at1 (g.S.Store.marks c.leave_until.new.store) tables1 (bare g x)
    c.pop.new.self.items c.in-Some.caller (frames_left g x) refl refl c.in-Some.ensures.items)
    (c.leave_until.ensures.tables ∙ tables_kept (inside None (frames_of at0 (reverse r.running.frames.items))) tables0)
    (ap (λ operands. machine_of tables1 at1 (record r { running = c.in-Some.caller; callers = c.pop.new.self; operands = operands })) (sym c.end.ensures)) (c.in_ok-resume-in-Some.ensures.expected tables1 at1)

pub returns-in_ok-resume-in-Some-clause-unwinds : goal.returns-in_ok-resume-in-Some-clause-unwinds
returns-in_ok-resume-in-Some-clause-unwinds g c = caller_resumed g (goal.at.returns-in_ok-resume-in-Some-clause-unwinds g c).After-resume

pub returns-in_err-resume-in-Some-clause-unwinds : goal.returns-in_err-resume-in-Some-clause-unwinds
returns-in_err-resume-in-Some-clause-unwinds g c = caller_resumed g (goal.at.returns-in_err-resume-in-Some-clause-unwinds g c).After-resume
