use Rattle.std.proofs.Common.{reverse, ap, sym, ◌∙◌}
use Rattle.std.specs.Option.{option_copied}
use Rattle.psm_unwind.specs.View.{at_end, frames_of, machine_of}
use Rattle.psm_machine.specs.Successors.{resume_of}
use Rattle.psm_machine.proofs.ActionEnds.{act_is, acting, stuck_at_action, stopped_goes}
use Rattle.psm_machine.proofs.actions.end_action.Goals as goal

pub returns-in_default-clause-expected : goal.returns-in_default-clause-expected
returns-in_default-clause-expected c = λ tables at.
    let is_stuck = stuck_at_action c.args.routine.now c.args.number (machine_of tables at c.args.run.now)
    (sym c.in_default.is ∙ c.innermost_resume.ensures at ∙ ap (λ fs. resume_of c.args.number (frames_of at (reverse fs))) c.as_slice.ensures.value) in
    (ap (λ x. x.given) is_stuck, ap (λ x. at_end x.machine) is_stuck)

pub returns-in_err-line-clause-expected : goal.returns-in_err-line-clause-expected
returns-in_err-line-clause-expected c = λ tables at.
    let acts = acting c.args.number c.in-Some.resume (reverse c.args.run.now.running.frames.items)
    (λ at. sym c.in-Some.is ∙ c.innermost_resume.ensures at ∙ ap (λ fs. resume_of c.args.number (frames_of at (reverse fs))) c.as_slice.ensures.value) in
    rw (acts.ended c.args.routine.now at (machine_of tables at c.args.run.now), sym c.handler_at.ensures ∙ ap option_copied c.in-Some-handler_at.is)
    (stopped_goes _ _ _ c.in_err-line.field-0.0 c.from_residual.result c.from_residual.ensures.1 (c.in_err-line.ensures (machine_of tables at c.args.run.now)))

pub leave_action-requires : goal.leave_action-requires
leave_action-requires c =
    (acting c.args.number c.in-Some.resume (reverse c.args.run.now.running.frames.items)
    (λ at. sym c.in-Some.is ∙ c.innermost_resume.ensures at ∙ ap (λ fs. resume_of c.args.number (frames_of at (reverse fs))) c.as_slice.ensures.value)).action

pub returns-clause-expected : goal.returns-clause-expected
returns-clause-expected c = λ tables at.
    let acts = acting c.args.number c.in-Some.resume (reverse c.args.run.now.running.frames.items)
    (λ at. sym c.in-Some.is ∙ c.innermost_resume.ensures at ∙ ap (λ fs. resume_of c.args.number (frames_of at (reverse fs))) c.as_slice.ensures.value) in
    let m = machine_of tables at c.args.run.now in
    acts.ended c.args.routine.now at m
    ∙ act_is c.args.routine.now c.args.number c.in-Some.resume acts.area (frames_of at acts.rest) m (machine_of tables at c.leave_action.new.run) c.in-Some-handler_at.handler.now c.in_ok-line.line
    (sym c.handler_at.ensures ∙ ap option_copied c.in-Some-handler_at.is) (c.in_ok-line.ensures m) (acts.after at m ∙ c.leave_action.ensures.expected tables at)

pub returns-clause-marks : goal.returns-clause-marks
returns-clause-marks c = record { marks = c.leave_action.ensures.marks; bound = c.leave_action.ensures.bound; base = c.leave_action.ensures.base }
