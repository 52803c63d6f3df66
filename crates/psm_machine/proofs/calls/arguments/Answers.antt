use Rattle.std.proofs.Common.{[], length, reverse, ap, sym, ◌∙◌, arith}
use Rattle.std.proofs.lemmas.List.{drop_all}
use Rattle.psm_code.specs.Parts.{taking}
use Rattle.psm_code.specs.Steps.{pops}
use Rattle.psm_unwind.specs.View.{machine_of}
use Rattle.psm_machine.proofs.Arguments.{passed_by, seen, taken_next, taken_stops}
use Rattle.psm_machine.proofs.ActSequences.{same_then}
use Rattle.psm_machine.proofs.calls.arguments.Goals.{then-takes+in_ok-pop+in_ok-push, else-takes}
use Rattle.psm_machine.proofs.calls.arguments.Goals as goal

pub returns-in_err-pop-clause-expected : goal.returns-in_err-pop-clause-expected
returns-in_err-pop-clause-expected c = λ tables at.
    rw (c.loop-parameter.invariant.expected tables at)
    (seen _ _ _ c.in_err-pop.field-0.0 c.from_residual.result c.from_residual.ensures.1
    (taken_stops c.args.parameters.now c.loop-parameter.parameter-index c.parameter-item.result (reverse c.loop-parameter.arguments.items) (machine_of tables at c.loop-parameter.run) (machine_of tables at c.pop.new.run) c.in_err-pop.field-0.0
    (omega (arith, c.loop-parameter-test.true)) c.parameter-item.is (sym c.takes.ensures ∙ c.if-takes.true) (c.in_err-pop.ensures.expected tables at)))

pub loop-parameter-preserved : goal.loop-parameter-preserved
loop-parameter-preserved c = elim c.if-takes.branch [
  | then-takes+in_ok-pop+in_ok-push w ↦ record {
    expected = λ tables at.
        rw (w.run-is, w.arguments-is)
        (taken_next c.args.parameters.now c.loop-parameter.parameter-index c.parameter-item.result c.loop-parameter.arguments.items w.push.new.self.items w.in_ok-pop.field-0 (machine_of tables at c.loop-parameter.run) (machine_of tables at w.pop.new.run)
        (pops (length (taking c.args.parameters.now)) [] (machine_of tables at c.args.run.now)) (omega (arith, c.loop-parameter-test.true)) c.parameter-item.is (sym c.takes.ensures ∙ w.if-takes.true)
        (w.in_ok-pop.ensures.expected tables at) w.in_ok-push.ensures.items (c.loop-parameter.invariant.expected tables at));
    same = rw w.run-is (same_then c.args.run.now c.loop-parameter.run w.pop.new.run c.loop-parameter.invariant.same w.in_ok-pop.ensures.same);
  }
  | else-takes w ↦ record {
    expected = λ tables at.
        rw (w.run-is, w.arguments-is)
        (passed_by c.args.parameters.now c.loop-parameter.parameter-index c.parameter-item.result (reverse c.loop-parameter.arguments.items) (machine_of tables at c.loop-parameter.run)
        (pops (length (taking c.args.parameters.now)) [] (machine_of tables at c.args.run.now)) (omega (arith, c.loop-parameter-test.true)) c.parameter-item.is (sym c.takes.ensures ∙ w.if-takes.false) (c.loop-parameter.invariant.expected tables at));
    same = rw w.run-is c.loop-parameter.invariant.same;
  }
]

pub returns-clause-expected : goal.returns-clause-expected
returns-clause-expected c = λ tables at.
    c.loop-parameter.invariant.expected tables at
    ∙ ap (λ qs. pops (length (taking qs)) (reverse c.loop-parameter.arguments.items) (machine_of tables at c.loop-parameter.run)) (drop_all c.loop-parameter.parameter-index c.args.parameters.now (omega (arith, c.loop-parameter-test.false)))
