use Rattle.std.proofs.Common.{ap, sym, subst, ◌∙◌}
use Rattle.psm_code.specs.Steps.{Came, put_value, put_values}
use Rattle.psm_unwind.specs.View.{machine_of}
use Rattle.psm_machine.specs.ActResults.{Evaluates}
use Rattle.psm_machine.proofs.Asking.{nothing, put_last}
use Rattle.psm_machine.proofs.ActSequences.{same_then, stopped}
use Rattle.psm_machine.proofs.queries.put_values.Goals as goal

pub loop-value-preserved : goal.loop-value-preserved
loop-value-preserved c = (
  same_then c.args.run.now c.loop-value.run c.put.new.run c.loop-value.invariant.0 c.put.ensures.same,
  λ tables at.
      let m = machine_of tables at c.loop-value.run in
      c.loop-value.invariant.1 tables at ∙ ap (λ ds. put_values ds m) c.in-Some.ensures.items ∙ put_last c.pop.new.self.items c.in-Some.value m
      ∙ ap (λ (came : Came (Unit {0})). put_values c.pop.new.self.items came.machine) (c.in_ok-put.ensures.expected tables at),
)

pub returns-in_err-put-clause-expected : goal.returns-in_err-put-clause-expected
returns-in_err-put-clause-expected c = λ tables at.
    let m = machine_of tables at c.loop-value.run in
    let ds = c.pop.new.self.items in
    subst (λ came. Evaluates came c.from_residual.result (machine_of tables at c.put.new.run))
    (sym (c.loop-value.invariant.1 tables at ∙ ap (λ ds. put_values ds m) c.in-Some.ensures.items ∙ put_last ds c.in-Some.value m))
    (stopped {A = Unit {0}} {B = Unit {0}} (put_value c.in-Some.value m) (λ u. put_values ds) (machine_of tables at c.put.new.run) c.in_err-put.field-0.0 c.from_residual.result c.from_residual.ensures.1 (c.in_err-put.ensures.expected tables at))

pub returns-clause-expected : goal.returns-clause-expected
returns-clause-expected c = λ tables at.
    c.loop-value.invariant.1 tables at ∙ ap (λ ds. put_values ds (machine_of tables at c.loop-value.run)) (nothing c.loop-value.values.items (sym c.loop-value.values.ok.0 ∙ c.in_default.ensures.cases.0))
