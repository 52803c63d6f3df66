use Rattle.std.proofs.Common.{◌≡◌, ◌-◌, subst, sym, ap, ◌∙◌, arith}
use Rattle.psm_code.specs.Steps.{pops}
use Rattle.psm_unwind.specs.View.{machine_of}
use Rattle.psm_machine.specs.ActResults.{Evaluates}
use Rattle.psm_machine.proofs.ActSequences.{same_then}
use Rattle.psm_machine.proofs.Filled.{pops_end, pops_next, pops_stop}
use Rattle.psm_machine.proofs.putting.pops.Goals as goal

pub returns-in_err-pop-clause-expected : goal.returns-in_err-pop-clause-expected
returns-in_err-pop-clause-expected c = λ tables at.
    let m = machine_of tables at c.loop-index.run in
    subst (λ came. Evaluates came c.from_residual.result (machine_of tables at c.pop.new.run)) (sym (c.loop-index.invariant.1 tables at))
    (pops_stop c.args.count c.loop-index.index c.loop-index.values.items m (machine_of tables at c.pop.new.run) c.in_err-pop.field-0.0 c.from_residual.result c.loop-index-test.true c.from_residual.ensures.1 (c.in_err-pop.ensures.expected tables at))

pub loop-index-preserved : goal.loop-index-preserved
loop-index-preserved c = (
  same_then c.args.run.now c.loop-index.run c.pop.new.run c.loop-index.invariant.0 c.pop.ensures.same,
  λ tables at.
      c.loop-index.invariant.1 tables at
      ∙ pops_next c.args.count c.loop-index.index c.loop-index.values.items c.push.new.self.items c.in_ok-pop.field-0 (machine_of tables at c.loop-index.run) (machine_of tables at c.pop.new.run) c.loop-index-test.true c.in_ok-push.ensures.items (c.in_ok-pop.ensures.expected tables at),
)

pub returns-clause-expected : goal.returns-clause-expected
returns-clause-expected c = λ tables at.
    let m = machine_of tables at c.loop-index.run in
    let end : c.loop-index.index ≡ c.args.count = omega (arith, c.loop-index-test.false, c.loop-index.auto.index-end) in
    c.loop-index.invariant.1 tables at
    ∙ ap (λ ds. pops (c.args.count - c.loop-index.index) ds m) (sym c.reverse.ensures.items ∙ sym c.of.ensures)
    ∙ pops_end c.args.count c.loop-index.index c.of.result m end
