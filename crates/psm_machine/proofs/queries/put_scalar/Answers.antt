use Rattle.std.proofs.Common.{sym, subst, ◌∙◌, ◌≡◌, length, arith}
use Rattle.psm_unwind.specs.View.{machine_of}
use Rattle.psm_machine.specs.ActResults.{Evaluates}
use Rattle.psm_machine.proofs.Asking.{nothing, one_value}
use Rattle.psm_machine.proofs.queries.put_scalar.Goals as goal

pub returns-in-None-clause-expected : goal.returns-in-None-clause-expected
returns-in-None-clause-expected c = λ tables at. rw (nothing c.args.rows.items (sym c.args.rows.ok.0 ∙ c.in-None.ensures.cases.0)) (c.put.ensures.expected tables at)

pub returns-clause-expected : goal.returns-clause-expected
returns-clause-expected c = λ tables at.
    let none : length c.pop.new.self.items ≡ 0 = grind (arith, c.is_empty.ensures, c.if-not-is_empty.false) in
    subst (λ came. Evaluates came c.put-in-Some-first_of.result (machine_of tables at c.put-in-Some-first_of.new.run))
    (sym (one_value c.args.rows.items c.pop.new.self.items c.in-Some.row c.in-Some-first_of.value (machine_of tables at c.args.run.now) c.in-Some.ensures.items none (sym c.in-Some-first_of.ensures)))
    (c.put-in-Some-first_of.ensures.expected tables at)
