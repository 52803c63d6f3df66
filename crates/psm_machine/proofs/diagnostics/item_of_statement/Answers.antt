use Rattle.psm_unwind.specs.View.{machine_of}
use Rattle.psm_machine.proofs.ActSequences.{stopped}
use Rattle.psm_machine.proofs.StackedArea.{statement_then}
use Rattle.psm_machine.proofs.diagnostics.item_of_statement.Goals as goal

pub returns-in_err-value-clause-expected : goal.returns-in_err-value-clause-expected
returns-in_err-value-clause-expected c = λ tables at.
    rw (statement_then c.args.area c.args.item (machine_of tables at c.args.run.now))
    (stopped _ _ _ c.in_err-value.field-0.0 c.from_residual.result c.from_residual.ensures.1 (c.in_err-value.ensures tables at))

pub returns-clause-expected : goal.returns-clause-expected
returns-clause-expected c = λ tables at.
    rw (statement_then c.args.area c.args.item (machine_of tables at c.args.run.now)) (rw (c.in_ok-value.ensures tables at) (c.put.ensures.expected tables at))
