use Rattle.psm_unwind.specs.View.{machine_of}
use Rattle.psm_machine.proofs.ActSequences.{stopped}
use Rattle.psm_machine.proofs.Numbering.{item_then}
use Rattle.psm_machine.proofs.entries.current_item.Goals as goal

pub returns-in_err-number-clause-expected : goal.returns-in_err-number-clause-expected
returns-in_err-number-clause-expected c = λ tables at. stopped _ _ _ c.in_err-number.field-0.0 c.from_residual.result c.from_residual.ensures.1 (c.in_err-number.ensures.expected tables at)

pub returns-in_err-value-clause-expected : goal.returns-in_err-value-clause-expected
returns-in_err-value-clause-expected c = λ tables at.
    rw (item_then c.args.item (machine_of tables at c.args.run.now) (machine_of tables at c.pop.new.run) c.in_ok-number.number (c.in_ok-number.ensures.expected tables at))
    (stopped _ _ _ c.in_err-value.field-0.0 c.from_residual-in_err-value.result c.from_residual-in_err-value.ensures.1 (c.in_err-value.ensures (machine_of tables at c.pop.new.run)))

pub returns-clause-expected : goal.returns-clause-expected
returns-clause-expected c = λ tables at.
    rw (item_then c.args.item (machine_of tables at c.args.run.now) (machine_of tables at c.pop.new.run) c.in_ok-number.number (c.in_ok-number.ensures.expected tables at))
    (rw (c.in_ok-value.ensures (machine_of tables at c.pop.new.run)) (c.put.ensures.expected tables at))
