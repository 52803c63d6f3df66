use Rattle.psm_unwind.specs.View.{machine_of}
use Rattle.psm_machine.proofs.ActSequences.{stopped}
use Rattle.psm_machine.proofs.signalling.resignal_message.Goals as goal

pub returns-in_err-entry-clause-expected : goal.returns-in_err-entry-clause-expected
returns-in_err-entry-clause-expected c = λ tables at. stopped _ _ _ c.in_err-entry.field-0.0 c.from_residual.result c.from_residual.ensures.1 (c.in_err-entry.ensures (machine_of tables at c.args.run.now))

pub returns-in_err-entry-2-clause-expected : goal.returns-in_err-entry-2-clause-expected
returns-in_err-entry-2-clause-expected c = λ tables at.
    rw (c.in_ok-entry.ensures (machine_of tables at c.args.run.now))
    (stopped _ _ _ c.in_err-entry-2.field-0.0 c.from_residual-in_err-entry-2.result c.from_residual-in_err-entry-2.ensures.1 (c.in_err-entry-2.ensures.expected tables at))

pub returns-clause-expected : goal.returns-clause-expected
returns-clause-expected c = λ tables at. rw (c.in_ok-entry.ensures (machine_of tables at c.args.run.now), c.in_ok-entry-2.ensures.expected tables at) (c.resignal_with.ensures tables at)
