use Rattle.psm_unwind.specs.View.{machine_of}
use Rattle.psm_machine.proofs.ActSequences.{stopped}
use Rattle.psm_machine.proofs.signalling.resignal_condition.Goals as goal

pub returns-in_err-entry : goal.returns-in_err-entry
returns-in_err-entry c = λ tables at. stopped _ _ _ c.in_err-entry.field-0.0 c.from_residual.result c.from_residual.ensures.1 (c.in_err-entry.ensures (machine_of tables at c.args.run.now))

pub returns : goal.returns
returns c = λ tables at. rw (c.in_ok-entry.ensures (machine_of tables at c.args.run.now)) (c.resignal_with.ensures tables at)
