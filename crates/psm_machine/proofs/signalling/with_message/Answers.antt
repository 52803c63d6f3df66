use Rattle.std.proofs.Common.{ap, sym}
use Rattle.psm_code.specs.Steps.{got}
use Rattle.psm_unwind.specs.View.{machine_of}
use Rattle.psm_machine.proofs.ActSequences.{stopped}
use Rattle.psm_machine.proofs.signalling.with_message.Goals as goal

pub returns-in_err-value-clause-expected : goal.returns-in_err-value-clause-expected
returns-in_err-value-clause-expected c = λ tables at. stopped _ _ _ c.in_err-value.field-0.0 c.from_residual.result c.from_residual.ensures.1 (c.in_err-value.ensures.expected tables at)

pub returns-in_err-message-clause-expected : goal.returns-in_err-message-clause-expected
returns-in_err-message-clause-expected c = λ tables at.
    rw (c.in_ok-value.ensures.expected tables at)
    (stopped _ _ _ c.in_err-message.field-0.0 c.from_residual-in_err-message.result c.from_residual-in_err-message.ensures.1 (c.in_err-message.ensures (machine_of tables at c.pop.new.run)))

pub returns-clause-expected : goal.returns-clause-expected
returns-clause-expected c = λ tables at. rw (c.in_ok-value.ensures.expected tables at, c.in_ok-message.ensures (machine_of tables at c.pop.new.run)) (ap (λ e. got e (machine_of tables at c.pop.new.run)) (sym c.carrying.ensures))
