use Rattle.std.proofs.Common.{◌≡◌, ap, sym}
use Rattle.psm_unwind.specs.View.{machine_of}
use Rattle.psm_code.specs.Signalling.{signal_message}
use Rattle.psm_code.specs.Steps.{raises}
use Rattle.psm_machine.proofs.Acting.{raising_comes}
use Rattle.psm_machine.proofs.ActSequences.{stopped}
use Rattle.psm_machine.proofs.signalling.signal_message.Goals as goal

pub returns-in_err-entry-clause-expected : goal.returns-in_err-entry-clause-expected
returns-in_err-entry-clause-expected c = λ tables at. stopped _ _ _ c.in_err-entry.field-0.0 c.from_residual.result c.from_residual.ensures.1 (c.in_err-entry.ensures (machine_of tables at c.args.run.now))

pub returns-in_err-entry-2-clause-expected : goal.returns-in_err-entry-2-clause-expected
returns-in_err-entry-2-clause-expected c = λ tables at.
    rw (c.in_ok-entry.ensures (machine_of tables at c.args.run.now))
    (stopped _ _ _ c.in_err-entry-2.field-0.0 c.from_residual-in_err-entry-2.result c.from_residual-in_err-entry-2.ensures.1 (c.in_err-entry-2.ensures.expected tables at))

pub returns-clause-expected : goal.returns-clause-expected
returns-clause-expected c = λ tables at.
    let now = machine_of tables at c.with_message.new.run in
    let is : signal_message c.args.routine.now c.args.number (machine_of tables at c.args.run.now) ≡ raises c.of.result now =
    rw (c.in_ok-entry.ensures (machine_of tables at c.args.run.now), c.in_ok-entry-2.ensures.expected tables at) (ap (λ e. raises e now) (sym c.of.ensures)) in
    raising_comes _ _ c.of.result now c.stop_with.result is c.stop_with.ensures
