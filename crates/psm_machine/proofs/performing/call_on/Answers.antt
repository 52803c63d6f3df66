use Rattle.psm_code.specs.Calling.{call}
use Rattle.psm_code.specs.Run.{here}
use Rattle.psm_code.specs.Steps.{got}
use Rattle.psm_unwind.specs.View.{machine_of}
use Rattle.psm_machine.proofs.Doing.{goes_here}
use Rattle.psm_machine.proofs.Leavings.{stopped_turns}
use Rattle.psm_machine.proofs.performing.call_on.Goals as goal

pub returns-in_err-call-clause-expected : goal.returns-in_err-call-clause-expected
returns-in_err-call-clause-expected c = λ tables at.
    stopped_turns (call c.args.code.now c.args.number (machine_of tables at c.args.run.now)) (λ x. got here) (machine_of tables at c.call.new.run) c.in_err-call.field-0.0 c.from_residual.result c.from_residual.ensures.1 (c.in_err-call.ensures.expected tables at)

pub returns-clause-expected : goal.returns-clause-expected
returns-clause-expected c = λ tables at. goes_here (call c.args.code.now c.args.number (machine_of tables at c.args.run.now)) c.in_ok-call.field-0 (machine_of tables at c.call.new.run) (c.in_ok-call.ensures.expected tables at)
