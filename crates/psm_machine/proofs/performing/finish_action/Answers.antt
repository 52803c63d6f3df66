use Rattle.psm_code.specs.Run.{end_action}
use Rattle.psm_unwind.specs.View.{machine_of}
use Rattle.psm_machine.proofs.Doing.{goes_to, stopped_successor}
use Rattle.psm_machine.proofs.performing.finish_action.Goals as goal

pub returns-in_err-next-clause-expected : goal.returns-in_err-next-clause-expected
returns-in_err-next-clause-expected c = λ tables at.
    stopped_successor (end_action c.args.routine.now c.args.number (machine_of tables at c.args.run.now)) c.in_err-next.field-0.0 (machine_of tables at c.end_action.new.run) c.from_residual.result c.from_residual.ensures.1 (c.in_err-next.ensures.expected tables at)

pub returns-clause-expected : goal.returns-clause-expected
returns-clause-expected c = λ tables at.
    goes_to (end_action c.args.routine.now c.args.number (machine_of tables at c.args.run.now)) c.in_ok-next.next (machine_of tables at c.end_action.new.run) (machine_of tables at c.go.new.run) c.go.result (c.in_ok-next.ensures.expected tables at) (c.go.ensures.expected tables at)
