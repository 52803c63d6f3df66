use Rattle.psm_code.specs.Run.{successor_of}
use Rattle.psm_unwind.specs.View.{machine_of}
use Rattle.psm_machine.proofs.Doing.{leads_stopped}
use Rattle.psm_machine.proofs.successors.go.Goals as goal

pub returns-in_err-go_to-clause-expected : goal.returns-in_err-go_to-clause-expected
returns-in_err-go_to-clause-expected c = λ tables at.
    leads_stopped (successor_of c.args.next) (machine_of tables at c.args.run.now) (machine_of tables at c.go_to.new.run) c.in_err-go_to.field-0.0 c.from_residual.result c.from_residual.ensures.1 (c.in_err-go_to.ensures.expected tables at)
