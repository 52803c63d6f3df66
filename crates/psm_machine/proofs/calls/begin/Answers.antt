use Rattle.std.proofs.Common.{subst}
use Rattle.psm_code.specs.Calling.{calling}
use Rattle.psm_code.specs.Steps.{change}
use Rattle.psm_unwind.specs.View.{machine_of}
use Rattle.psm_machine.specs.ActResults.{Evaluates}
use Rattle.psm_machine.proofs.calls.begin.Goals as goal

pub returns-clause-expected : goal.returns-clause-expected
returns-clause-expected c = λ tables at.
    subst (λ a. Evaluates (change (calling a) (machine_of tables at c.args.run.now)) c.go_into.result (machine_of tables at c.go_into.new.run)) (c.in_ok-activation.ensures.expected at) (c.go_into.ensures.expected tables at)
