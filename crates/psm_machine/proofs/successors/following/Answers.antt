use Rattle.std.proofs.Common.{subst}
use Rattle.psm_unwind.specs.View.{machine_of}
use Rattle.psm_machine.specs.ActResults.{Evaluates}
use Rattle.psm_machine.proofs.Doing.{goes_after}
use Rattle.psm_machine.proofs.successors.following.Goals as goal

pub returns-in-Ok-clause-expected : goal.returns-in-Ok-clause-expected
returns-in-Ok-clause-expected c = λ tables at came h.
    let m = machine_of tables at c.args.run.now in
    goes_after came c.in-Ok.field-0 m (machine_of tables at c.fall_through.new.run) c.fall_through.result (subst (λ r. Evaluates came r m) c.in-Ok.is h) (c.fall_through.ensures.expected tables at)
