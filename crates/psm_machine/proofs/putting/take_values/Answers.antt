use Rattle.std.proofs.Common.{◌<◌, ◌*◌, [], refl, subst}
use Rattle.psm_code.specs.Steps.{pops}
use Rattle.psm_unwind.specs.View.{machine_of}
use Rattle.psm_machine.specs.ActResults.{Evaluates}
use Rattle.psm_machine.proofs.Filled.{pops_stuck}
use Rattle.psm_machine.proofs.putting.take_values.Goals as goal

pub returns-then-count-len-clause-expected : goal.returns-then-count-len-clause-expected
returns-then-count-len-clause-expected c = λ tables at.
    let os = c.args.run.now.operands.own in
    let few : c.len.result < c.args.rows * c.args.width = subst (λ n. c.len.result < n * c.args.width) c.from.ensures c.if-count-len.true in
    pops_stuck os (c.args.rows * c.args.width) [] (machine_of tables at c.args.run.now) refl (subst (λ n. n < c.args.rows * c.args.width) c.len.ensures few)

pub returns-clause-expected : goal.returns-clause-expected
returns-clause-expected c = λ tables at.
    subst (λ n. Evaluates (pops (n * c.args.width) [] (machine_of tables at c.args.run.now)) c.pops.result (machine_of tables at c.pops.new.run)) c.from.ensures (c.pops.ensures.expected tables at)
