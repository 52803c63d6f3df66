use Rattle.std.proofs.Common.{◌*◌, [], List, length, subst, ◌∙◌}
use Rattle.psm_value.specs.declared.datum.Datum.{Datum}
use Rattle.psm_code.specs.Plans.{in_rows, put_in}
use Rattle.psm_code.specs.Steps.{pops}
use Rattle.psm_unwind.specs.View.{machine_of}
use Rattle.psm_machine.specs.ActResults.{Evaluates}
use Rattle.psm_machine.proofs.ActSequences.{stopped}
use Rattle.psm_machine.proofs.putting.put_operands.Goals as goal

pub returns-in_err-values-clause-expected : goal.returns-in_err-values-clause-expected
returns-in_err-values-clause-expected g c = λ at.
    let old = g.S.Store.tables c.args.store.now in
    let width = length c.args.columns.now in
    stopped (pops (c.args.rows * width) [] (machine_of old at c.args.run.now)) (λ ds. put_in c.args.code.now c.args.table c.args.columns.now (in_rows c.args.rows width ds)) (machine_of old at c.take_values.new.run)
    c.in_err-values.field-0.0 c.from_residual.result c.from_residual.ensures.1 (c.in_err-values.ensures.expected old at)

pub returns-clause-expected : goal.returns-clause-expected
returns-clause-expected g c = λ at.
    let old = g.S.Store.tables c.args.store.now in
    let new = g.S.Store.tables c.put_in.new.store in
    rw (c.in_ok-values.ensures.expected old at)
    (subst (λ (rows : List (List Datum)). Evaluates (put_in c.args.code.now c.args.table c.args.columns.now rows (machine_of old at c.take_values.new.run)) c.put_in.result (machine_of new at c.put_in.new.run))
    (c.items.ensures ∙ c.in_ok-new.ensures) (c.put_in.ensures.expected at))
