use Rattle.std.proofs.Common.{Err, ap, sym, subst, ◌∙◌}
use Rattle.std.specs.Option.{option_copied}
use Rattle.psm_code.specs.Querying.{only_row, skipping}
use Rattle.psm_unwind.specs.View.{machine_of}
use Rattle.psm_machine.specs.ActResults.{Evaluates}
use Rattle.psm_machine.proofs.ActSequences.{stopped}
use Rattle.psm_machine.proofs.queries.select_row.Goals as goal

pub returns-in_err-row-clause-expected : goal.returns-in_err-row-clause-expected
returns-in_err-row-clause-expected g c = λ at.
    let m = machine_of (g.S.Store.tables c.args.store.now) at c.args.run.now in
    rw (sym c.query_at.ensures ∙ ap option_copied c.in-Some.is, c.in_ok-answer.ensures at)
    (stopped _ _ _ c.in_err-row.field-0.0 c.from_residual-in_err-row.result c.from_residual-in_err-row.ensures.1
    (subst (λ rows. Evaluates (only_row rows m) (Err c.in_err-row.field-0.0) m) c.into_rows.ensures (c.in_err-row.ensures m)))

pub returns-clause-expected : goal.returns-clause-expected
returns-clause-expected g c = λ at.
    let tables = g.S.Store.tables c.args.store.now in
    let m = machine_of tables at c.args.run.now in
    rw (
      sym c.query_at.ensures ∙ ap option_copied c.in-Some.is,
      c.in_ok-answer.ensures at,
      ap (λ rows. only_row rows m) (sym c.into_rows.ensures) ∙ c.in_ok-row.ensures m,
      ap (λ b. skipping b m) (sym c.skipped-skipped.ensures) ∙ c.skip.ensures.expected tables at,
    ) (c.put_values.ensures.expected tables at)
