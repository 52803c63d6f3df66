use Rattle.std.proofs.Common.{ap, sym, subst, ◌∙◌}
use Rattle.std.specs.Option.{option_copied}
use Rattle.psm_code.specs.Querying.{scalar_of}
use Rattle.psm_unwind.specs.View.{machine_of}
use Rattle.psm_machine.specs.ActResults.{Evaluates}
use Rattle.psm_machine.proofs.queries.scalar.Goals as goal

pub returns-clause-expected : goal.returns-clause-expected
returns-clause-expected g c = λ at.
    let tables = g.S.Store.tables c.args.store.now in
    rw (sym c.query_at.ensures ∙ ap option_copied c.in-Some.is, c.in_ok-answer.ensures at)
    (subst (λ rows. Evaluates (scalar_of rows (machine_of tables at c.args.run.now)) c.put_scalar.result (machine_of tables at c.put_scalar.new.run)) c.into_rows.ensures (c.put_scalar.ensures.expected tables at))
