use Rattle.std.proofs.Common.{ap, sym, subst, ◌∙◌}
use Rattle.std.specs.Option.{option_copied}
use Rattle.psm_exprcode.specs.declared.operand.Operand.TheVariants.{Truth}
use Rattle.psm_exprcode.specs.Comparison.{truth_of}
use Rattle.psm_code.specs.Querying.{is_any}
use Rattle.psm_code.specs.Steps.{put}
use Rattle.psm_unwind.specs.View.{machine_of}
use Rattle.psm_machine.specs.ActResults.{Evaluates}
use Rattle.psm_machine.proofs.queries.exists.Goals as goal

pub returns-clause-expected : goal.returns-clause-expected
returns-clause-expected g c = λ at.
    let tables = g.S.Store.tables c.args.store.now in
    rw (sym c.query_at.ensures ∙ ap option_copied c.in-Some.is, c.in_ok-answer.ensures at)
    (subst (λ t. Evaluates (put (Truth t) (machine_of tables at c.args.run.now)) c.put.result (machine_of tables at c.put.new.run))
    (c.exist.ensures ∙ ap (λ rows. truth_of (is_any rows)) c.rows.ensures) (c.put.ensures.expected tables at))
