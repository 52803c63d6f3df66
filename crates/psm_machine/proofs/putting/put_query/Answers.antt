use Rattle.std.proofs.Common.{◌<◌, List, length, ap, sym, subst, ◌∙◌, arith}
use Rattle.std.specs.Option.{option_copied}
use Rattle.psm_value.specs.declared.datum.Datum.{Datum}
use Rattle.psm_code.specs.Plans.{put_in, some_rows}
use Rattle.psm_code.specs.Steps.{◌>>=◌}
use Rattle.psm_unwind.specs.View.{machine_of}
use Rattle.psm_machine.specs.ActResults.{Evaluates}
use Rattle.psm_machine.proofs.Counting.{some_go}
use Rattle.psm_machine.proofs.putting.put_query.Goals as goal

pub returns-clause-expected : goal.returns-clause-expected
returns-clause-expected g c = λ at.
    let m = machine_of (g.S.Store.tables c.args.store.now) at c.args.run.now in
    let now = machine_of (g.S.Store.tables c.put_in.new.store) at c.put_in.new.run in
    let put = put_in c.args.code.now c.args.table c.args.columns.now in
    let filled : 0 < length c.rows-rows.result.now = grind (arith, c.is_empty.ensures, c.if-is_empty.false) in
    rw (sym c.query_at.ensures ∙ ap option_copied c.in-Some.is, c.in_ok-answer.ensures at)
    (subst (λ (rows : List (List Datum)). Evaluates (◌>>=◌ (some_rows rows) put m) c.put_in.result now) c.rows-rows.ensures
    (subst (λ came. Evaluates came c.put_in.result now) (sym (some_go c.rows-rows.result.now put m filled)) (c.put_in.ensures.expected at)))
