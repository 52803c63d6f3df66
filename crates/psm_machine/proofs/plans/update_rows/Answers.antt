use Rattle.std.proofs.Common.{List, IfSome, map, slice_get, ap, sym, subst, ◌∙◌}
use Rattle.std.specs.Option.{option_copied}
use Rattle.psm_value.specs.declared.datum.Datum.{Datum}
use Rattle.psm_exprcode.specs.declared.op.Line.{Line}
use Rattle.psm_table.specs.Changing.{updated}
use Rattle.psm_table.specs.Table.{Contents}
use Rattle.psm_tablecode.specs.Codes.{over}
use Rattle.psm_dml.specs.Ends.{keyed_schema, Ends}
use Rattle.psm_code.specs.Plans.{plain, set_item, some_row, update_rows}
use Rattle.psm_unwind.specs.View.{machine_of}
use Rattle.psm_machine.specs.Allowed.{MayChange}
use Rattle.psm_machine.specs.ActResults.{Evaluates}
use Rattle.psm_machine.proofs.Asking.{of_some}
use Rattle.psm_machine.proofs.Counting.{as_err, update_counted, Counted}
use Rattle.psm_machine.proofs.plans.update_rows.Goals as goal

pub update-requires-clause-constraints : goal.update-requires-clause-constraints
update-requires-clause-constraints g c =
    let old : List Contents = g.S.Store.tables c.args.store.now in
    let code = c.args.code.now in
    let may = MayChange code.keys old c.args.table c.args.run.now.running.variables.items c.args.sets.now (option_copied c.args.test) in
    let h = of_some may (slice_get code.tables c.args.table) c.in-Some.declared.now (sym c.table_at.ensures ∙ ap option_copied c.in-Some.is) c.requires.may in
    h.table.keys_there

pub returns-in_err-count-clause-expected : goal.returns-in_err-count-clause-expected
returns-in_err-count-clause-expected g c = λ at.
    let old : List Contents = g.S.Store.tables c.args.store.now in
    let new : List Contents = g.S.Store.tables c.update.new.store in
    let t = c.in-Some.declared.now in
    let n = c.args.table in
    let run = c.args.run.now in
    let sets = c.args.sets.now in
    let test = option_copied c.args.test in
    let vars = run.running.variables.items in
    let here = sym c.table_at.ensures ∙ ap option_copied c.in-Some.is in
    let h = of_some (MayChange c.args.code.now.keys old n vars sets test) (slice_get c.args.code.now.tables n) t here c.requires.may in
    let ruled = subst (λ (checks : List (List Line)). IfSome (slice_get old n) (λ d. Ends d (updated (over c.as_slice-vars.result.now) plain (keyed_schema c.args.code.now.keys old n d.def checks) (map set_item sets) test d.rows) old n new c.update.result)) c.items.ensures c.update.ensures.answer in
    let seen = subst (λ (vs : List Datum). IfSome (slice_get old n) (λ d. Ends d (updated (over vs) plain (keyed_schema c.args.code.now.keys old n d.def t.checks) (map set_item sets) test d.rows) old n new c.update.result)) c.as_slice-vars.ensures.value ruled in
    let counted = subst (λ p. Counted (update_rows c.args.code.now n sets test) some_row old at run new p) (sym c.in_err-count.ensures) (update_counted c.args.code.now n t here old at run new sets test c.update.result h.table seen) in
    subst (λ r. Evaluates (update_rows c.args.code.now n sets test (machine_of old at run)) r (machine_of new at run)) (as_err c.from_residual.result c.in_err-count.field-0.0 c.from_residual.ensures.1) counted

pub returns-clause-expected : goal.returns-clause-expected
returns-clause-expected g c = λ at.
    let old : List Contents = g.S.Store.tables c.args.store.now in
    let new : List Contents = g.S.Store.tables c.update.new.store in
    let t = c.in-Some.declared.now in
    let n = c.args.table in
    let run = c.args.run.now in
    let sets = c.args.sets.now in
    let test = option_copied c.args.test in
    let vars = run.running.variables.items in
    let here = sym c.table_at.ensures ∙ ap option_copied c.in-Some.is in
    let h = of_some (MayChange c.args.code.now.keys old n vars sets test) (slice_get c.args.code.now.tables n) t here c.requires.may in
    let ruled = subst (λ (checks : List (List Line)). IfSome (slice_get old n) (λ d. Ends d (updated (over c.as_slice-vars.result.now) plain (keyed_schema c.args.code.now.keys old n d.def checks) (map set_item sets) test d.rows) old n new c.update.result)) c.items.ensures c.update.ensures.answer in
    let seen = subst (λ (vs : List Datum). IfSome (slice_get old n) (λ d. Ends d (updated (over vs) plain (keyed_schema c.args.code.now.keys old n d.def t.checks) (map set_item sets) test d.rows) old n new c.update.result)) c.as_slice-vars.ensures.value ruled in
    let counted = subst (λ p. Counted (update_rows c.args.code.now n sets test) some_row old at run new p) (sym c.in_ok-count.ensures) (update_counted c.args.code.now n t here old at run new sets test c.update.result h.table seen) in
    let now = machine_of new at (record run { area = c.set_rows.new.self }) in
    subst (λ came. Evaluates came c.some_row.result now) (sym (counted ∙ ap (λ a. some_row c.in_ok-count.count (machine_of new at (record run { area = a }))) (sym c.set_rows.ensures))) (c.some_row.ensures now)
