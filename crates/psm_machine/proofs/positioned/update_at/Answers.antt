use Rattle.std.proofs.Common.{List, IfSome, map, slice_get, ap, sym, subst, ◌∙◌}
use Rattle.std.specs.Option.{option_copied}
use Rattle.psm_value.specs.declared.datum.Datum.{Datum}
use Rattle.psm_exprcode.specs.declared.op.Line.{Line}
use Rattle.psm_table.specs.Changing.{updated_at as updated_row}
use Rattle.psm_table.specs.Table.{keyed, Contents}
use Rattle.psm_tablecode.specs.Codes.{over}
use Rattle.psm_dml.specs.Ends.{keyed_schema, EndsAtRow}
use Rattle.psm_code.specs.Plans.{leave_row, plain, set_item, update_at}
use Rattle.psm_unwind.specs.View.{machine_of}
use Rattle.psm_machine.specs.Allowed.{MayChangeAt}
use Rattle.psm_machine.specs.ActResults.{Evaluates}
use Rattle.psm_machine.proofs.Counting.{as_err}
use Rattle.psm_machine.proofs.Positions.{may_at, moves, Moves}
use Rattle.psm_machine.proofs.positioned.update_at.Goals as goal

pub update_at-requires-clause-constraints : goal.update_at-requires-clause-constraints
update_at-requires-clause-constraints g c =
    let old : List Contents = g.S.Store.tables c.args.store.now in
    let code = c.args.code.now in
    let r = c.args.routine.now in
    let n = c.args.number in
    let run = c.args.run.now in
    let q = c.in-Some-query_at.query.now in
    let cursor = c.in-Some-cursor_at.cursor.now in
    let d = sym c.declared_at.ensures ∙ ap option_copied c.in-Some.is in
    let a = sym c.query_at.ensures ∙ ap option_copied c.in-Some-query_at.is in
    let b = sym c.table_at.ensures ∙ ap option_copied c.in-Some-table_at.is in
    let s = sym c.cursor_at.ensures ∙ ap option_copied c.in-Some-cursor_at.is in
    let may = may_at (λ n x. MayChangeAt code.keys old n run.running.variables.items c.args.sets.now x) code r run.running.cursors.items n c.in-Some.declared.now q c.in-Some-table_at.table.now cursor d a b s c.requires.may in
    may.table.keys_there

pub returns-in_err-moved-clause-expected : goal.returns-in_err-moved-clause-expected
returns-in_err-moved-clause-expected g c = λ at.
    let old : List Contents = g.S.Store.tables c.args.store.now in
    let new : List Contents = g.S.Store.tables c.update_at.new.store in
    let code = c.args.code.now in
    let r = c.args.routine.now in
    let n = c.args.number in
    let sets = c.args.sets.now in
    let run = c.args.run.now in
    let x = c.in-Some.declared.now in
    let q = c.in-Some-query_at.query.now in
    let t = c.in-Some-table_at.table.now in
    let cursor = c.in-Some-cursor_at.cursor.now in
    let key = c.in-Some-key_on.key.now in
    let d = sym c.declared_at.ensures ∙ ap option_copied c.in-Some.is in
    let a = sym c.query_at.ensures ∙ ap option_copied c.in-Some-query_at.is in
    let b = sym c.table_at.ensures ∙ ap option_copied c.in-Some-table_at.is in
    let s = sym c.cursor_at.ensures ∙ ap option_copied c.in-Some-cursor_at.is in
    let may = may_at (λ n c. MayChangeAt code.keys old n run.running.variables.items sets c) code r run.running.cursors.items n x q t cursor d a b s c.requires.may in
    let ruled = subst (λ (checks : List (List Line)). IfSome (slice_get old q.table) (λ e. EndsAtRow e (λ row. updated_row (over c.as_slice.result.now) plain (keyed_schema code.keys old q.table e.def checks) (map set_item sets) row e.rows) (keyed e key) old q.table new c.update_at.result)) c.items.ensures c.update_at.ensures.answer in
    let seen = subst (λ (vs : List Datum). IfSome (slice_get old q.table) (λ e. EndsAtRow e (λ row. updated_row (over vs) plain (keyed_schema code.keys old q.table e.def t.checks) (map set_item sets) row e.rows) (keyed e key) old q.table new c.update_at.result)) c.as_slice.ensures.value ruled in
    let done = moves code r n sets x q t cursor key c.table.result.now.contents old new at run c.update_at.result d a b may.table s c.table.ensures c.in-Some-key_on.ensures.some c.in-Some-key_on.ensures.row seen in
    let stopped = subst (λ p. Moves (update_at code r n sets) n cursor old at run new p) (sym c.in_err-moved.ensures) done in
    subst (λ p. Evaluates (update_at code r n sets (machine_of old at run)) p (machine_of new at run)) (as_err c.from_residual.result c.in_err-moved.field-0.0 c.from_residual.ensures.1) stopped

pub returns-clause-expected : goal.returns-clause-expected
returns-clause-expected g c = λ at.
    let old : List Contents = g.S.Store.tables c.args.store.now in
    let new : List Contents = g.S.Store.tables c.update_at.new.store in
    let code = c.args.code.now in
    let r = c.args.routine.now in
    let n = c.args.number in
    let sets = c.args.sets.now in
    let run = c.args.run.now in
    let x = c.in-Some.declared.now in
    let q = c.in-Some-query_at.query.now in
    let t = c.in-Some-table_at.table.now in
    let cursor = c.in-Some-cursor_at.cursor.now in
    let key = c.in-Some-key_on.key.now in
    let d = sym c.declared_at.ensures ∙ ap option_copied c.in-Some.is in
    let a = sym c.query_at.ensures ∙ ap option_copied c.in-Some-query_at.is in
    let b = sym c.table_at.ensures ∙ ap option_copied c.in-Some-table_at.is in
    let s = sym c.cursor_at.ensures ∙ ap option_copied c.in-Some-cursor_at.is in
    let may = may_at (λ n c. MayChangeAt code.keys old n run.running.variables.items sets c) code r run.running.cursors.items n x q t cursor d a b s c.requires.may in
    let ruled = subst (λ (checks : List (List Line)). IfSome (slice_get old q.table) (λ e. EndsAtRow e (λ row. updated_row (over c.as_slice.result.now) plain (keyed_schema code.keys old q.table e.def checks) (map set_item sets) row e.rows) (keyed e key) old q.table new c.update_at.result)) c.items.ensures c.update_at.ensures.answer in
    let seen = subst (λ (vs : List Datum). IfSome (slice_get old q.table) (λ e. EndsAtRow e (λ row. updated_row (over vs) plain (keyed_schema code.keys old q.table e.def t.checks) (map set_item sets) row e.rows) (keyed e key) old q.table new c.update_at.result)) c.as_slice.ensures.value ruled in
    let done = moves code r n sets x q t cursor key c.table.result.now.contents old new at run c.update_at.result d a b may.table s c.table.ensures c.in-Some-key_on.ensures.some c.in-Some-key_on.ensures.row seen in
    subst (λ p. Moves (update_at code r n sets) n cursor old at run new p) (sym c.in_ok-moved.ensures) done
    ∙ ap (λ area. leave_row c.in_ok-moved.moved n cursor (machine_of new at (record run { area = area }))) (sym c.set_rows.ensures)
    ∙ c.leave_row.ensures.expected cursor s new at
