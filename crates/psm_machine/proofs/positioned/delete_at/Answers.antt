use Rattle.std.proofs.Common.{true, List, ap, sym, subst, ◌∙◌}
use Rattle.std.specs.Option.{option_copied}
use Rattle.psm_table.specs.Table.{Contents}
use Rattle.psm_code.specs.Plans.{delete_at, leave_row}
use Rattle.psm_unwind.specs.View.{machine_of}
use Rattle.psm_machine.specs.Allowed.{MayEraseAt}
use Rattle.psm_machine.specs.ActResults.{Evaluates}
use Rattle.psm_machine.proofs.Counting.{as_err}
use Rattle.psm_machine.proofs.Positions.{erases, gone_by, may_at, Moves}
use Rattle.psm_machine.proofs.positioned.delete_at.Goals as goal

pub delete_at-requires-clause-constraints : goal.delete_at-requires-clause-constraints
delete_at-requires-clause-constraints g c =
    let old : List Contents = g.S.Store.tables c.args.store.now in
    let code = c.args.code.now in
    let r = c.args.routine.now in
    let n = c.args.number in
    let run = c.args.run.now in
    let q = c.in-Some-query_at.query.now in
    let cursor = c.in-Some-cursor_at.cursor.now in
    let d = sym c.declared_at.ensures ∙ ap option_copied c.in-Some.is in
    let a = sym c.query_at.ensures ∙ ap option_copied c.in-Some-query_at.is in
    let b = sym c.table_at.ensures ∙ ap option_copied c.in-Some-table_at.is in
    let s = sym c.cursor_at.ensures ∙ ap option_copied c.in-Some-cursor_at.is in
    let may = may_at (λ n c. MayEraseAt code.keys old n c) code r run.running.cursors.items n c.in-Some.declared.now q c.in-Some-table_at._declared.now cursor d a b s c.requires.may in
    may.table.keys_there

pub returns-in_err-part_of-clause-expected : goal.returns-in_err-part_of-clause-expected
returns-in_err-part_of-clause-expected g c = λ at.
    let old : List Contents = g.S.Store.tables c.args.store.now in
    let new : List Contents = g.S.Store.tables c.delete_at.new.store in
    let code = c.args.code.now in
    let r = c.args.routine.now in
    let run = c.args.run.now in
    let n = c.args.number in
    let x = c.in-Some.declared.now in
    let q = c.in-Some-query_at.query.now in
    let t = c.table-table.result.now.contents in
    let y = c.in-Some-table_at._declared.now in
    let cursor = c.in-Some-cursor_at.cursor.now in
    let d = sym c.declared_at.ensures ∙ ap option_copied c.in-Some.is in
    let a = sym c.query_at.ensures ∙ ap option_copied c.in-Some-query_at.is in
    let b = sym c.table_at.ensures ∙ ap option_copied c.in-Some-table_at.is in
    let s = sym c.cursor_at.ensures ∙ ap option_copied c.in-Some-cursor_at.is in
    let may = may_at (λ n c. MayEraseAt code.keys old n c) code r run.running.cursors.items n x q y cursor d a b s c.requires.may in
    let done = erases code r n x q y cursor t c.in_ok-key.key c.in-Some-current.row.now old new at run c.delete_at.result d a b may.table c.table-table.ensures s
    (sym c.current.ensures.row ∙ ap option_copied c.in-Some-current.is) c.in_ok-key.ensures.value c.delete_at.ensures.answer in
    let stopped = subst (λ p. Moves (delete_at code r n) n cursor old at run new (gone_by p)) (sym c.in_err-part_of.ensures) done in
    subst (λ p. Evaluates (delete_at code r n (machine_of old at run)) p (machine_of new at run)) (as_err c.from_residual-in_err-part_of.result c.in_err-part_of.field-0.0 c.from_residual-in_err-part_of.ensures.1) stopped

pub returns-clause-expected : goal.returns-clause-expected
returns-clause-expected g c = λ at.
    let old : List Contents = g.S.Store.tables c.args.store.now in
    let new : List Contents = g.S.Store.tables c.delete_at.new.store in
    let code = c.args.code.now in
    let r = c.args.routine.now in
    let run = c.args.run.now in
    let n = c.args.number in
    let x = c.in-Some.declared.now in
    let q = c.in-Some-query_at.query.now in
    let t = c.table-table.result.now.contents in
    let y = c.in-Some-table_at._declared.now in
    let cursor = c.in-Some-cursor_at.cursor.now in
    let d = sym c.declared_at.ensures ∙ ap option_copied c.in-Some.is in
    let a = sym c.query_at.ensures ∙ ap option_copied c.in-Some-query_at.is in
    let b = sym c.table_at.ensures ∙ ap option_copied c.in-Some-table_at.is in
    let s = sym c.cursor_at.ensures ∙ ap option_copied c.in-Some-cursor_at.is in
    let may = may_at (λ n c. MayEraseAt code.keys old n c) code r run.running.cursors.items n x q y cursor d a b s c.requires.may in
    let done = erases code r n x q y cursor t c.in_ok-key.key c.in-Some-current.row.now old new at run c.delete_at.result d a b may.table c.table-table.ensures s
    (sym c.current.ensures.row ∙ ap option_copied c.in-Some-current.is) c.in_ok-key.ensures.value c.delete_at.ensures.answer in
    subst (λ p. Moves (delete_at code r n) n cursor old at run new (gone_by p)) (sym c.in_ok-part_of.ensures) done
    ∙ ap (λ area. leave_row true n cursor (machine_of new at (record run { area = area }))) (sym c.set_rows.ensures)
    ∙ c.leave_row.ensures.expected cursor s new at
