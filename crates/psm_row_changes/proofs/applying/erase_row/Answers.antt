use Rattle.std.proofs.Common.{◌≡◌, Some, sym, ◌∙◌, None}
use Rattle.std.specs.Prelude.{slice_get}
use Rattle.psm_table.specs.Table.{keyed, without_row}
use Rattle.psm_row_changes.proofs.Effects.{absent, unchanged}
use Rattle.psm_row_changes.proofs.applying.erase_row.Goals as goal

pub returns-in-Err-Absent-clause-ok : goal.returns-in-Err-Absent-clause-ok
returns-in-Err-Absent-clause-ok g c =
    let here : slice_get (g.S.Store.tables c.args.store.now) c.args.t ≡ Some c.table.result.now.contents = c.table.ensures in
    let none : keyed c.table.result.now.contents c.args.key.now ≡ None = rw here at (rw c.in-Err-Absent.field-0-is at c.in-Err-Absent.ensures.answer) in
    rw c.in-Err-Absent.field-0-is at c.in-Err-Absent.ensures.tables
    ∙ sym (unchanged (without_row c.args.key.now) (g.S.Store.tables c.args.store.now) c.args.t c.table.result.now.contents here (absent c.table.result.now.contents c.args.key.now c.ascends.ensures none))
