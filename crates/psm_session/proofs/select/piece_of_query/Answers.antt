use Rattle.std.proofs.Common.{◌≡◌, ◌++◌, [], codes, slice_get, ap, sym, ◌∙◌}
use Rattle.psm_table.specs.Queries.{answer}
use Rattle.psm_table.specs.Table.{Contents}
use Rattle.psm_tablecode.specs.Codes.{over, query_of}
use Rattle.psm_machine.proofs.Asking.{some_of}
use Rattle.psm_meaning.specs.Lines.{first_line}
use Rattle.psm_session.specs.Pieces.{selected_lines}
use Rattle.psm_session.proofs.Inserts.{if_ok_map}
use Rattle.psm_session.proofs.WrittenRows.{found_is}
use Rattle.psm_session.proofs.select.piece_of_query.Goals as goal

pub returns-in-Rows : goal.returns-in-Rows
returns-in-Rows g c =
    let t : Contents = c.table.result.now.contents in
    if_ok_map _ _ c.piece_of_rows.result (λ piece e.
    some_of (λ (x : Contents). piece.items ≡ first_line c.args.number (codes "SELECT") ++ selected_lines (answer (over []) (query_of c.args.query.now) x.rows))
    (slice_get (g.S.Store.tables c.args.store.now) c.args.query.now.table) t c.table.ensures
    (e ∙ ap (λ a. first_line c.args.number (codes "SELECT") ++ selected_lines a) (sym (found_is c.args.query.now _ t.rows c.in-Rows.is)))) c.piece_of_rows.ensures
