use Rattle.std.proofs.Common.{◌≡◌, false, sym, subst, ◌∙◌}
use Rattle.std.specs.Prelude.{IfSome, slice_get}
use Rattle.psm_table.specs.Table.{with_row}
use Rattle.psm_row_changes.specs.Rows.{fits_in}
use Rattle.psm_row_changes.proofs.Refusing.{done_answer, done_tables, refused}
use Rattle.psm_row_changes.proofs.applying.put_row.Goals as goal

pub returns-then-not-may_go_in-clause-answer : goal.returns-then-not-may_go_in-clause-answer
returns-then-not-may_go_in-clause-answer g c =
    subst (λ o. IfSome o (λ x. false ≡ fits_in c.args.row x)) (sym c.table.ensures) (sym (refused c.args.row c.table.result.now.contents (sym c.may_go_in.ensures ∙ c.if-not-may_go_in.true)))

pub returns-clause-answer : goal.returns-clause-answer
returns-clause-answer g c =
    done_answer c.args.row c.table.result.now.contents (slice_get (g.S.Store.tables c.args.store.now) c.args.t) c.insert-answer.result c.is_done.result c.table.ensures
    (sym c.may_go_in.ensures ∙ c.if-not-may_go_in.false) c.requires.few c.insert-answer.ensures.answer c.is_done.ensures

pub returns-clause-tables : goal.returns-clause-tables
returns-clause-tables g c =
    done_tables (λ x. with_row x c.args.row) c.insert-answer.result c.is_done.result (g.S.Store.tables c.args.store.now) (g.S.Store.tables c.insert-answer.new.self) c.args.t c.is_done.ensures c.insert-answer.ensures.tables
