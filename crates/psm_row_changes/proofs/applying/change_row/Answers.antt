use Rattle.std.proofs.Common.{◌≡◌, false, sym, subst, ◌∙◌}
use Rattle.std.specs.Prelude.{IfOk, IfSome, IsSome, slice_get}
use Rattle.psm_table.specs.Key.{row_order}
use Rattle.psm_table.specs.Table.{namesake, with_row, without_row, Contents}
use Rattle.psm_store.specs.RowCalls.{AnswersFound}
use Rattle.std.specs.declared.cmp.Ordering.TheVariants.{Equal}
use Rattle.psm_row_changes.specs.Rows.{fits_in}
use Rattle.psm_row_changes.proofs.Effects.{changed_row_at, there}
use Rattle.psm_row_changes.proofs.InPlace.{changed_answer, changed_fits}
use Rattle.psm_row_changes.proofs.Refusing.{done_tables}
use Rattle.psm_row_changes.proofs.applying.change_row.Goals as goal

pub returns-then-not-may_go_in-clause-answer : goal.returns-then-not-may_go_in-clause-answer
returns-then-not-may_go_in-clause-answer g c =
    let t : Contents = c.table.result.now.contents in
    let same = there (λ x. IsSome (namesake x c.args.row) × (row_order x.def.key c.args.key.now c.args.row ≡ Equal)) (slice_get (g.S.Store.tables c.args.store.now) c.args.t) t c.table.ensures c.requires.same in
    subst (λ o. IfSome o (λ x. false ≡ fits_in c.args.row (without_row c.args.key.now x))) (sym c.table.ensures)
    (sym (sym (changed_fits c.args.row c.args.key.now t same.1) ∙ sym c.may_go_in.ensures ∙ c.if-not-may_go_in.true))

pub returns-clause-answer : goal.returns-clause-answer
returns-clause-answer g c =
    let t : Contents = c.table.result.now.contents in
    let same = there (λ x. IsSome (namesake x c.args.row) × (row_order x.def.key c.args.key.now c.args.row ≡ Equal)) (slice_get (g.S.Store.tables c.args.store.now) c.args.t) t c.table.ensures c.requires.same in
    let found = there (λ x. AnswersFound (namesake x c.args.row) c.change-answer.result) (slice_get (g.S.Store.tables c.args.store.now) c.args.t) t c.table.ensures c.change-answer.ensures.answer in
    subst (λ o. IfSome o (λ x. IfOk c.is_done.result (λ b. b ≡ fits_in c.args.row (without_row c.args.key.now x)))) (sym c.table.ensures)
    (subst (λ q. IfOk q (λ b. b ≡ fits_in c.args.row (without_row c.args.key.now t))) (sym c.is_done.ensures)
    (changed_answer c.args.row c.args.key.now t same.1 c.change-answer.result same.0 found
    (sym (changed_fits c.args.row c.args.key.now t same.1) ∙ sym c.may_go_in.ensures ∙ c.if-not-may_go_in.false)))

pub returns-clause-tables : goal.returns-clause-tables
returns-clause-tables g c =
    let t : Contents = c.table.result.now.contents in
    let same = there (λ x. IsSome (namesake x c.args.row) × (row_order x.def.key c.args.key.now c.args.row ≡ Equal)) (slice_get (g.S.Store.tables c.args.store.now) c.args.t) t c.table.ensures c.requires.same in
    done_tables (λ x. with_row x c.args.row) c.change-answer.result c.is_done.result (g.S.Store.tables c.args.store.now) (g.S.Store.tables c.change-answer.new.self) c.args.t c.is_done.ensures c.change-answer.ensures.tables
    ∙ changed_row_at c.args.row c.args.key.now c.is_done.result (g.S.Store.tables c.args.store.now) c.args.t t c.table.ensures same.1
