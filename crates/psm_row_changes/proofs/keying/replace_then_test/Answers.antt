use Rattle.std.proofs.Common.{◌≡◌, ◌&&◌, List, None, true, sym, subst, ◌∙◌}
use Rattle.std.specs.Prelude.{All, IfOk, IfSome, slice_get, slice_set}
use Rattle.std.specs.List.{list_all}
use Rattle.psm_value.specs.declared.datum.Datum.{Datum}
use Rattle.psm_table.specs.Keyed.{rows_in, IsKeyOf}
use Rattle.psm_table.specs.Table.{Contents}
use Rattle.psm_row_changes.specs.KeyTests.{holds_late, IsSought, Matched, IsDecided}
use Rattle.psm_row_changes.specs.Rows.{fit_in, with_rows, without_keys}
use Rattle.psm_row_changes.proofs.Effects.{there}
use Rattle.psm_row_changes.proofs.KeyTesting.{defs_after, rows_after, decided, tested}
use Rattle.psm_row_changes.proofs.Putting.{with_rows-def}
use Rattle.psm_row_changes.proofs.keying.replace_then_test.Goals as goal

pub hold_late-requires-clause-constraints : goal.hold_late-requires-clause-constraints
hold_late-requires-clause-constraints g c =
    subst (λ defs. All (IsKeyOf defs) c.args.constraints.now)
    (sym (defs_after (λ x. with_rows c.args.rows.items (without_keys c.args.keys.now x)) (λ x. with_rows-def c.args.rows.items (without_keys c.args.keys.now x))
    (g.S.Store.tables c.args.store.now) (g.S.Store.tables c.replace_each.new.store) c.args.t (c.in_ok-replace_each.ensures.tables c.if-not-branch.false))) c.requires.constraints

pub hold_late-requires-clause-sought : goal.hold_late-requires-clause-sought
hold_late-requires-clause-sought g c =
    let old : List Contents = g.S.Store.tables c.args.store.now in
    let new : List Contents = g.S.Store.tables c.replace_each.new.store in
    let t : Contents = c.table.result.now.contents in
    let keys : List (List Datum) = c.args.keys.now in
    let rows : List (List Datum) = c.args.rows.items in
    let fit : fit_in rows (without_keys keys t) ≡ true =
    sym (there (λ x. c.in_ok-replace_each.field-0 ≡ fit_in rows (without_keys keys x)) (slice_get old c.args.t) t c.table.ensures c.in_ok-replace_each.ensures.answer) ∙ c.if-not-branch.false in
    let sought = subst (λ (l : List (List Datum)). Matched (IsSought old c.args.t keys l) c.args.constraints.now c.in_ok-sought.sought) c.as_slice.ensures.value c.in_ok-sought.ensures in
    subst (λ l. Matched (IsDecided c.args.t c.is_empty-adds.result (rows_in new)) c.args.constraints.now l) (sym c.items.ensures)
    (subst (λ adds. Matched (IsDecided c.args.t adds (rows_in new)) c.args.constraints.now c.in_ok-sought.sought) (sym c.is_empty-adds.ensures)
    (decided c.args.constraints.now old c.args.t t c.table.ensures c.ascends.ensures c.requires.lawful keys rows new
    (rows_after (λ x. with_rows rows (without_keys keys x)) (λ x. with_rows-def rows (without_keys keys x)) old new c.args.t (c.in_ok-replace_each.ensures.tables c.if-not-branch.false) t c.table.ensures)
    fit c.in_ok-sought.sought sought))

pub returns-clause-answer : goal.returns-clause-answer
returns-clause-answer g c =
    let old : List Contents = g.S.Store.tables c.args.store.now in
    let keys = c.args.keys.now in
    let rows = c.args.rows.items in
    let fit = subst (λ b. IfSome (slice_get old c.args.t) (λ x. b ≡ fit_in rows (without_keys keys x))) c.if-not-branch.false c.in_ok-replace_each.ensures.answer in
    subst (λ adds. IfSome (slice_get old c.args.t) (λ x. IfOk c.hold_late.result (λ b. b ≡ (fit_in rows (without_keys keys x) && list_all (holds_late c.args.t None adds (slice_set (rows_in old) c.args.t (with_rows rows (without_keys keys x)).rows)) c.args.constraints.now)))) c.is_empty-adds.ensures
    (tested (λ x. with_rows rows (without_keys keys x)) (λ x. with_rows-def rows (without_keys keys x)) old (g.S.Store.tables c.replace_each.new.store) c.args.t (c.in_ok-replace_each.ensures.tables c.if-not-branch.false)
    c.is_empty-adds.result c.args.constraints.now (λ x. fit_in rows (without_keys keys x)) c.hold_late.result c.hold_late.ensures fit)
