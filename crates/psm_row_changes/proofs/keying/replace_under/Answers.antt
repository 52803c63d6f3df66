use Rattle.std.proofs.Common.{◌≡◌, List, None, true, false, ap, sym, ◌∙◌}
use Rattle.std.specs.Prelude.{slice_get}
use Rattle.std.specs.List.{list_all, list_any}
use Rattle.psm_value.specs.declared.datum.Datum.{Datum}
use Rattle.psm_table.specs.Keyed.{rows_in}
use Rattle.psm_table.specs.Table.{Contents}
use Rattle.psm_row_changes.specs.KeyTests.{adds_only, is_late, refers_early, replaces, replaces_late}
use Rattle.psm_row_changes.specs.Rows.{fit_in, without_keys}
use Rattle.psm_row_changes.proofs.Effects.{said}
use Rattle.psm_row_changes.proofs.KeyTesting.{for_test, replaced_early, replaced_late, replaced_out}
use Rattle.psm_row_changes.proofs.keying.replace_under.Goals as goal

pub returns-then-not-branch-clause-answer : goal.returns-then-not-branch-clause-answer
returns-then-not-branch-clause-answer g c =
    let old : List Contents = g.S.Store.tables c.args.store.now in
    let out : list_all (refers_early (rows_in old) c.args.t None c.args.rows.items) c.args.constraints.now ≡ false =
    ap (λ (rows : List (List Datum)). list_all (refers_early (rows_in old) c.args.t None rows) c.args.constraints.now) (sym c.as_slice.ensures.value) ∙ sym c.in_ok-refer_early.ensures ∙ c.if-not-branch.true in
    said (λ x. false ≡ replaces c.args.constraints.now old c.args.t c.args.keys.now c.args.rows.items x) (slice_get old c.args.t) c.table.result.now.contents c.table.ensures
    (replaced_out c.args.constraints.now old c.args.t c.table.result.now.contents c.table.ensures c.ascends.ensures c.requires.lawful c.args.keys.now c.args.rows.items out)

pub returns-then-is_any_late-clause-answer : goal.returns-then-is_any_late-clause-answer
returns-then-is_any_late-clause-answer g c =
    let old : List Contents = g.S.Store.tables c.args.store.now in
    let out : list_all (refers_early (rows_in old) c.args.t None c.args.rows.items) c.args.constraints.now ≡ true =
    ap (λ (rows : List (List Datum)). list_all (refers_early (rows_in old) c.args.t None rows) c.args.constraints.now) (sym c.as_slice.ensures.value) ∙ sym c.in_ok-refer_early.ensures ∙ c.if-not-branch.false in
    for_test (replaces_late c.args.constraints.now old c.args.t c.args.keys.now c.args.rows.items) (replaces c.args.constraints.now old c.args.t c.args.keys.now c.args.rows.items) c.replace_tested.result
    old c.args.t c.table.result.now.contents c.table.ensures
    (replaced_late c.args.constraints.now old c.args.t c.table.result.now.contents c.table.ensures c.ascends.ensures c.requires.lawful c.args.keys.now c.args.rows.items out)
    c.replace_tested.ensures.answer

pub returns-else-is_any_late-clause-answer : goal.returns-else-is_any_late-clause-answer
returns-else-is_any_late-clause-answer g c =
    let old : List Contents = g.S.Store.tables c.args.store.now in
    let out : list_all (refers_early (rows_in old) c.args.t None c.args.rows.items) c.args.constraints.now ≡ true =
    ap (λ (rows : List (List Datum)). list_all (refers_early (rows_in old) c.args.t None rows) c.args.constraints.now) (sym c.as_slice.ensures.value) ∙ sym c.in_ok-refer_early.ensures ∙ c.if-not-branch.false in
    let none : list_any (is_late c.args.t None (adds_only c.args.keys.now)) c.args.constraints.now ≡ false =
    ap (λ adds. list_any (is_late c.args.t None adds) c.args.constraints.now) (sym c.is_empty.ensures) ∙ sym c.is_any_late.ensures ∙ c.if-is_any_late.false in
    for_test (λ x. fit_in c.args.rows.items (without_keys c.args.keys.now x)) (replaces c.args.constraints.now old c.args.t c.args.keys.now c.args.rows.items) c.replace_rows.result
    old c.args.t c.table.result.now.contents c.table.ensures
    (replaced_early c.args.constraints.now old c.args.t c.table.result.now.contents c.table.ensures c.ascends.ensures c.requires.lawful c.args.keys.now c.args.rows.items out none)
    c.replace_rows.ensures.answer
