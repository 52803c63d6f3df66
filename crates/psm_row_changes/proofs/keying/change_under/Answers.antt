use Rattle.std.proofs.Common.{◌≡◌, ℕ, List, Some, true, false, ap, sym, subst, ◌∙◌}
use Rattle.std.specs.Prelude.{slice_get}
use Rattle.std.specs.List.{list_all, list_any}
use Rattle.psm_value.specs.declared.datum.Datum.{Datum}
use Rattle.psm_table.specs.declared.definition.TableDef.{TableDef}
use Rattle.psm_table.specs.Changing.{is_filled, keep_rules}
use Rattle.psm_table.specs.Keyed.{rows_in}
use Rattle.psm_table.specs.Table.{Contents}
use Rattle.psm_row_changes.specs.KeyTests.{changes_all, is_late, refers_early, replaces_late}
use Rattle.psm_row_changes.specs.Rows.{changed_if, keys_of_rows, with_rows, without_keys, AreInPlace, TakesRows}
use Rattle.psm_row_changes.proofs.Effects.{said, there}
use Rattle.psm_row_changes.proofs.KeyTesting.{changed_anew, changed_early, changed_out, for_test, tables_in_place, taken_in_place}
use Rattle.psm_row_changes.proofs.keying.change_under.Goals as goal

pub returns-then-not-branch-clause-answer : goal.returns-then-not-branch-clause-answer
returns-then-not-branch-clause-answer g c =
    let old : List Contents = g.S.Store.tables c.args.store.now in
    let t : Contents = c.table-table.result.now.contents in
    let rows : List (List Datum) = c.args.rows.items in
    let places = there (λ x. AreInPlace x rows) (slice_get old c.args.t) t c.table-table.ensures c.requires.places in
    let rules = there (λ x. keep_rules x.def (without_keys (keys_of_rows x.def rows) x).rows ≡ true) (slice_get old c.args.t) t c.table-table.ensures c.requires.rules in
    let own : c.items-own.result.now ≡ t.def.key = c.items-own.ensures ∙ ap (λ (d : TableDef). d.key) c.def.ensures.value in
    let early : list_all (refers_early (rows_in old) c.args.t (Some t.def.key) rows) c.args.constraints.now ≡ false =
    ap (λ (k : List ℕ). list_all (refers_early (rows_in old) c.args.t (Some k) rows) c.args.constraints.now) (sym own)
    ∙ ap (λ (l : List (List Datum)). list_all (refers_early (rows_in old) c.args.t (Some c.items-own.result.now) l) c.args.constraints.now) (sym c.as_slice.ensures.value) ∙ sym c.in_ok-refer_early.ensures ∙ c.if-not-branch.true in
    said (λ x. false ≡ changes_all c.args.constraints.now old c.args.t rows x) (slice_get old c.args.t) t c.table-table.ensures
    (changed_out c.args.constraints.now old c.args.t t c.table-table.ensures c.ascends.ensures c.requires.lawful rows places rules early)

pub returns-then-not-is_any_late-clause-answer : goal.returns-then-not-is_any_late-clause-answer
returns-then-not-is_any_late-clause-answer g c =
    let old : List Contents = g.S.Store.tables c.args.store.now in
    let t : Contents = c.table-table.result.now.contents in
    let rows : List (List Datum) = c.args.rows.items in
    let places = there (λ x. AreInPlace x rows) (slice_get old c.args.t) t c.table-table.ensures c.requires.places in
    let rules = there (λ x. keep_rules x.def (without_keys (keys_of_rows x.def rows) x).rows ≡ true) (slice_get old c.args.t) t c.table-table.ensures c.requires.rules in
    let own : c.items-own.result.now ≡ t.def.key = c.items-own.ensures ∙ ap (λ (d : TableDef). d.key) c.def.ensures.value in
    let early : list_all (refers_early (rows_in old) c.args.t (Some t.def.key) rows) c.args.constraints.now ≡ true =
    ap (λ (k : List ℕ). list_all (refers_early (rows_in old) c.args.t (Some k) rows) c.args.constraints.now) (sym own)
    ∙ ap (λ (l : List (List Datum)). list_all (refers_early (rows_in old) c.args.t (Some c.items-own.result.now) l) c.args.constraints.now) (sym c.as_slice.ensures.value) ∙ sym c.in_ok-refer_early.ensures ∙ c.if-not-branch.false in
    let none : list_any (is_late c.args.t (Some t.def.key) false) c.args.constraints.now ≡ false =
    ap (λ (k : List ℕ). list_any (is_late c.args.t (Some k) false) c.args.constraints.now) (sym own) ∙ sym c.is_any_late.ensures ∙ c.if-not-is_any_late.true in
    for_test (λ x. list_all (is_filled x.def) rows) (changes_all c.args.constraints.now old c.args.t rows) c.change_rows.result old c.args.t t c.table-table.ensures
    (changed_early c.args.constraints.now old c.args.t t c.table-table.ensures c.ascends.ensures c.requires.lawful rows places rules early none)
    c.change_rows.ensures.answer

pub replace_tested-requires-clause-takes : goal.replace_tested-requires-clause-takes
replace_tested-requires-clause-takes g c =
    let old : List Contents = g.S.Store.tables c.args.store.now in
    let t : Contents = c.table-table.result.now.contents in
    let rows : List (List Datum) = c.args.rows.items in
    let places = there (λ x. AreInPlace x rows) (slice_get old c.args.t) t c.table-table.ensures c.requires.places in
    let keys : c.items.result.now ≡ keys_of_rows t.def rows = c.items.ensures ∙ c.in_ok-keys.ensures.keys ∙ ap (keys_of_rows t.def) c.as_slice-2.ensures.value in
    subst (λ (ks : List (List Datum)). TakesRows old c.args.t ks rows) (sym keys) (taken_in_place old c.args.t t c.table-table.ensures c.requires.exists rows places)

pub returns-clause-answer : goal.returns-clause-answer
returns-clause-answer g c =
    let old : List Contents = g.S.Store.tables c.args.store.now in
    let t : Contents = c.table-table.result.now.contents in
    let rows : List (List Datum) = c.args.rows.items in
    let places = there (λ x. AreInPlace x rows) (slice_get old c.args.t) t c.table-table.ensures c.requires.places in
    let rules = there (λ x. keep_rules x.def (without_keys (keys_of_rows x.def rows) x).rows ≡ true) (slice_get old c.args.t) t c.table-table.ensures c.requires.rules in
    let own : c.items-own.result.now ≡ t.def.key = c.items-own.ensures ∙ ap (λ (d : TableDef). d.key) c.def.ensures.value in
    let early : list_all (refers_early (rows_in old) c.args.t (Some t.def.key) rows) c.args.constraints.now ≡ true =
    ap (λ (k : List ℕ). list_all (refers_early (rows_in old) c.args.t (Some k) rows) c.args.constraints.now) (sym own)
    ∙ ap (λ (l : List (List Datum)). list_all (refers_early (rows_in old) c.args.t (Some c.items-own.result.now) l) c.args.constraints.now) (sym c.as_slice.ensures.value) ∙ sym c.in_ok-refer_early.ensures ∙ c.if-not-branch.false in
    let keys : c.items.result.now ≡ keys_of_rows t.def rows = c.items.ensures ∙ c.in_ok-keys.ensures.keys ∙ ap (keys_of_rows t.def) c.as_slice-2.ensures.value in
    for_test (replaces_late c.args.constraints.now old c.args.t c.items.result.now rows) (changes_all c.args.constraints.now old c.args.t rows) c.replace_tested.result old c.args.t t c.table-table.ensures
    (ap (λ (ks : List (List Datum)). replaces_late c.args.constraints.now old c.args.t ks rows t) keys
    ∙ changed_anew c.args.constraints.now old c.args.t t c.table-table.ensures c.ascends.ensures c.requires.lawful rows places rules early)
    c.replace_tested.ensures.answer

pub returns-clause-tables : goal.returns-clause-tables
returns-clause-tables g c =
    let old : List Contents = g.S.Store.tables c.args.store.now in
    let t : Contents = c.table-table.result.now.contents in
    let rows : List (List Datum) = c.args.rows.items in
    let places = there (λ x. AreInPlace x rows) (slice_get old c.args.t) t c.table-table.ensures c.requires.places in
    let keys : c.items.result.now ≡ keys_of_rows t.def rows = c.items.ensures ∙ c.in_ok-keys.ensures.keys ∙ ap (keys_of_rows t.def) c.as_slice-2.ensures.value in
    c.replace_tested.ensures.tables
    ∙ ap (λ (ks : List (List Datum)). changed_if c.replace_tested.result (λ x. with_rows rows (without_keys ks x)) old c.args.t) keys
    ∙ tables_in_place rows old c.args.t t c.table-table.ensures places.ascend c.replace_tested.result
