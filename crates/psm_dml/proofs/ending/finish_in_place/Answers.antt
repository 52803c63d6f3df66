use Rattle.std.proofs.Common.{◌≡◌, Bool, ◌++◌, [], List, length, arith, Some, Ok, Err, refl, ap, sym, subst, ◌∙◌}
use Rattle.std.specs.Prelude.{All, IfSome, codes, slice_get}
use Rattle.psm_value.specs.declared.datum.Datum.{Datum}
use Rattle.psm_table.specs.Changing.{counting, ended, in_order, rows_pass, IsLegal}
use Rattle.psm_table.specs.Keyed.{are_keyed_with, rows_in}
use Rattle.psm_table.specs.Table.{Contents}
use Rattle.psm_tablecode.specs.Codes.{over}
use Rattle.psm_dml.specs.Ends.{schema_of, schema_with, Bears, Ends, Passes}
use Rattle.psm_row_changes.specs.KeyTests.{changes_all}
use Rattle.psm_row_changes.specs.Rows.{changed_if, keys_of_rows, with_rows, without_keys, AreInPlace, IsWhole}
use Rattle.psm_row_changes.proofs.Effects.{there}
use Rattle.psm_dml.proofs.Finished.{finished_broken, finished_fault, finished_ok}
use Rattle.psm_row_changes.proofs.Leftover.{ascending-all}
use Rattle.psm_dml.proofs.Placed.{by_own_keys, placed_tables}
use Rattle.psm_row_changes.proofs.Places.{in_place_may}
use Rattle.psm_dml.proofs.ending.finish_in_place.Goals as goal

pub check-requires-clause-rows : goal.check-requires-clause-rows
check-requires-clause-rows g c =
    let t : Contents = c.table.result.now.contents in
    let places : AreInPlace t c.args.made.items = there (λ x. AreInPlace x c.args.made.items) (slice_get (g.S.Store.tables c.args.store.now) c.args.t) t c.table.ensures c.requires.places in
    subst (λ (l : List (List Datum)). All (IsWhole t.def) l) (sym c.as_slice.ensures.value)
    (λ k d l. let fit = places.fit k d l in record { long = fit.long; families = fit.families })

pub returns-in-Err-clause-answer : goal.returns-in-Err-clause-answer
returns-in-Err-clause-answer g c =
    let old : List Contents = g.S.Store.tables c.args.store.now in
    let among : List (List Datum) → Bool = are_keyed_with c.args.constraints.now (rows_in old) c.args.t in
    let t : Contents = c.table.result.now.contents in
    let rows : List (List Datum) = c.args.made.items in
    let keys : List (List Datum) = keys_of_rows t.def rows in
    let places : AreInPlace t rows = there (λ x. AreInPlace x rows) (slice_get old c.args.t) t c.table.ensures c.requires.places in
    let legal = there (λ x. IsLegal (over []) (schema_of x.def c.args.checks.now) (without_keys (keys_of_rows x.def rows) x).rows) (slice_get old c.args.t) t c.table.ensures c.requires.legal in
    by_own_keys c.args.checks.now among rows old old c.args.t t c.table.ensures (Err c.in-Err.fault)
    (finished_fault c.args.checks.now among t keys rows legal places.few old old c.args.t c.table.ensures c.in-Err.fault
    (subst (λ (l : List (List Datum)). Passes t.def (rows_pass (over []) c.args.checks.now (in_order t.def.key l)) (Err c.in-Err.fault)) c.as_slice.ensures.value c.in-Err.ensures.passes) refl)

pub returns-then-branch-clause-answer : goal.returns-then-branch-clause-answer
returns-then-branch-clause-answer g c =
    let old : List Contents = g.S.Store.tables c.args.store.now in
    let among : List (List Datum) → Bool = are_keyed_with c.args.constraints.now (rows_in old) c.args.t in
    let new : List Contents = g.S.Store.tables c.change_keyed.new.store in
    let t : Contents = c.table.result.now.contents in
    let rows : List (List Datum) = c.args.made.items in
    let keys : List (List Datum) = keys_of_rows t.def rows in
    let places : AreInPlace t rows = there (λ x. AreInPlace x rows) (slice_get old c.args.t) t c.table.ensures c.requires.places in
    let legal = there (λ x. IsLegal (over []) (schema_of x.def c.args.checks.now) (without_keys (keys_of_rows x.def rows) x).rows) (slice_get old c.args.t) t c.table.ensures c.requires.legal in
    let pass = ap (λ (l : List (List Datum)). rows_pass (over []) c.args.checks.now (in_order t.def.key l)) (sym c.as_slice.ensures.value) ∙ c.in-Ok.ensures.passes in
    let up = ascending-all t.def.key keys t.rows c.in-Ok.ensures.table.ascend in
    let fit = there (λ x. c.in_ok-change_keyed.field-0 ≡ changes_all c.args.constraints.now old c.args.t rows x) (slice_get old c.args.t) t c.table.ensures c.in_ok-change_keyed.ensures.answer in
    let done = subst (λ b. new ≡ changed_if (Ok b) (with_rows rows) old c.args.t) c.if-branch.true c.in_ok-change_keyed.ensures.tables in
    subst (λ n. IfSome (slice_get old c.args.t) (λ x. Ends x (counting (length rows) (ended (over []) (schema_with among x.def c.args.checks.now) ((without_keys (keys_of_rows x.def rows) x).rows ++ rows))) old c.args.t new (Ok n))) (let count : length rows ≡ c.len-count.result = omega (arith, c.len-count.ensures, c.as_slice.ensures.len, ap length c.as_slice.ensures.value) in count)
    (by_own_keys c.args.checks.now among rows old new c.args.t t c.table.ensures (Ok (length rows))
    (finished_ok c.args.checks.now among t keys rows legal places.few old new c.args.t c.table.ensures up pass
    (sym c.if-branch.true ∙ fit ∙ sym (in_place_may among rows t places c.in-Ok.ensures.table.ascend legal.rules))
    (placed_tables rows old new c.args.t t c.table.ensures places.ascend done)))

pub returns-else-branch-clause-answer : goal.returns-else-branch-clause-answer
returns-else-branch-clause-answer g c =
    let old : List Contents = g.S.Store.tables c.args.store.now in
    let among : List (List Datum) → Bool = are_keyed_with c.args.constraints.now (rows_in old) c.args.t in
    let new : List Contents = g.S.Store.tables c.change_keyed.new.store in
    let t : Contents = c.table.result.now.contents in
    let rows : List (List Datum) = c.args.made.items in
    let keys : List (List Datum) = keys_of_rows t.def rows in
    let places : AreInPlace t rows = there (λ x. AreInPlace x rows) (slice_get old c.args.t) t c.table.ensures c.requires.places in
    let legal = there (λ x. IsLegal (over []) (schema_of x.def c.args.checks.now) (without_keys (keys_of_rows x.def rows) x).rows) (slice_get old c.args.t) t c.table.ensures c.requires.legal in
    let pass = ap (λ (l : List (List Datum)). rows_pass (over []) c.args.checks.now (in_order t.def.key l)) (sym c.as_slice.ensures.value) ∙ c.in-Ok.ensures.passes in
    let up = ascending-all t.def.key keys t.rows c.in-Ok.ensures.table.ascend in
    let fit = there (λ x. c.in_ok-change_keyed.field-0 ≡ changes_all c.args.constraints.now old c.args.t rows x) (slice_get old c.args.t) t c.table.ensures c.in_ok-change_keyed.ensures.answer in
    let stays : new ≡ old = subst (λ b. new ≡ changed_if (Ok b) (with_rows rows) old c.args.t) c.if-branch.false c.in_ok-change_keyed.ensures.tables in
    let same : Some c.table-else-branch.result.now.contents ≡ Some t = sym c.table-else-branch.ensures ∙ ap (λ (l : List Contents). slice_get l c.args.t) stays ∙ c.table.ensures in
    let bears : Bears (codes "23000") t.def c.violated.result = subst (λ (x : Contents). Bears (codes "23000") x.def c.violated.result) (let e : c.table-else-branch.result.now.contents ≡ t = cc in e) c.violated.ensures in
    by_own_keys c.args.checks.now among rows old new c.args.t t c.table.ensures (Err c.violated.result)
    (finished_broken c.args.checks.now among t keys rows legal places.few old new c.args.t c.table.ensures up pass c.violated.result
    (sym c.if-branch.false ∙ fit ∙ sym (in_place_may among rows t places c.in-Ok.ensures.table.ascend legal.rules)) bears stays)
