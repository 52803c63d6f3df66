use Rattle.std.proofs.Common.{◌≡◌, Bool, ◌+◌, ◌≤◌, ◌++◌, [], List, length, arith, Some, Ok, Err, refl, ap, sym, subst, ◌∙◌}
use Rattle.std.specs.Prelude.{IfSome, codes, slice_get}
use Rattle.psm_value.specs.declared.datum.Datum.{Datum}
use Rattle.psm_table.specs.Changing.{counting, ended, in_order, rows_pass, IsLegal}
use Rattle.psm_table.specs.Keyed.{are_keyed_with, rows_in}
use Rattle.psm_table.specs.Table.{most_rows, Contents}
use Rattle.psm_tablecode.specs.Codes.{over}
use Rattle.psm_dml.specs.Ends.{schema_of, schema_with, Bears, Ends, Passes}
use Rattle.psm_row_changes.specs.KeyTests.{replaces}
use Rattle.psm_row_changes.specs.Rows.{changed_if, with_rows, without_keys}
use Rattle.psm_row_changes.proofs.Effects.{there}
use Rattle.psm_dml.proofs.Finished.{finished_broken, finished_fault, finished_ok}
use Rattle.psm_row_changes.proofs.Leftover.{ascending-all}
use Rattle.psm_dml.proofs.ending.finish.Goals as goal

pub returns-in-Err-clause-answer : goal.returns-in-Err-clause-answer
returns-in-Err-clause-answer g c =
    let old : List Contents = g.S.Store.tables c.args.store.now in
    let among : List (List Datum) → Bool = are_keyed_with c.args.constraints.now (rows_in old) c.args.t in
    let t : Contents = c.table.result.now.contents in
    let keys : List (List Datum) = c.args.keys.now in
    let rows : List (List Datum) = c.args.rows.items in
    let legal = there (λ x. IsLegal (over []) (schema_of x.def c.args.checks.now) (without_keys keys x).rows) (slice_get old c.args.t) t c.table.ensures c.requires.legal in
    let few = there (λ x. length (without_keys keys x).rows + length rows ≤ most_rows) (slice_get old c.args.t) t c.table.ensures c.requires.takes.few in
    finished_fault c.args.checks.now among t keys rows legal few old _ c.args.t c.table.ensures c.in-Err.fault
    (subst (λ (l : List (List Datum)). Passes t.def (rows_pass (over []) c.args.checks.now (in_order t.def.key l)) (Err c.in-Err.fault)) c.as_slice.ensures.value c.in-Err.ensures.passes) refl

pub returns-then-branch-clause-answer : goal.returns-then-branch-clause-answer
returns-then-branch-clause-answer g c =
    let old : List Contents = g.S.Store.tables c.args.store.now in
    let among : List (List Datum) → Bool = are_keyed_with c.args.constraints.now (rows_in old) c.args.t in
    let t : Contents = c.table.result.now.contents in
    let keys : List (List Datum) = c.args.keys.now in
    let rows : List (List Datum) = c.args.rows.items in
    let legal = there (λ x. IsLegal (over []) (schema_of x.def c.args.checks.now) (without_keys keys x).rows) (slice_get old c.args.t) t c.table.ensures c.requires.legal in
    let few = there (λ x. length (without_keys keys x).rows + length rows ≤ most_rows) (slice_get old c.args.t) t c.table.ensures c.requires.takes.few in
    let pass = ap (λ (l : List (List Datum)). rows_pass (over []) c.args.checks.now (in_order t.def.key l)) (sym c.as_slice.ensures.value) ∙ c.in-Ok.ensures.passes in
    let up = ascending-all t.def.key keys t.rows c.in-Ok.ensures.table.ascend in
    let fit = there (λ x. c.in_ok-replace_keyed.field-0 ≡ replaces c.args.constraints.now old c.args.t keys rows x) (slice_get old c.args.t) t c.table.ensures c.in_ok-replace_keyed.ensures.answer in
    let done = subst (λ b. g.S.Store.tables c.replace_keyed.new.store ≡ changed_if (Ok b) (λ x. with_rows rows (without_keys keys x)) old c.args.t) c.if-branch.true c.in_ok-replace_keyed.ensures.tables in
    subst (λ n. IfSome (slice_get old c.args.t) (λ x. Ends x (counting (length rows) (ended (over []) (schema_with among x.def c.args.checks.now) ((without_keys keys x).rows ++ rows))) old c.args.t (g.S.Store.tables c.replace_keyed.new.store) (Ok n))) (let count : length rows ≡ c.len-count.result = omega (arith, c.len-count.ensures, c.as_slice.ensures.len, ap length c.as_slice.ensures.value) in count)
    (finished_ok c.args.checks.now among t keys rows legal few old (g.S.Store.tables c.replace_keyed.new.store) c.args.t c.table.ensures up pass (sym c.if-branch.true ∙ fit) done)

pub returns-else-branch-clause-answer : goal.returns-else-branch-clause-answer
returns-else-branch-clause-answer g c =
    let old : List Contents = g.S.Store.tables c.args.store.now in
    let among : List (List Datum) → Bool = are_keyed_with c.args.constraints.now (rows_in old) c.args.t in
    let t : Contents = c.table.result.now.contents in
    let keys : List (List Datum) = c.args.keys.now in
    let rows : List (List Datum) = c.args.rows.items in
    let legal = there (λ x. IsLegal (over []) (schema_of x.def c.args.checks.now) (without_keys keys x).rows) (slice_get old c.args.t) t c.table.ensures c.requires.legal in
    let few = there (λ x. length (without_keys keys x).rows + length rows ≤ most_rows) (slice_get old c.args.t) t c.table.ensures c.requires.takes.few in
    let pass = ap (λ (l : List (List Datum)). rows_pass (over []) c.args.checks.now (in_order t.def.key l)) (sym c.as_slice.ensures.value) ∙ c.in-Ok.ensures.passes in
    let up = ascending-all t.def.key keys t.rows c.in-Ok.ensures.table.ascend in
    let fit = there (λ x. c.in_ok-replace_keyed.field-0 ≡ replaces c.args.constraints.now old c.args.t keys rows x) (slice_get old c.args.t) t c.table.ensures c.in_ok-replace_keyed.ensures.answer in
    let stays : g.S.Store.tables c.replace_keyed.new.store ≡ old =
    subst (λ b. g.S.Store.tables c.replace_keyed.new.store ≡ changed_if (Ok b) (λ x. with_rows rows (without_keys keys x)) old c.args.t) c.if-branch.false c.in_ok-replace_keyed.ensures.tables in
    let same : Some c.table-else-branch.result.now.contents ≡ Some t = sym c.table-else-branch.ensures ∙ ap (λ (l : List Contents). slice_get l c.args.t) stays ∙ c.table.ensures in
    let bears : Bears (codes "23000") t.def c.violated.result = subst (λ (x : Contents). Bears (codes "23000") x.def c.violated.result) (let e : c.table-else-branch.result.now.contents ≡ t = cc in e) c.violated.ensures in
    finished_broken c.args.checks.now among t keys rows legal few old (g.S.Store.tables c.replace_keyed.new.store) c.args.t c.table.ensures up pass c.violated.result (sym c.if-branch.false ∙ fit) bears stays
