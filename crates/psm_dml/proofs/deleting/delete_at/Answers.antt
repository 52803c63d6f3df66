use Rattle.std.proofs.Common.{◌≡◌, Bool, List, true, false, Some, Ok, Err, ap, sym, subst, ◌∙◌}
use Rattle.std.specs.Prelude.{codes, slice_get}
use Rattle.psm_value.specs.declared.datum.Datum.{Datum}
use Rattle.psm_table.specs.Keyed.{are_keyed_with, rows_in}
use Rattle.psm_table.specs.Table.{without_row, Contents}
use Rattle.psm_dml.specs.Ends.{Bears, ErasesByRules}
use Rattle.psm_row_changes.specs.Rows.{changed_if, without_keys}
use Rattle.psm_dml.proofs.Erased.{erased_done, erased_fails}
use Rattle.psm_row_changes.proofs.Effects.{said, there}
use Rattle.psm_dml.proofs.deleting.delete_at.Goals as goal

pub returns-then-branch-clause-answer : goal.returns-then-branch-clause-answer
returns-then-branch-clause-answer g c =
    let t : Contents = c.table.result.now.contents in
    let old : List Contents = g.S.Store.tables c.args.store.now in
    let new : List Contents = g.S.Store.tables c.erase_keyed.new.store in
    let among : List (List Datum) → Bool = are_keyed_with c.args.constraints.now (rows_in old) c.args.t in
    let asked = there (λ x. c.in_ok-erase_keyed.field-0 ≡ among (without_keys c.from_ref.result.now x).rows) (slice_get old c.args.t) t c.table.ensures c.in_ok-erase_keyed.ensures.answer in
    let held : true ≡ among (without_row c.args.key.now t).rows = sym c.if-branch.true ∙ asked ∙ ap (λ ks. among (without_keys ks t).rows) c.from_ref.ensures.value in
    let done = subst (λ b. new ≡ changed_if (Ok b) (without_keys c.from_ref.result.now) old c.args.t) c.if-branch.true c.in_ok-erase_keyed.ensures.tables
    ∙ ap (λ ks. changed_if (Ok true) (without_keys ks) old c.args.t) c.from_ref.ensures.value in
    said (ErasesByRules c.args.constraints.now c.args.key.now old c.args.t new (Ok tt)) (slice_get old c.args.t) t c.table.ensures
    (erased_done c.args.constraints.now c.args.key.now old new c.args.t t c.table.ensures c.ascends.ensures held done)

pub returns-else-branch-clause-answer : goal.returns-else-branch-clause-answer
returns-else-branch-clause-answer g c =
    let t : Contents = c.table.result.now.contents in
    let old : List Contents = g.S.Store.tables c.args.store.now in
    let new : List Contents = g.S.Store.tables c.erase_keyed.new.store in
    let among : List (List Datum) → Bool = are_keyed_with c.args.constraints.now (rows_in old) c.args.t in
    let asked = there (λ x. c.in_ok-erase_keyed.field-0 ≡ among (without_keys c.from_ref.result.now x).rows) (slice_get old c.args.t) t c.table.ensures c.in_ok-erase_keyed.ensures.answer in
    let broken : false ≡ among (without_row c.args.key.now t).rows = sym c.if-branch.false ∙ asked ∙ ap (λ ks. among (without_keys ks t).rows) c.from_ref.ensures.value in
    let stays : new ≡ old = subst (λ b. new ≡ changed_if (Ok b) (without_keys c.from_ref.result.now) old c.args.t) c.if-branch.false c.in_ok-erase_keyed.ensures.tables in
    let same : Some c.table-else-branch.result.now.contents ≡ Some t = sym c.table-else-branch.ensures ∙ ap (λ (l : List Contents). slice_get l c.args.t) stays ∙ c.table.ensures in
    let bears : Bears (codes "23000") t.def c.violated.result = subst (λ (x : Contents). Bears (codes "23000") x.def c.violated.result) (let e : c.table-else-branch.result.now.contents ≡ t = cc in e) c.violated.ensures in
    said (ErasesByRules c.args.constraints.now c.args.key.now old c.args.t new (Err c.violated.result)) (slice_get old c.args.t) t c.table.ensures
    (erased_fails c.args.constraints.now c.args.key.now old new c.args.t t c.table.ensures c.ascends.ensures c.violated.result broken bears stays)
