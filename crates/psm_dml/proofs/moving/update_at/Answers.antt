use Rattle.std.proofs.Common.{◌≡◌, Bool, true, ℕ, ◌+◌, ◌<◌, ◌≤◌, List, [], ◌∷◌, length, arith, ap, sym, subst, ◌∙◌}
use Rattle.std.specs.Prelude.{All, slice_get}
use Rattle.std.proofs.lemmas.List.Elements.{All-head}
use Rattle.std.proofs.lemmas.Result.{err_from_is_err_and}
use Rattle.psm_value.specs.declared.datum.Datum.{Datum}
use Rattle.psm_table.specs.declared.definition.TableDef.{TableDef}
use Rattle.psm_table.specs.Changing.{IsLegal}
use Rattle.psm_table.specs.Definition.{IsKey}
use Rattle.psm_table.specs.Keyed.{are_keyed_with, rows_in}
use Rattle.psm_table.specs.Table.{most_rows, Contents}
use Rattle.psm_tablecode.specs.Codes.{over}
use Rattle.psm_dml.specs.Ends.{schema_of}
use Rattle.psm_row_changes.specs.Rows.{without_keys, IsWhole}
use Rattle.psm_row_changes.proofs.Effects.{said, there}
use Rattle.psm_dml.proofs.Moved.{move_fault, move_few, move_keys, move_legal, move_whole}
use Rattle.psm_dml.proofs.Updated.{keys_of_changes, rows_of_changes}
use Rattle.psm_dml.proofs.moving.update_at.Goals as goal

pub has_moved-moved-requires-clause-new : goal.has_moved-moved-requires-clause-new
has_moved-moved-requires-clause-new g c =
    let t : Contents = c.table-table.result.now.contents in
    let key : c.items.result.now ≡ t.def.key = c.items.ensures ∙ ap (λ (d : TableDef). d.key) c.def.ensures.value in
    let whole : IsWhole t.def c.in-Ok.change.made = All-head (IsWhole t.def) c.in-Ok.change.made []
    (move_whole c.args.checks.now (λ rows. true) c.args.sets.now c.args.vars.now t c.args.key.now c.in-Some.row.now (sym c.in-Some.ensures.row) c.in-Ok.ensures.table c.in-Ok.change c.in-Ok.ensures.change) in
    subst (λ (ks : List ℕ). All (λ i. i < length c.in-Ok.change.made) ks) (sym key) (λ k d l. omega (arith, c.in-Ok.ensures.table.defined.exist k d l, whole.long))

pub finish-requires-clause-takes : goal.finish-requires-clause-takes
finish-requires-clause-takes g c =
    let t : Contents = c.table-table.result.now.contents in
    let keys : c.as_slice.result.now ≡ c.in-Ok.change.key ∷ [] = c.as_slice.ensures.value ∙ c.in_ok-gone.ensures.keys ∙ ap keys_of_changes c.in_ok-vec.ensures.items in
    let rows : c.in_ok-gone.field-0.rows.items ≡ c.in-Ok.change.made ∷ [] = c.in_ok-gone.ensures.rows ∙ ap rows_of_changes c.in_ok-vec.ensures.items in
    record {
      exists = c.requires.exists;
      fit = said (λ x. All (IsKey x.def) c.as_slice.result.now) (slice_get (g.S.Store.tables c.args.store.now) c.args.t) t c.table-table.ensures
          (subst (λ (ks : List (List Datum)). All (IsKey t.def) ks) (sym keys)
          (move_keys c.args.checks.now (λ rows. true) c.args.sets.now c.args.vars.now t c.args.key.now c.in-Some.row.now (sym c.in-Some.ensures.row) c.in-Ok.ensures.table c.in-Ok.change c.in-Ok.ensures.change));
      whole = said (λ x. All (IsWhole x.def) c.in_ok-gone.field-0.rows.items) (slice_get (g.S.Store.tables c.args.store.now) c.args.t) t c.table-table.ensures
          (subst (λ (rs : List (List Datum)). All (IsWhole t.def) rs) (sym rows)
          (move_whole c.args.checks.now (λ rows. true) c.args.sets.now c.args.vars.now t c.args.key.now c.in-Some.row.now (sym c.in-Some.ensures.row) c.in-Ok.ensures.table c.in-Ok.change c.in-Ok.ensures.change));
      few = said (λ x. length (without_keys c.as_slice.result.now x).rows + length c.in_ok-gone.field-0.rows.items ≤ most_rows) (slice_get (g.S.Store.tables c.args.store.now) c.args.t) t c.table-table.ensures
          (subst (λ (ks : List (List Datum)). length (without_keys ks t).rows + length c.in_ok-gone.field-0.rows.items ≤ most_rows) (sym keys)
          (subst (λ (rs : List (List Datum)). length (without_keys (c.in-Ok.change.key ∷ []) t).rows + length rs ≤ most_rows) (sym rows)
          (move_few c.args.checks.now (λ rows. true) c.args.sets.now c.args.vars.now t c.args.key.now c.in-Some.row.now (sym c.in-Some.ensures.row) c.in-Ok.ensures.table c.in-Ok.change c.in-Ok.ensures.change)));
    }

pub finish-requires-clause-legal : goal.finish-requires-clause-legal
finish-requires-clause-legal g c =
    let t : Contents = c.table-table.result.now.contents in
    let keys : c.as_slice.result.now ≡ c.in-Ok.change.key ∷ [] = c.as_slice.ensures.value ∙ c.in_ok-gone.ensures.keys ∙ ap keys_of_changes c.in_ok-vec.ensures.items in
    let legal = there (λ x. IsLegal (over []) (schema_of x.def c.args.checks.now) x.rows) (slice_get (g.S.Store.tables c.args.store.now) c.args.t) t c.table-table.ensures c.requires.legal in
    said (λ x. IsLegal (over []) (schema_of x.def c.args.checks.now) (without_keys c.as_slice.result.now x).rows) (slice_get (g.S.Store.tables c.args.store.now) c.args.t) t c.table-table.ensures
    (subst (λ (ks : List (List Datum)). IsLegal (over []) (schema_of t.def c.args.checks.now) (without_keys ks t).rows) (sym keys)
    (move_legal c.args.checks.now (λ rows. true) c.args.sets.now c.args.vars.now t c.args.key.now c.in-Some.row.now (sym c.in-Some.ensures.row) c.in-Ok.ensures.table c.in-Ok.change c.in-Ok.ensures.change legal))

pub returns-in_err-finish-clause-answer : goal.returns-in_err-finish-clause-answer
returns-in_err-finish-clause-answer g c =
    let among : List (List Datum) → Bool = are_keyed_with c.args.constraints.now (rows_in (g.S.Store.tables c.args.store.now)) c.args.t in
    let t : Contents = c.table-table.result.now.contents in
    let keys : c.as_slice.result.now ≡ c.in-Ok.change.key ∷ [] = c.as_slice.ensures.value ∙ c.in_ok-gone.ensures.keys ∙ ap keys_of_changes c.in_ok-vec.ensures.items in
    let rows : c.in_ok-gone.field-0.rows.items ≡ c.in-Ok.change.made ∷ [] = c.in_ok-gone.ensures.rows ∙ ap rows_of_changes c.in_ok-vec.ensures.items in
    let p = err_from_is_err_and c.from_residual-in_err-finish.result c.from_residual-in_err-finish.ensures.1 in
    rw (p.1, p.2)
    (move_fault c.args.checks.now among c.args.sets.now c.args.vars.now t c.args.key.now c.in-Some.row.now (sym c.in-Some.ensures.row) c.in-Ok.ensures.table c.in-Ok.change c.in-Ok.ensures.change
    (g.S.Store.tables c.args.store.now) (g.S.Store.tables c.finish.new.store) c.args.t c.table-table.ensures c.as_slice.result.now c.in_ok-gone.field-0.rows.items c.in_err-finish.field-0.0 keys rows c.in_err-finish.ensures.answer)
