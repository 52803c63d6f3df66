use Rattle.std.proofs.Common.{◌≡◌, Bool, ◌+◌, ◌≤◌, List, length, ap, sym, refl, subst, ◌∙◌}
use Rattle.std.specs.Prelude.{[], All, slice_get}
use Rattle.std.specs.Option.{option_copied}
use Rattle.psm_value.specs.declared.datum.Datum.{Datum}
use Rattle.psm_table.specs.Changing.{IsLegal}
use Rattle.psm_table.specs.Definition.{IsKey}
use Rattle.psm_table.specs.Evaluator.{test_of}
use Rattle.psm_table.specs.Keyed.{are_keyed_with, rows_in}
use Rattle.psm_table.specs.Queries.{walked}
use Rattle.psm_table.specs.Table.{most_rows, Contents}
use Rattle.psm_tablecode.specs.Codes.{over}
use Rattle.psm_dml.specs.Changes.{changing, row_set}
use Rattle.psm_dml.specs.Ends.{schema_of}
use Rattle.psm_row_changes.specs.Rows.{without_keys, IsWhole}
use Rattle.psm_dml.proofs.Answering.{ends_reported, gives_err}
use Rattle.psm_row_changes.proofs.Effects.{said, there}
use Rattle.psm_dml.proofs.Updated.{changed_few, changed_keys, changed_legal, changed_whole, keys_of_changes, row_set_whole, rows_of_changes, update_ends, update_of, update_raises}
use Rattle.psm_dml.proofs.updating.update_anew.Goals as goal

pub returns-in-Err-clause-answer : goal.returns-in-Err-clause-answer
returns-in-Err-clause-answer g c =
    let among : List (List Datum) → Bool = are_keyed_with c.args.constraints.now (rows_in (g.S.Store.tables c.args.store.now)) c.args.t in
    let t : Contents = c.table.result.now.contents in
    ends_reported (g.S.Store.tables c.args.store.now) _ c.args.t t (update_of c.args.checks.now among c.args.sets.now (option_copied c.args.test) c.args.vars.now) c.table.ensures
    c.in-Err.fault c.raised.result
    (λ s e. update_raises c.args.checks.now among c.args.sets.now (option_copied c.args.test) c.args.vars.now t c.in-Err.ensures.table.ascend s
    (gives_err (walked (test_of (over c.args.vars.now) (option_copied c.args.test)) (changing t.def.key (row_set c.args.vars.now t.def c.args.sets.now)) t.rows) c.in-Err.fault s e c.in-Err.ensures.changes))
    c.raised.ensures refl

pub finish-requires-clause-takes : goal.finish-requires-clause-takes
finish-requires-clause-takes g c =
    let t : Contents = c.table.result.now.contents in
    let keys : c.as_slice.result.now ≡ keys_of_changes c.in-Ok.changes = c.as_slice.ensures.value ∙ c.in_ok-gone-in-Ok.ensures.keys ∙ ap keys_of_changes c.into_vec.ensures in
    let rows : c.in_ok-gone-in-Ok.field-0.rows.items ≡ rows_of_changes c.in-Ok.changes = c.in_ok-gone-in-Ok.ensures.rows ∙ ap rows_of_changes c.into_vec.ensures in
    record {
      exists = c.requires.exists;
      fit = said (λ x. All (IsKey x.def) c.as_slice.result.now) (slice_get (g.S.Store.tables c.args.store.now) c.args.t) t c.table.ensures
          (subst (λ (ks : List (List Datum)). All (IsKey t.def) ks) (sym keys)
          (changed_keys c.args.checks.now t (over c.args.vars.now) (option_copied c.args.test) (row_set c.args.vars.now t.def c.args.sets.now) c.in-Ok.ensures.table.ascend c.in-Ok.changes c.in-Ok.ensures.changes c.in-Ok.ensures.table.fit));
      whole = said (λ x. All (IsWhole x.def) c.in_ok-gone-in-Ok.field-0.rows.items) (slice_get (g.S.Store.tables c.args.store.now) c.args.t) t c.table.ensures
          (subst (λ (rs : List (List Datum)). All (IsWhole t.def) rs) (sym rows)
          (changed_whole c.args.checks.now t (over c.args.vars.now) (option_copied c.args.test) (row_set c.args.vars.now t.def c.args.sets.now) c.in-Ok.ensures.table.ascend c.in-Ok.changes c.in-Ok.ensures.changes
          (λ row new p e. row_set_whole t.def c.args.vars.now c.args.sets.now row new p e) c.in-Ok.ensures.table.fit));
      few = said (λ x. length (without_keys c.as_slice.result.now x).rows + length c.in_ok-gone-in-Ok.field-0.rows.items ≤ most_rows) (slice_get (g.S.Store.tables c.args.store.now) c.args.t) t c.table.ensures
          (subst (λ (ks : List (List Datum)). length (without_keys ks t).rows + length c.in_ok-gone-in-Ok.field-0.rows.items ≤ most_rows) (sym keys)
          (subst (λ (rs : List (List Datum)). length (without_keys (keys_of_changes c.in-Ok.changes) t).rows + length rs ≤ most_rows) (sym rows)
          (changed_few c.args.checks.now t (over c.args.vars.now) (option_copied c.args.test) (row_set c.args.vars.now t.def c.args.sets.now) c.in-Ok.ensures.table.ascend c.in-Ok.changes c.in-Ok.ensures.changes c.in-Ok.ensures.table.bound)));
    }

pub finish-requires-clause-legal : goal.finish-requires-clause-legal
finish-requires-clause-legal g c =
    let t : Contents = c.table.result.now.contents in
    let keys : c.as_slice.result.now ≡ keys_of_changes c.in-Ok.changes = c.as_slice.ensures.value ∙ c.in_ok-gone-in-Ok.ensures.keys ∙ ap keys_of_changes c.into_vec.ensures in
    let legal = there (λ x. IsLegal (over []) (schema_of x.def c.args.checks.now) x.rows) (slice_get (g.S.Store.tables c.args.store.now) c.args.t) t c.table.ensures c.requires.legal in
    said (λ x. IsLegal (over []) (schema_of x.def c.args.checks.now) (without_keys c.as_slice.result.now x).rows) (slice_get (g.S.Store.tables c.args.store.now) c.args.t) t c.table.ensures
    (subst (λ (ks : List (List Datum)). IsLegal (over []) (schema_of t.def c.args.checks.now) (without_keys ks t).rows) (sym keys)
    (changed_legal c.args.checks.now t (over c.args.vars.now) (option_copied c.args.test) (row_set c.args.vars.now t.def c.args.sets.now) c.in-Ok.ensures.table.ascend c.in-Ok.changes c.in-Ok.ensures.changes legal))

pub returns-clause-answer : goal.returns-clause-answer
returns-clause-answer g c =
    let among : List (List Datum) → Bool = are_keyed_with c.args.constraints.now (rows_in (g.S.Store.tables c.args.store.now)) c.args.t in
    let t : Contents = c.table.result.now.contents in
    let keys : c.as_slice.result.now ≡ keys_of_changes c.in-Ok.changes = c.as_slice.ensures.value ∙ c.in_ok-gone-in-Ok.ensures.keys ∙ ap keys_of_changes c.into_vec.ensures in
    let rows : c.in_ok-gone-in-Ok.field-0.rows.items ≡ rows_of_changes c.in-Ok.changes = c.in_ok-gone-in-Ok.ensures.rows ∙ ap rows_of_changes c.into_vec.ensures in
    update_ends c.args.checks.now among c.args.sets.now (option_copied c.args.test) c.args.vars.now t c.in-Ok.ensures.table.ascend c.in-Ok.changes c.in-Ok.ensures.changes
    (g.S.Store.tables c.args.store.now) (g.S.Store.tables c.finish.new.store) c.args.t c.as_slice.result.now c.in_ok-gone-in-Ok.field-0.rows.items c.finish.result c.table.ensures keys rows c.finish.ensures.answer
