use Rattle.std.proofs.Common.{◌≡◌, Bool, ◌++◌, [], List, length, true, refl, sym, subst}
use Rattle.std.specs.Prelude.{IfSome, slice_get}
use Rattle.std.specs.Option.{option_copied}
use Rattle.psm_value.specs.declared.datum.Datum.{Datum}
use Rattle.psm_table.specs.Changing.{counting, ended, IsLegal}
use Rattle.psm_table.specs.Evaluator.{test_of}
use Rattle.psm_table.specs.Keyed.{are_keyed_with, rows_in}
use Rattle.psm_table.specs.Queries.{walked}
use Rattle.psm_table.specs.Table.{Contents}
use Rattle.psm_tablecode.specs.Codes.{over}
use Rattle.psm_dml.specs.Changes.{keep_places, row_set}
use Rattle.psm_dml.specs.Ends.{schema_of, schema_with, Ends}
use Rattle.psm_row_changes.specs.Rows.{keys_of_rows, without_keys, AreInPlace}
use Rattle.psm_dml.proofs.Answering.{ends_reported, gives_err}
use Rattle.psm_row_changes.proofs.Effects.{said, there}
use Rattle.psm_dml.proofs.Placed.{are_in_place, placed_ends, placed_legal, placed_raises}
use Rattle.psm_dml.proofs.Updated.{update_of}
use Rattle.psm_dml.proofs.updating.update_in_place.Goals as goal

pub returns-in-Err-clause-answer : goal.returns-in-Err-clause-answer
returns-in-Err-clause-answer g c =
    let among : List (List Datum) → Bool = are_keyed_with c.args.constraints.now (rows_in (g.S.Store.tables c.args.store.now)) c.args.t in
    let t : Contents = c.table.result.now.contents in
    let kept = there (λ x. keep_places x.def c.args.sets.now ≡ true) (slice_get (g.S.Store.tables c.args.store.now) c.args.t) t c.table.ensures c.requires.places in
    ends_reported (g.S.Store.tables c.args.store.now) _ c.args.t t (update_of c.args.checks.now among c.args.sets.now (option_copied c.args.test) c.args.vars.now) c.table.ensures
    c.in-Err.fault c.raised.result
    (λ s e. placed_raises c.args.checks.now among c.args.sets.now (option_copied c.args.test) c.args.vars.now t c.in-Err.ensures.table kept s
    (gives_err (walked (test_of (over c.args.vars.now) (option_copied c.args.test)) (row_set c.args.vars.now t.def c.args.sets.now) t.rows) c.in-Err.fault s e c.in-Err.ensures.rows))
    c.raised.ensures refl

pub finish_in_place-requires-clause-places : goal.finish_in_place-requires-clause-places
finish_in_place-requires-clause-places g c =
    let t : Contents = c.table.result.now.contents in
    let old : List Contents = g.S.Store.tables c.args.store.now in
    let kept = there (λ x. keep_places x.def c.args.sets.now ≡ true) (slice_get old c.args.t) t c.table.ensures c.requires.places in
    let legal = there (λ x. IsLegal (over []) (schema_of x.def c.args.checks.now) x.rows) (slice_get old c.args.t) t c.table.ensures c.requires.legal in
    said (λ x. AreInPlace x c.into_vec-rows.result.items) (slice_get old c.args.t) t c.table.ensures
    (subst (λ (rs : List (List Datum)). AreInPlace t rs) (sym c.into_vec-rows.ensures)
    (are_in_place c.args.checks.now (λ rows. true) c.args.sets.now (option_copied c.args.test) c.args.vars.now t c.in-Ok.ensures.table kept c.in-Ok.rows c.in-Ok.ensures.rows legal))

pub finish_in_place-requires-clause-legal : goal.finish_in_place-requires-clause-legal
finish_in_place-requires-clause-legal g c =
    let t : Contents = c.table.result.now.contents in
    let old : List Contents = g.S.Store.tables c.args.store.now in
    let kept = there (λ x. keep_places x.def c.args.sets.now ≡ true) (slice_get old c.args.t) t c.table.ensures c.requires.places in
    let legal = there (λ x. IsLegal (over []) (schema_of x.def c.args.checks.now) x.rows) (slice_get old c.args.t) t c.table.ensures c.requires.legal in
    said (λ x. IsLegal (over []) (schema_of x.def c.args.checks.now) (without_keys (keys_of_rows x.def c.into_vec-rows.result.items) x).rows) (slice_get old c.args.t) t c.table.ensures
    (subst (λ (rs : List (List Datum)). IsLegal (over []) (schema_of t.def c.args.checks.now) (without_keys (keys_of_rows t.def rs) t).rows) (sym c.into_vec-rows.ensures)
    (placed_legal c.args.checks.now (λ rows. true) c.args.sets.now (option_copied c.args.test) c.args.vars.now t c.in-Ok.ensures.table kept c.in-Ok.rows c.in-Ok.ensures.rows legal))

pub returns-clause-answer : goal.returns-clause-answer
returns-clause-answer g c =
    let among : List (List Datum) → Bool = are_keyed_with c.args.constraints.now (rows_in (g.S.Store.tables c.args.store.now)) c.args.t in
    let t : Contents = c.table.result.now.contents in
    let old : List Contents = g.S.Store.tables c.args.store.now in
    let kept = there (λ x. keep_places x.def c.args.sets.now ≡ true) (slice_get old c.args.t) t c.table.ensures c.requires.places in
    placed_ends c.args.checks.now among c.args.sets.now (option_copied c.args.test) c.args.vars.now t c.in-Ok.ensures.table kept c.in-Ok.rows c.in-Ok.ensures.rows
    old (g.S.Store.tables c.finish_in_place.new.store) c.args.t c.finish_in_place.result c.table.ensures
    (subst (λ (rs : List (List Datum)). IfSome (slice_get old c.args.t) (λ x. Ends x (counting (length rs) (ended (over []) (schema_with among x.def c.args.checks.now) ((without_keys (keys_of_rows x.def rs) x).rows ++ rs))) old c.args.t (g.S.Store.tables c.finish_in_place.new.store) c.finish_in_place.result))
    c.into_vec-rows.ensures c.finish_in_place.ensures.answer)
