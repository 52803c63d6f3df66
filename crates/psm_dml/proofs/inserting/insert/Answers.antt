use Rattle.std.proofs.Common.{◌≡◌, List, arith, rules, ap, sym, subst, ◌∙◌, Ok}
use Rattle.std.specs.Prelude.{All, slice_get}
use Rattle.std.proofs.lemmas.Grind.{common_steps}
use Rattle.psm_value.specs.declared.datum.Datum.{Datum}
use Rattle.psm_table.specs.declared.definition.Column.{Column}
use Rattle.psm_table.specs.declared.definition.TableDef.{TableDef}
use Rattle.psm_table.specs.Changing as changing_of
use Rattle.psm_table.specs.Definition.{kinds_of, HasColumns}
use Rattle.psm_table.specs.Table.{Contents}
use Rattle.psm_row_changes.specs.Rows.{IsWhole}
use Rattle.psm_row_changes.proofs.Effects.{said, there}
use Rattle.psm_dml.proofs.Storings.{are_stored}
use Rattle.psm_dml.proofs.inserting.insert.Goals as goal

pub finish-requires-clause-takes : goal.finish-requires-clause-takes
finish-requires-clause-takes g c =
    let t : Contents = c.table-table.result.now.contents in
    let old : List Contents = g.S.Store.tables c.args.store.now in
    let rows = there (λ x. All (HasColumns x.def) c.args.rows.items) (slice_get old c.args.t) t c.table-table.ensures c.requires.rows in
    let columns : c.items.result.now ≡ t.def.columns = c.items.ensures ∙ ap (λ (d : TableDef). d.columns) c.def.ensures.value in
    let stored : changing_of.stored_rows (kinds_of t.def.columns) c.args.rows.items ≡ Ok c.in-Ok.rows =
    ap (λ (l : List (List Datum)). changing_of.stored_rows (kinds_of t.def.columns) l) (sym c.as_slice.ensures.value)
    ∙ ap (λ (l : List Column). changing_of.stored_rows (kinds_of l) c.as_slice.result.now) (sym columns) ∙ c.in-Ok.ensures in
    record {
      exists = c.requires.exists;
      fit = search rules;
      whole = said (λ x. All (IsWhole x.def) c.into_vec-rows.result.items) (slice_get old c.args.t) t c.table-table.ensures
          (subst (λ (l : List (List Datum)). All (IsWhole t.def) l) (sym c.into_vec-rows.ensures) (are_stored t.def c.args.rows.items c.in-Ok.rows rows stored).whole);
      few = grind (arith, common_steps);
    }
