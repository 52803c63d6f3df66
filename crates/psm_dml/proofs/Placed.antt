-- UPDATE by the rows that it makes, where these are put in the places of the old ones.
use Rattle.std.proofs.Common.{◌≡◌, ℕ, ◌+◌, ◌≤◌, Bool, List, [], ◌∷◌, ◌++◌, length, true, refl, ap, sym, subst, ◌∙◌, Option, Some, Result, Ok, Err}
use Rattle.std.specs.Prelude.{All, IfSome, IsSome, map, slice_get, slice_set}
use Rattle.std.specs.List.{list_all}
use Rattle.psm_sqlstate.specs.declared.state.SqlState.{SqlState}
use Rattle.psm_cond.specs.declared.fault.DataFault.{DataFault}
use Rattle.psm_exprcode.specs.declared.op.Line.{Line}
use Rattle.psm_exprcode.specs.declared.set_item.SetItem as set_code
use Rattle.psm_value.specs.declared.datum.Datum.{Datum}
use Rattle.psm_table.specs.declared.definition.TableDef.{TableDef}
use Rattle.psm_table.specs.Changing.{all_apart, counting, divided, ended, is_filled, Division, IsLegal, Raised}
use Rattle.psm_table.specs.Definition.{IsRow}
use Rattle.psm_table.specs.Evaluator.{mapped, test_of}
use Rattle.psm_table.specs.Key.{values_at}
use Rattle.psm_table.specs.Queries.{walked}
use Rattle.psm_table.specs.Rows.{IsAscending}
use Rattle.psm_table.specs.Table.{most_rows, namesake, Contents, IsTable}
use Rattle.psm_table.proofs.Rules.{second_true}
use Rattle.psm_store.specs.RowCalls.{changed_at}
use Rattle.psm_tablecode.specs.Codes.{over}
use Rattle.psm_dml.specs.Changes.{changing, keep_places, row_set}
use Rattle.psm_dml.specs.declared.planning.Change.{Change}
use Rattle.psm_dml.specs.Ends.{schema_of, schema_with, Ends}
use Rattle.psm_row_changes.specs.Rows.{keys_of_rows, with_rows, without_keys, AreInPlace}
use Rattle.psm_row_changes.proofs.Effects.{changed_is, said, there}
use Rattle.psm_row_changes.proofs.Places.{in_place}
use Rattle.psm_dml.proofs.Planned.{as_division}
use Rattle.psm_dml.proofs.Staying.{as_change, row_fits, row_stays, stay_apart, stay_ascending, stay_fitting, stay_named, walk_as, Stays}
use Rattle.psm_dml.proofs.Updated.{changed_few, changed_legal, division_is, keys_of_changes, rows_of_changes, update_ends, update_of, update_raises}

abbrev Row : Type 0
Row = List Datum

-- ---- the end of the statement

pub placed_tables : (rows : List Row) (old new : List Contents) (t : ℕ) (c : Contents) → slice_get old t ≡ Some c → IsAscending c.def.key rows → new ≡ changed_at (with_rows rows) old t
    → new ≡ changed_at (λ x. with_rows rows (without_keys (keys_of_rows c.def rows) x)) old t
placed_tables rows old new t c here up e =
    e ∙ changed_is (with_rows rows) old t c here ∙ ap (λ x. slice_set old t x) (sym (in_place rows c up))
    ∙ sym (changed_is (λ x. with_rows rows (without_keys (keys_of_rows c.def rows) x)) old t c here)

module _ (checks : List (List Line)) (among : List Row → Bool) (rows : List Row) (old new : List Contents) (t : ℕ) (c : Contents) (here : slice_get old t ≡ Some c) (result : Result ℕ DataFault) where
  abbrev EndsBy : (TableDef → List (List Datum)) → Contents → Type 0
  EndsBy keys x = Ends x (counting (length rows) (ended (over []) (schema_with among x.def checks) ((without_keys (keys x.def) x).rows ++ rows))) old t new result

  -- the keys are those of the rows in the table that is there
  pub by_own_keys : IfSome (slice_get old t) (EndsBy (λ def. keys_of_rows c.def rows)) → IfSome (slice_get old t) (EndsBy (λ def. keys_of_rows def rows))
  by_own_keys h = said (EndsBy (λ def. keys_of_rows def rows)) (slice_get old t) c here (there (EndsBy (λ def. keys_of_rows c.def rows)) (slice_get old t) c here h)

  pub of_own_keys : IfSome (slice_get old t) (EndsBy (λ def. keys_of_rows def rows)) → IfSome (slice_get old t) (EndsBy (λ def. keys_of_rows c.def rows))
  of_own_keys h = said (EndsBy (λ def. keys_of_rows c.def rows)) (slice_get old t) c here (there (EndsBy (λ def. keys_of_rows def rows)) (slice_get old t) c here h)

-- ---- UPDATE

module _ (checks : List (List Line)) (among : List Row → Bool) (sets : List set_code.SetItem) (test : Option (List Line)) (vars : List Datum) (c : Contents) (table : IsTable c) (f : keep_places c.def sets ≡ true) where
  abbrev make : Row → Result Row SqlState
  make = row_set vars c.def sets

  stays : (row new : Row) → make row ≡ Ok new → Stays c.def row new
  stays = row_stays c.def vars sets f

  keeps : (row new : Row) → make row ≡ Ok new → values_at c.def.key new ≡ values_at c.def.key row
  keeps row new e = (stays row new e).key

  abbrev change : Row → Change
  change = as_change c.def (test_of (over vars) test) make keeps

  walk : walked (test_of (over vars) test) (changing c.def.key make) c.rows ≡ mapped (λ l. map change l) (walked (test_of (over vars) test) make c.rows)
  walk = walk_as c.def (test_of (over vars) test) make keeps c.rows

  pub placed_raises : (s : SqlState) → walked (test_of (over vars) test) make c.rows ≡ Err s → update_of checks among sets test vars c ≡ Err (Raised s)
  placed_raises s e = update_raises checks among sets test vars c table.ascend s (walk ∙ ap (mapped (λ l. map change l)) e)

  keys_are : (rows : List Row) → keys_of_changes (map change rows) ≡ keys_of_rows c.def rows
  keys_are [] = refl
  keys_are (row ∷ rows) = ap (λ l. values_at c.def.key row ∷ l) (keys_are rows)

  rows_are : (rows : List Row) → rows_of_changes (map change rows) ≡ rows
  rows_are [] = refl
  rows_are (row ∷ rows) = ap (λ l. row ∷ l) (rows_are rows)

  module _ (rows : List Row) (w : walked (test_of (over vars) test) make c.rows ≡ Ok rows) where
    abbrev changes : List Change
    changes = map change rows

    walk_is : walked (test_of (over vars) test) (changing c.def.key make) c.rows ≡ Ok changes
    walk_is = walk ∙ ap (mapped (λ l. map change l)) w

    abbrev division : Division
    division = as_division c.def.key (over vars) test make c.rows changes

    divided_so : divided (over vars) test make c.rows ≡ Ok division
    divided_so = division_is checks c (over vars) test make table.ascend changes walk_is

    pub placed_legal : IsLegal (over []) (schema_of c.def checks) c.rows → IsLegal (over []) (schema_of c.def checks) (without_keys (keys_of_rows c.def rows) c).rows
    placed_legal h =
        subst (λ (ks : List (List Datum)). IsLegal (over []) (schema_of c.def checks) (without_keys ks c).rows) (keys_are rows)
        (changed_legal checks c (over vars) test make table.ascend changes walk_is h)

    pub are_in_place : IsLegal (over []) (schema_of c.def checks) c.rows → AreInPlace c rows
    are_in_place h = record {
      fit = subst (All (IsRow c.def)) (rows_are rows) (stay_fitting (over vars) test c.def make stays (row_fits c.def vars sets f) c.rows division divided_so table.fit);
      ascend = subst (IsAscending c.def.key) (rows_are rows) (stay_ascending (over vars) test c.def make stays c.rows division divided_so table.ascend).0;
      named = subst (λ (rs : List Row). All (λ row. IsSome (namesake c row)) rs) (rows_are rows) (stay_named (over vars) test c.def make stays c.rows division divided_so);
      apart = subst (λ (ks : List (List Datum)). all_apart c.def ((without_keys ks c).rows ++ rows) ≡ true) (keys_are rows)
          (subst (λ (rs : List Row). all_apart c.def ((without_keys (keys_of_changes changes) c).rows ++ rs) ≡ true) (rows_are rows)
          ((stay_apart (over vars) test c.def make stays c.rows division divided_so).1 (second_true (list_all (is_filled c.def) c.rows) (all_apart c.def c.rows) h.rules)));
      few = subst (λ (ks : List (List Datum)). length (without_keys ks c).rows + length rows ≤ most_rows) (keys_are rows)
          (subst (λ (rs : List Row). length (without_keys (keys_of_changes changes) c).rows + length rs ≤ most_rows) (rows_are rows)
          (changed_few checks c (over vars) test make table.ascend changes walk_is table.bound));
    }

    pub placed_ends : (old new : List Contents) (t : ℕ) (result : Result ℕ DataFault) → slice_get old t ≡ Some c
        → IfSome (slice_get old t) (λ x. Ends x (counting (length rows) (ended (over []) (schema_with among x.def checks) ((without_keys (keys_of_rows x.def rows) x).rows ++ rows))) old t new result)
        → IfSome (slice_get old t) (λ x. Ends x (update_of checks among sets test vars x) old t new result)
    placed_ends old new t result here h =
        update_ends checks among sets test vars c table.ascend changes walk_is old new t (keys_of_rows c.def rows) rows result here (sym (keys_are rows)) (sym (rows_are rows))
        (of_own_keys checks among rows old new t c here result h)
