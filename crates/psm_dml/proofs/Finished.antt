-- How a statement with new rows ends.
use Rattle.std.proofs.Common.{◌≡◌, ℕ, ◌+◌, ◌<◌, ◌≤◌, List, [], ◌++◌, length, Bool, true, false, ◌&&◌, refl, ap, sym, subst, ◌∙◌, Some, Result, Ok, Err}
use Rattle.std.specs.Prelude.{IfSome, codes, slice_get, slice_set}
use Rattle.psm_sqlstate.specs.declared.state.SqlState.{SqlState}
use Rattle.psm_cond.specs.Condition.{Entries}
use Rattle.psm_cond.specs.declared.fault.DataFault.{DataFault}
use Rattle.psm_cond.specs.declared.fault.DataFault.TheVariants as reported_as
use Rattle.psm_exprcode.specs.declared.op.Line.{Line}
use Rattle.psm_value.specs.Answer.{Gives}
use Rattle.psm_value.specs.declared.datum.Datum.{Datum}
use Rattle.psm_value.specs.declared.fault.ValueFault.{ValueFault}
use Rattle.psm_value.specs.declared.fault.ValueFault.TheVariants as value_fault
use Rattle.psm_table.specs.declared.definition.TableDef.{TableDef}
use Rattle.psm_table.specs.Changing.{counting, ended, in_order, inserted, rows_pass, stored_rows, then_of, Changed, Failure, IsLegal, OfTable, Raised}
use Rattle.psm_table.specs.Definition.{kinds_of}
use Rattle.psm_table.specs.Rows.{IsAscending}
use Rattle.psm_table.specs.Table.{most_rows, Contents}
use Rattle.psm_tablecode.specs.Codes.{over}
use Rattle.psm_tablecode.specs.Faults.{Reports}
use Rattle.psm_dml.specs.Ends.{checked, schema_of, schema_with, Bears, Ends, IsExpected, Passes}
use Rattle.psm_row_changes.specs.Rows.{changed_if, fit_in, with_rows, without_keys}
use Rattle.psm_dml.proofs.Answering.{ends_borne, ends_done}
use Rattle.psm_row_changes.proofs.Effects.{changed_is, said, there}
use Rattle.psm_dml.proofs.Finishing.{ends_broken, ends_false, ends_ok, ends_raised, rows_are, too_many}

abbrev Row : Type 0
Row = List Datum

-- ---- what is reported of CHECKs

pub passes_false : (def : TableDef) (passed : Result Bool SqlState) (what : DataFault) → passed ≡ Ok false → Bears (codes "23000") def what → Passes def passed (Err what)
passes_false def passed (reported_as.Raised condition) e h = subst (λ p. IsExpected def (checked p) condition) (sym e) h
passes_false def passed reported_as.Memory e h = tt

pub passes_raised : (def : TableDef) (passed : Result Bool SqlState) (fault : ValueFault) (what : DataFault) → Gives passed (Err fault) → Reports fault what → Passes def passed (Err what)
passes_raised def passed (value_fault.Condition s) (reported_as.Raised condition) e h = subst (λ p. IsExpected def (checked p) condition) (sym e) h
passes_raised def passed (value_fault.Condition s) reported_as.Memory e h = tt
passes_raised def passed value_fault.Memory (reported_as.Raised condition) e h = absurd h
passes_raised def passed value_fault.Memory reported_as.Memory e h = tt

module _ (checks : List (List Line)) (keyed : List Row → Bool) (c : Contents) (keys : List (List Datum)) (rows : List Row)
    (legal : IsLegal (over []) (schema_of c.def checks) (without_keys keys c).rows) (few : length (without_keys keys c).rows + length rows ≤ most_rows)
    (old new : List Contents) (t : ℕ) (here : slice_get old t ≡ Some c) where
  abbrev pub expected : Contents → Result Changed Failure
  expected x = counting (length rows) (ended (over []) (schema_with keyed x.def checks) ((without_keys keys x).rows ++ rows))

  abbrev passed : Result Bool SqlState
  passed = rows_pass (over []) checks (in_order c.def.key rows)

  fault_step : (p : Result Bool SqlState) (condition : Entries) → passed ≡ p → IsExpected c.def (checked p) condition → IsExpected c.def (expected c) condition
  fault_step (Ok true) condition e h = absurd h
  fault_step (Ok false) condition e h =
      subst (λ r. IsExpected c.def (counting (length rows) r) condition) (sym (ends_false (over []) checks keyed (without_keys keys c) rows legal few e)) h
  fault_step (Err s) condition e h =
      subst (λ r. IsExpected c.def (counting (length rows) r) condition) (sym (ends_raised (over []) checks keyed (without_keys keys c) rows legal few s e)) h

  fault_ends : (what : DataFault) → Passes c.def passed (Err what) → new ≡ old → Ends c (expected c) old t new (Err what)
  fault_ends (reported_as.Raised condition) h f = (fault_step passed condition refl h, f)
  fault_ends reported_as.Memory h f = f

  pub finished_fault : (what : DataFault) → Passes c.def passed (Err what) → new ≡ old → IfSome (slice_get old t) (λ x. Ends x (expected x) old t new (Err what))
  finished_fault what h f = said (λ x. Ends x (expected x) old t new (Err what)) (slice_get old t) c here (fault_ends what h f)

  module _ (up : IsAscending c.def.key (without_keys keys c).rows) (pass : passed ≡ Ok true) where
    abbrev pub may : Bool
    may = fit_in rows (without_keys keys c) && keyed (with_rows rows (without_keys keys c)).rows

    pub finished_broken : (what : DataFault) → false ≡ may → Bears (codes "23000") c.def what → new ≡ old → IfSome (slice_get old t) (λ x. Ends x (expected x) old t new (Err what))
    finished_broken what e h f =
        ends_borne old new t c expected here (codes "23000") what (ap (counting (length rows)) (ends_broken (over []) checks keyed (without_keys keys c) rows legal few up pass (sym e))) h f

    pub finished_ok : true ≡ may → new ≡ changed_if (Ok true) (λ x. with_rows rows (without_keys keys x)) old t → IfSome (slice_get old t) (λ x. Ends x (expected x) old t new (Ok (length rows)))
    finished_ok e f =
        ends_done old new t c expected here (with_rows rows (without_keys keys c)).rows (length rows)
        (ap (counting (length rows)) (ends_ok (over []) checks keyed (without_keys keys c) rows legal few up pass (sym e)))
        (f ∙ changed_is (λ x. with_rows rows (without_keys keys x)) old t c here ∙ ap (λ x. slice_set old t x) (rows_are rows (without_keys keys c)))

-- ---- INSERT

module _ (checks : List (List Line)) (keyed : List Row → Bool) (c : Contents) (rows stored : List Row) (old new : List Contents) (t : ℕ) (here : slice_get old t ≡ Some c) where
  abbrev pub insertion : Contents → Result Changed Failure
  insertion x = inserted (over []) (schema_with keyed x.def checks) rows x.rows

  abbrev go : List Row → Result Changed Failure
  go more = counting (length more) (ended (over []) (schema_with keyed c.def checks) (c.rows ++ more))

  pub insert_raises : (s : SqlState) → stored_rows (kinds_of c.def.columns) rows ≡ Err s → insertion c ≡ Err (Raised s)
  insert_raises s e = ap (λ r. then_of r go) e

  insert_as : stored_rows (kinds_of c.def.columns) rows ≡ Ok stored → insertion c ≡ go stored
  insert_as e = ap (λ r. then_of r go) e

  pub insert_full : stored_rows (kinds_of c.def.columns) rows ≡ Ok stored → most_rows < length (c.rows ++ stored) → insertion c ≡ Err (OfTable (codes "X0002"))
  insert_full e l = insert_as e ∙ ap (counting (length stored)) (too_many (over []) (schema_with keyed c.def checks) (c.rows ++ stored) l)

  pub insert_ends : (result : Result ℕ DataFault) → stored_rows (kinds_of c.def.columns) rows ≡ Ok stored
      → IfSome (slice_get old t) (λ x. Ends x (counting (length stored) (ended (over []) (schema_with keyed x.def checks) ((without_keys [] x).rows ++ stored))) old t new result)
      → IfSome (slice_get old t) (λ x. Ends x (insertion x) old t new result)
  insert_ends result e h =
      let ended_so = there (λ x. Ends x (counting (length stored) (ended (over []) (schema_with keyed x.def checks) ((without_keys [] x).rows ++ stored))) old t new result) (slice_get old t) c here h in
      said (λ x. Ends x (insertion x) old t new result) (slice_get old t) c here (subst (λ d. Ends c d old t new result) (sym (insert_as e)) ended_so)
