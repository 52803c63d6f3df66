-- How DELETE from a legal table ends: what is left keeps the rules of the table, so FOREIGN KEY constraints alone can fail.
use Rattle.std.proofs.Common.{◌≡◌, ℕ, List, [], Bool, true, false, refl, ap, sym, subst, ◌∙◌, Option, Some, Result, Ok, Err}
use Rattle.std.specs.Prelude.{codes, slice_get}
use Rattle.psm_cond.specs.Condition.{Entries}
use Rattle.psm_cond.specs.declared.fault.DataFault.{DataFault}
use Rattle.psm_cond.specs.declared.fault.DataFault.TheVariants as reported_as
use Rattle.psm_exprcode.specs.declared.op.Line.{Line}
use Rattle.psm_sqlstate.specs.declared.state.SqlState.{SqlState}
use Rattle.psm_value.specs.declared.datum.Datum.{Datum}
use Rattle.psm_table.specs.declared.definition.ForeignKey.{ForeignKey}
use Rattle.psm_table.specs.Changing.{changed_if_keyed, counting, deleted, deleted_at, ended_with, Changed, Failure, IsLegal, OfTable, Raised}
use Rattle.psm_table.specs.Key.{values_at}
use Rattle.psm_table.specs.Keyed.{are_keyed_with, rows_in}
use Rattle.psm_table.specs.Table.{without_row, Contents, IsTable}
use Rattle.psm_table.proofs.Deleting.{deleted_legally, taken_out}
use Rattle.psm_table.proofs.Keyless.{deleted_apart}
use Rattle.psm_table.proofs.Leaving.{deleted_at_legally}
use Rattle.psm_table.proofs.Legal.{legal_alone}
use Rattle.psm_tablecode.specs.Codes.{over}
use Rattle.psm_store.specs.RowCalls.{changed_at}
use Rattle.psm_dml.specs.Ends.{keyed_schema, schema_of, Bears, ErasesByRules, IsExpected}
use Rattle.psm_row_changes.proofs.Effects.{changed_is}

-- a condition that is expected of the table
pub borne_of : {A : Type 0} (c : Contents) (expected : Result A Failure) (condition : Entries) (state : List ℕ) → expected ≡ Err (OfTable state) → Bears state c.def (reported_as.Raised condition) → IsExpected c.def expected condition
borne_of c expected condition state e h = subst (λ d. IsExpected c.def d condition) (sym e) h

module _ (constraints : List ForeignKey) (old : List Contents) (t : ℕ) (c : Contents) (table : IsTable c) (checks : List (List Line)) (legal : IsLegal (over []) (schema_of c.def checks) c.rows) where
  abbrev among : List (List Datum) → Bool
  among = are_keyed_with constraints (rows_in old) t

  -- ---- of the rows that meet a test

  module _ (vars : List Datum) (test : Option (List Line)) where
    abbrev expected : Result Changed Failure
    expected = deleted (over vars) (over []) (keyed_schema constraints old t c.def checks) test c.rows

    expected_is : expected ≡ changed_if_keyed (keyed_schema constraints old t c.def checks) (taken_out (over vars) test c.rows)
    expected_is =
        deleted_apart (over vars) (over []) (keyed_schema constraints old t c.def checks) test c.rows
        ∙ ap (changed_if_keyed (keyed_schema constraints old t c.def checks)) (deleted_legally (over []) (keyed_schema constraints old t c.def checks) (over vars) test c.rows legal table.ascend table.bound)

    -- the test raises a condition
    pub erase_raises : (s : SqlState) → taken_out (over vars) test c.rows ≡ Err (Raised s) → expected ≡ Err (Raised s)
    erase_raises s e = expected_is ∙ ap (changed_if_keyed (keyed_schema constraints old t c.def checks)) e

    module _ (rows : List (List Datum)) (n : ℕ) (out : taken_out (over vars) test c.rows ≡ Ok (record { rows = rows; count = n })) where
      by_keys : (b : Bool) → among rows ≡ b → expected ≡ counting n (ended_with c.def rows b)
      by_keys b e = expected_is ∙ ap (changed_if_keyed (keyed_schema constraints old t c.def checks)) out ∙ ap (λ x. counting n (ended_with c.def rows x)) e

      pub erase_done : among rows ≡ true → expected ≡ Ok (record { rows = rows; count = n })
      erase_done e = by_keys true e

      pub erase_fails : among rows ≡ false → expected ≡ Err (OfTable (codes "23000"))
      erase_fails e = by_keys false e

  -- ---- of the row of a key

  module _ (key row : List Datum) (own : key ≡ values_at c.def.key row) where
    abbrev expected_at : Result (List (List Datum)) Failure
    expected_at = deleted_at (over []) (keyed_schema constraints old t c.def checks) row c.rows

    expected_at_is : expected_at ≡ ended_with c.def (without_row key c).rows (among (without_row key c).rows)
    expected_at_is =
        deleted_at_legally (over []) (keyed_schema constraints old t c.def checks) row c.rows
        (legal_alone (over []) (schema_of c.def checks) (keyed_schema constraints old t c.def checks) refl refl c.rows legal) table.ascend table.bound
        ∙ ap (λ k. ended_with c.def (without_row k c).rows (among (without_row k c).rows)) (sym own)

    pub erase_at_ends : (b : Bool) → among (without_row key c).rows ≡ b → expected_at ≡ ended_with c.def (without_row key c).rows b
    erase_at_ends b e = expected_at_is ∙ ap (ended_with c.def (without_row key c).rows) e

-- how the DELETE of the row of a key ends
module _ (constraints : List ForeignKey) (key : List Datum) (old new : List Contents) (t : ℕ) (c : Contents) (here : slice_get old t ≡ Some c) (table : IsTable c) where
  abbrev ends_as : Result (Unit {0}) DataFault → Type 0
  ends_as result = ErasesByRules constraints key old t new result c

  pub erased_done : true ≡ are_keyed_with constraints (rows_in old) t (without_row key c).rows → new ≡ changed_at (without_row key) old t → ends_as (Ok tt)
  erased_done e f row own checks legal = ((without_row key c).rows, erase_at_ends constraints old t c table checks legal key row own true (sym e), f ∙ changed_is (without_row key) old t c here)

  pub erased_fails : (what : DataFault) → false ≡ are_keyed_with constraints (rows_in old) t (without_row key c).rows → Bears (codes "23000") c.def what → new ≡ old → ends_as (Err what)
  erased_fails (reported_as.Raised condition) e h f row own checks legal =
      (borne_of c (deleted_at (over []) (keyed_schema constraints old t c.def checks) row c.rows) condition (codes "23000") (erase_at_ends constraints old t c table checks legal key row own false (sym e)) h, f)
  erased_fails reported_as.Memory e h f row own checks legal = f
