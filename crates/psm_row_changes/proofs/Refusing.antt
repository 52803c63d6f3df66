-- Why a row isn't put into a table.
use Rattle.std.proofs.Common.{◌≡◌, ℕ, ◌<◌, List, [], ◌∷◌, length, Bool, true, false, ◌&&◌, ◌||◌, refl, sym, subst, arith, Option, Some, None, Result, Ok, Err}
use Rattle.std.specs.Prelude.{◌≢◌, All, IfOk, IfSome, IsSome, not}
use Rattle.std.specs.List.{list_all, zip}
use Rattle.std.proofs.lemmas.List.Elements.{All-cons, All-nil}
use Rattle.psm_value.specs.declared.datum.Datum.{Datum}
use Rattle.psm_value.specs.declared.datum.Datum.TheVariants.{Null, Num, Text}
use Rattle.psm_table.specs.declared.definition.TableDef.{TableDef}
use Rattle.psm_table.specs.declared.fault.RowFault.{RowFault}
use Rattle.psm_table.specs.declared.fault.RowFault.TheVariants.{Duplicate, Absent, Full, Memory}
use Rattle.psm_table.specs.Changing.{is_filled}
use Rattle.psm_table.specs.Definition.{IsRow}
use Rattle.psm_table.specs.Key.{values_at}
use Rattle.psm_table.specs.Table.{most_rows, namesake, Contents}
use Rattle.psm_table.specs.Unique.{clashes, has_null, is_null}
use Rattle.psm_table.proofs.Rules.{apart_from, first_true, second_true}
use Rattle.psm_store.specs.RowCalls.{AnswersInsert}
use Rattle.std.specs.declared.alloc.AllocError.{AllocError}
use Rattle.psm_store.specs.RowCalls.{after}
use Rattle.psm_row_changes.specs.Rows.{changed_if, done_of, fits_in, IsWhole}
use Rattle.psm_row_changes.proofs.Putting.{apart, clashing, key_taken}

-- ---- nulls

no_null : (d : Datum) → is_null d ≡ false → d ≢ Null
no_null Null e = cc
no_null (Num n) e = λ f. cc
no_null (Text t) e = λ f. cc

or_first : (a b : Bool) → (a || b) ≡ false → a ≡ false
or_first true b e = cc
or_first false b e = refl

or_second : (a b : Bool) → (a || b) ≡ false → b ≡ false
or_second true b e = cc
or_second false b e = e

none_null : (vs : List Datum) → has_null vs ≡ false → All (λ d. d ≢ Null) vs
none_null [] e = All-nil (λ d. d ≢ Null)
none_null (v ∷ vs) e = All-cons (λ d. d ≢ Null) v vs (no_null v (or_first (is_null v) (has_null vs) e)) (none_null vs (or_second (is_null v) (has_null vs) e))

not_true : (b : Bool) → not b ≡ true → b ≡ false
not_true true e = cc
not_true false e = refl

-- a whole row that is filled is a row
pub row_fits : (def : TableDef) (row : List Datum) → IsWhole def row → is_filled def row ≡ true → IsRow def row
row_fits def row h e = record {
  long = h.long;
  families = h.families;
  filled = none_null (values_at def.key row) (not_true (has_null (values_at def.key row)) (second_true (list_all (λ p. not (p.0.not_null && is_null p.1)) (zip def.columns row)) (not (has_null (values_at def.key row))) e));
}

-- ---- the answer of an insertion

module _ (row : List Datum) (c : Contents) where
  abbrev may : Bool
  may = is_filled c.def row && not (clashes c.def row c.rows)

  fails_by : (a b d : Bool) → (b ≡ true → d ≡ false) → (a && not b) ≡ false → (a && d) ≡ false
  fails_by true true d h e = h refl
  fails_by true false d h e = cc
  fails_by false b d h e = refl

  -- it has a null or clashes
  pub refused : may ≡ false → fits_in row c ≡ false
  refused e = fails_by (is_filled c.def row) (clashes c.def row c.rows) (apart_from c.def row c.rows) (clashing c.def row c.rows) e

  both : (a b : Bool) → a ≡ true → b ≡ true → (a && b) ≡ true
  both true true e f = refl
  both true false e f = cc
  both false b e f = cc

  -- it was put in
  pub put_in : may ≡ true → namesake c row ≡ None → fits_in row c ≡ true
  put_in e n =
      both (is_filled c.def row) (apart_from c.def row c.rows) (first_true (is_filled c.def row) (not (clashes c.def row c.rows)) e)
      (apart c.def row c.rows n (not_true (clashes c.def row c.rows) (second_true (is_filled c.def row) (not (clashes c.def row c.rows)) e)))

  and_false : (a b : Bool) → b ≡ false → (a && b) ≡ false
  and_false true b e = e
  and_false false b e = refl

  key_there : (o : Option (List Datum)) → namesake c row ≡ o → IsSome o → fits_in row c ≡ false
  key_there None e h = cc
  key_there (Some y) e h = and_false (is_filled c.def row) (apart_from c.def row c.rows) (key_taken c.def row c.rows y e)

  -- it was refused, not because memory ran out
  pub turned_away : (fault : RowFault) → (fault ≡ Memory → ⊥) → length c.rows < most_rows → AnswersInsert row (Err fault) c → fits_in row c ≡ false
  turned_away Duplicate n l h = key_there (namesake c row) refl h.1
  turned_away Absent n l h = absurd h
  turned_away Full n l h = absurd (omega (arith, l, h))
  turned_away Memory n l h = absurd (n refl)

  done_step : (r : Result (Unit {0}) RowFault) → may ≡ true → length c.rows < most_rows → AnswersInsert row r c → IfOk (done_of r) (λ b. b ≡ fits_in row c)
  done_step (Ok u) e l h = sym (put_in e h.1)
  done_step (Err Duplicate) e l h = sym (turned_away Duplicate (λ f. cc) l h)
  done_step (Err Absent) e l h = absurd h
  done_step (Err Full) e l h = sym (turned_away Full (λ f. cc) l h)
  done_step (Err Memory) e l h = tt

  -- the answer of an insertion into the table that is there
  pub done_answer : (o : Option Contents) (r : Result (Unit {0}) RowFault) (result : Result Bool AllocError) → o ≡ Some c → may ≡ true → IfSome o (λ x. length x.rows < most_rows) → IfSome o (AnswersInsert row r) → result ≡ done_of r
      → IfSome o (λ x. IfOk result (λ b. b ≡ fits_in row x))
  done_answer o r result here e l h same =
      let few : length c.rows < most_rows = subst (λ p. IfSome p (λ x. length x.rows < most_rows)) here l in
      let answer : AnswersInsert row r c = subst (λ p. IfSome p (AnswersInsert row r)) here h in
      subst (λ p. IfSome p (λ x. IfOk result (λ b. b ≡ fits_in row x))) (sym here) (subst (λ q. IfOk q (λ b. b ≡ fits_in row c)) (sym same) (done_step r e few answer))

pub done_tables : (f : Contents → Contents) (r : Result (Unit {0}) RowFault) (result : Result Bool AllocError) (old new : List Contents) (t : ℕ) → result ≡ done_of r → new ≡ after r f old t → new ≡ changed_if result f old t
done_tables f r result old new t same e = by r same e where
  by : (q : Result (Unit {0}) RowFault) → result ≡ done_of q → new ≡ after q f old t → new ≡ changed_if result f old t
  by (Ok u) s g = subst (λ z. new ≡ changed_if z f old t) (sym s) g
  by (Err Duplicate) s g = subst (λ z. new ≡ changed_if z f old t) (sym s) g
  by (Err Absent) s g = subst (λ z. new ≡ changed_if z f old t) (sym s) g
  by (Err Full) s g = subst (λ z. new ≡ changed_if z f old t) (sym s) g
  by (Err Memory) s g = subst (λ z. new ≡ changed_if z f old t) (sym s) g
