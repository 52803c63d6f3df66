-- CHECKs over rows, of which some are known to pass.
use Rattle.std.proofs.Common.{◌≡◌, ℕ, List, [], ◌∷◌, ◌++◌, Bool, true, false, ◌&&◌, refl, ap, sym, ◌∙◌, Result, Ok, Err}
use Rattle.std.specs.Prelude.{All}
use Rattle.std.proofs.lemmas.List.Elements.{All-cons, All-head, All-nil, All-tail}
use Rattle.psm_sqlstate.specs.declared.state.SqlState.{SqlState}
use Rattle.psm_value.specs.declared.datum.Datum.{Datum}
use Rattle.psm_table.specs.Changing.{in_order, is_before, inserted_in, row_passes, rows_pass}
use Rattle.psm_table.specs.Evaluator.{Evaluator, and_then, mapped}

mapped_true : (r : Result Bool SqlState) → mapped (λ more. true && more) r ≡ r
mapped_true (Ok b) = refl
mapped_true (Err s) = refl

module _ {E : Type 0} (ev : Evaluator E) (checks : List E) where
  -- each CHECK holds on the row, and none raises a condition
  abbrev pub Passes : List Datum → Type 0
  Passes row = row_passes ev checks row ≡ Ok true

  abbrev further : Result Bool SqlState → Result Bool SqlState → Result Bool SqlState
  further r rest = and_then r (λ ok. mapped (λ more. ok && more) rest)

  pub passing-first : (row : List Datum) (rows : List (List Datum)) → Passes row → rows_pass ev checks (row ∷ rows) ≡ rows_pass ev checks rows
  passing-first row rows e = ap (λ r. further r (rows_pass ev checks rows)) e ∙ mapped_true (rows_pass ev checks rows)

  -- a list of rows passes exactly where each of them does
  first_of : (r rest : Result Bool SqlState) → further r rest ≡ Ok true → r ≡ Ok true
  first_of (Ok true) rest e = refl
  first_of (Ok false) (Ok b) e = cc
  first_of (Ok false) (Err s) e = cc
  first_of (Err s) rest e = cc

  rest_of : (r rest : Result Bool SqlState) → further r rest ≡ Ok true → rest ≡ Ok true
  rest_of (Ok true) rest e = sym (mapped_true rest) ∙ e
  rest_of (Ok false) (Ok b) e = cc
  rest_of (Ok false) (Err s) e = cc
  rest_of (Err s) rest e = cc

  pub each_passes : (rows : List (List Datum)) → rows_pass ev checks rows ≡ Ok true → All Passes rows
  each_passes [] e = All-nil Passes
  each_passes (row ∷ rows) e =
      All-cons Passes row rows (first_of (row_passes ev checks row) (rows_pass ev checks rows) e)
      (each_passes rows (rest_of (row_passes ev checks row) (rows_pass ev checks rows) e))

  pub all_pass : (rows : List (List Datum)) → All Passes rows → rows_pass ev checks rows ≡ Ok true
  all_pass [] h = refl
  all_pass (row ∷ rows) h = passing-first row rows (All-head Passes row rows h) ∙ all_pass rows (All-tail Passes row rows h)

  module _ (key : List ℕ) where
    passing_step : (row y : List Datum) (ys : List (List Datum)) (b : Bool) → is_before key row y ≡ b → Passes row
        → rows_pass ev checks (inserted_in key row ys) ≡ rows_pass ev checks ys → rows_pass ev checks (inserted_in key row (y ∷ ys)) ≡ rows_pass ev checks (y ∷ ys)
    passing_step row y ys true e p h = rw e (passing-first row (y ∷ ys) p)
    passing_step row y ys false e p h = rw e (ap (further (row_passes ev checks y)) h)

    passing_placed : (row : List Datum) (rows : List (List Datum)) → Passes row → rows_pass ev checks (inserted_in key row rows) ≡ rows_pass ev checks rows
    passing_placed row [] p = passing-first row [] p
    passing_placed row (y ∷ ys) p = passing_step row y ys (is_before key row y) refl p (passing_placed row ys p)

    -- rows that pass add nothing
    pub passing_rows : (old new : List (List Datum)) → All Passes old → rows_pass ev checks (in_order key (old ++ new)) ≡ rows_pass ev checks (in_order key new)
    passing_rows [] new h = refl
    passing_rows (row ∷ old) new h =
        passing_placed row (in_order key (old ++ new)) (All-head Passes row old h) ∙ passing_rows old new (All-tail Passes row old h)
