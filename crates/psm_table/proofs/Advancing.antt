-- What FETCH finds.
use Rattle.std.proofs.Common.{◌≡◌, ℕ, Bool, true, false, List, [], ◌∷◌, ap, subst}
use Rattle.std.specs.Prelude.{All, Option, Some, None, Result, Ok, Err, if◌then◌else◌}
use Rattle.std.proofs.lemmas.List.Elements.{All-head, All-tail, filter_passes}
use Rattle.psm_sqlstate.specs.declared.state.SqlState.{SqlState}
use Rattle.psm_value.specs.declared.datum.Datum.{Datum}
use Rattle.psm_value.specs.declared.truth.Truth.{Truth}
use Rattle.psm_table.specs.Cursors.{Position, advanced, arrived, first_met, lies_past, rows_past}
use Rattle.psm_table.specs.Evaluator.{Evaluator, and_then, mapped, test_of}
use Rattle.psm_table.specs.Queries.{Query, in_walk, is_met}

abbrev Found : Type 0
Found = Result (Option (List Datum)) SqlState

-- the row in what a cursor evaluates to
abbrev got : Result (Option (List Datum) × Position) SqlState → Option (List Datum)
got (Ok p) = p.0
got (Err state) = None

-- what holds of all rows holds of one that is found among them
module _ (P : List Datum → Type 0) (test : List Datum → Result Truth SqlState) (row : List Datum) where
  met : (b : Bool) (r : List Datum) (others : Found) → P r → (others ≡ Ok (Some row) → P row) → (if b then Ok (Some r) else others) ≡ Ok (Some row) → P row
  met true r others here later e = let is : r ≡ row = cc in subst P is here
  met false r others here later e = later e

  tried : (t : Result Truth SqlState) (r : List Datum) (others : Found) → P r → (others ≡ Ok (Some row) → P row)
      → and_then t (λ met. if is_met met then Ok (Some r) else others) ≡ Ok (Some row) → P row
  tried (Ok t) r others here later e = met (is_met t) r others here later e
  tried (Err state) r others here later e = absurd cc

  found_holds : (rows : List (List Datum)) → All P rows → first_met test rows ≡ Ok (Some row) → P row
  found_holds [] all e = absurd cc
  found_holds (r ∷ rows) all e = tried (test r) r (first_met test rows) (All-head P r rows all) (found_holds rows (All-tail P r rows all)) e

arrived_found : (key : List ℕ) (p q : Position) (row : List Datum) (found : Found) → mapped (arrived key p) found ≡ Ok (Some row, q) → found ≡ Ok (Some row)
arrived_found key p q row (Ok None) e = let none : None ≡ Some row = ap got e in absurd cc
arrived_found key p q row (Ok (Some r)) e = let is : Some r ≡ Some row = ap got e in ap (λ r. Ok r) is
arrived_found key p q row (Err state) e = absurd cc

pub found_onward : {E : Type 0} (ev : Evaluator E) (query : Query E) (key : List ℕ) (rows : List (List Datum)) (p q : Position) (row : List Datum)
    → advanced ev query key rows p ≡ Ok (Some row, q) → lies_past key query.downward p.bound row ≡ true
found_onward ev query key rows p q row e = by p.is_past_last e
  where
    found : Found
    found = first_met (test_of ev query.test) (rows_past key query.downward p.bound rows)

    by : (past : Bool) → (if past then Ok (None, p) else mapped (arrived key p) found) ≡ Ok (Some row, q) → lies_past key query.downward p.bound row ≡ true
    by true e = let none : None ≡ Some row = ap got e in absurd cc
    by false e =
        found_holds (λ r. lies_past key query.downward p.bound r ≡ true) (test_of ev query.test) row (rows_past key query.downward p.bound rows)
        (filter_passes (lies_past key query.downward p.bound) (in_walk query.downward rows)) (arrived_found key p q row found e)
