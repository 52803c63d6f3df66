-- How expressions over the columns of a row are evaluated, whatever an expression is.
use Rattle.std.specs.Prelude.{List, Option, Some, None, Result, Ok, Err, [], ◌∷◌}
use Rattle.psm_sqlstate.specs.declared.state.SqlState.{SqlState}
use Rattle.psm_value.specs.declared.datum.Datum.{Datum}
use Rattle.psm_value.specs.declared.truth.Truth.{Truth}
use Rattle.psm_value.specs.declared.truth.Truth.TheVariants.{True}

-- to a value, and as a test to a truth value, or to the first condition that is raised
pub record Evaluator (E : Type 0) : Type 0 where
  pub value : E → List Datum → Result Datum SqlState
  pub truth : E → List Datum → Result Truth SqlState

-- what goes on where no condition is raised
abbrev pub and_then : {A B : Type 0} → Result A SqlState → (A → Result B SqlState) → Result B SqlState
and_then (Ok a) go = go a
and_then (Err state) go = Err state

abbrev pub mapped : {A B : Type 0} → (A → B) → Result A SqlState → Result B SqlState
mapped f (Ok a) = Ok (f a)
mapped f (Err state) = Err state

-- what is taken of each, from the left
abbrev pub collected : {A B : Type 0} → (A → Result B SqlState) → List A → Result (List B) SqlState
collected take [] = Ok []
collected take (a ∷ others) = and_then (take a) (λ b. mapped (λ bs. b ∷ bs) (collected take others))

-- the values of some expressions on a row, from the left
abbrev pub values_of : {E : Type 0} → Evaluator E → List E → List Datum → Result (List Datum) SqlState
values_of ev es row = collected (λ e. ev.value e row) es

-- a test on a row; without a test it is true
abbrev pub test_of : {E : Type 0} → Evaluator E → Option E → List Datum → Result Truth SqlState
test_of ev None row = Ok True
test_of ev (Some e) row = ev.truth e row
