-- What a walk over the rows of a table collects.
use Rattle.std.specs.Prelude.{ℕ, List, [], ◌∷◌, ◌++◌, Option, Some, None, Result, Ok}
use Rattle.psm_sqlstate.specs.declared.state.SqlState.{SqlState}
use Rattle.psm_value.specs.declared.datum.Datum.{Datum}
use Rattle.psm_table.specs.Key.{values_at}

-- the key of a row
abbrev pub key_in : List ℕ → List Datum → Result (List Datum) SqlState
key_in columns row = Ok (values_at columns row)

-- the list with one more at its end, if there is one
abbrev pub with_option : {A : Type 0} → List A → Option A → List A
with_option done None = done
with_option done (Some a) = done ++ a ∷ []
