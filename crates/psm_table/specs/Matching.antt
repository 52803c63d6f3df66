-- What a look-up by a UNIQUE list finds (ISO/IEC 9075:1992, 8.9).
use Rattle.std.specs.Prelude.{ℕ, List, [], ◌∷◌, filter, Option, Some, None}
use Rattle.psm_value.specs.declared.datum.Datum.{Datum}
use Rattle.psm_table.specs.declared.unique.Matching.{Matching}
use Rattle.psm_table.specs.declared.unique.Matching.TheVariants.{Nothing, One, Several}
use Rattle.psm_table.specs.Key.{values_at}
use Rattle.psm_table.specs.Unique.{equal_values}

-- the rows that have the values in the columns, none of them null
abbrev pub rows_with : List ℕ → List Datum → List (List Datum) → List (List Datum)
rows_with columns values rows = filter (λ row. equal_values values (values_at columns row)) rows

-- the rows, if there is at most one
abbrev pub at_most_one : List (List Datum) → Option (List (List Datum))
at_most_one [] = Some []
at_most_one (row ∷ []) = Some (row ∷ [])
at_most_one (row ∷ other ∷ rows) = None

-- the rows that were found, unless there are several
abbrev pub matched : Matching → Option (List (List Datum))
matched Nothing = Some []
matched (One row) = Some (row.now ∷ [])
matched Several = None
