-- Cursors over one table (ISO/IEC 9075:1992, 13.1 to 13.9).
use Rattle.std.specs.Prelude.{Bool, true, false, ℕ, List, [], ◌∷◌, filter, Option, Some, None, Result, Ok, if◌then◌else◌}
use Rattle.std.specs.Ordering.{is_eq, is_lt, is_gt}
use Rattle.psm_sqlstate.specs.declared.state.SqlState.{SqlState}
use Rattle.psm_value.specs.declared.datum.Datum.{Datum}
use Rattle.psm_value.specs.declared.truth.Truth.{Truth}
use Rattle.psm_table.specs.Evaluator.{Evaluator, and_then, mapped, test_of}
use Rattle.psm_table.specs.Key.{values_at, key_order}
use Rattle.psm_table.specs.Queries.{Query, in_walk, is_met}

-- where a plain cursor stands: the key that it reached, if any; whether it is on that row, and whether it is past the last row
pub record Position : Type 0 where
  pub bound : Option (List Datum)
  pub is_on_row : Bool
  pub is_past_last : Bool

pub data Cursor : Type 0 where
  Closed : Cursor
  -- it sees the rows as they are when it is moved, and the variables as they were when it was opened
  Plain : Position → List Datum → Cursor
  -- the rows of its answer that are left, which was taken when it was opened
  Insensitive : List (List Datum) → Cursor

-- an open plain cursor is before the first row
abbrev pub before_first : Position
before_first = record { bound = None; is_on_row = false; is_past_last = false }

-- ---- FETCH

-- whether a row lies past a key in the order of the walk
abbrev pub lies_past : List ℕ → Bool → Option (List Datum) → List Datum → Bool
lies_past key downward None row = true
lies_past key downward (Some bound) row = if downward then is_gt (key_order bound (values_at key row)) else is_lt (key_order bound (values_at key row))

abbrev pub rows_past : List ℕ → Bool → Option (List Datum) → List (List Datum) → List (List Datum)
rows_past key downward bound rows = filter (lies_past key downward bound) (in_walk downward rows)

-- the first row that meets a test; a condition before it is raised
abbrev pub first_met : (List Datum → Result Truth SqlState) → List (List Datum) → Result (Option (List Datum)) SqlState
first_met test [] = Ok None
first_met test (row ∷ rows) = and_then (test row) (λ met. if is_met met then Ok (Some row) else first_met test rows)

-- the cursor stands on the row that is found; without one it is past the last row, and stays there
abbrev pub arrived : List ℕ → Position → Option (List Datum) → Option (List Datum) × Position
arrived key p None = (None, record p { is_on_row = false; is_past_last = true })
arrived key p (Some row) = (Some row, record { bound = Some (values_at key row); is_on_row = true; is_past_last = false })

-- the row that FETCH finds over the rows of the table, which stand in the order of their keys, and where the cursor stands then;
-- a condition leaves the cursor where it was
abbrev pub advanced : {E : Type 0} → Evaluator E → Query E → List ℕ → List (List Datum) → Position → Result (Option (List Datum) × Position) SqlState
advanced ev query key rows p = if p.is_past_last then Ok (None, p)
    else mapped (arrived key p) (first_met (test_of ev query.test) (rows_past key query.downward p.bound rows))

-- ---- positioned statements

-- the row with a key, if it is there
abbrev pub row_of_key : List ℕ → List Datum → List (List Datum) → Option (List Datum)
row_of_key key k [] = None
row_of_key key k (row ∷ rows) = if is_eq (key_order k (values_at key row)) then Some row else row_of_key key k rows

abbrev pub row_at : List ℕ → List (List Datum) → Option (List Datum) → Option (List Datum)
row_at key rows None = None
row_at key rows (Some bound) = row_of_key key bound rows

-- the row on which a cursor stands: the one that has its key now
abbrev pub current : List ℕ → List (List Datum) → Position → Option (List Datum)
current key rows p = if p.is_on_row then row_at key rows p.bound else None

-- after a positioned DELETE, or a positioned UPDATE of the key, it stands on no row until it is moved
abbrev pub without_row : Position → Position
without_row p = record p { is_on_row = false }
