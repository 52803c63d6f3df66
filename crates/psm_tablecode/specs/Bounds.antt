-- The bounds between which a test asks for keys: values of a key's first columns, and a range of values of the column after them
-- (ISO/IEC 9075:1992, 8.2 and 8.3).
use Rattle.std.specs.Prelude.{Bool, true, false, ℕ, List, [], ◌∷◌, ◌&&◌, filter, Option, Some, None, if◌then◌else◌}
use Rattle.std.specs.Option.{option_or}
use Rattle.std.specs.Ordering.{is_eq, is_ge, is_gt, is_le, is_lt}
use Rattle.psm_value.specs.declared.datum.Datum.{Datum}
use Rattle.psm_value.specs.Order.{data_order}
use Rattle.psm_exprcode.specs.declared.op.Line.{Line}
use Rattle.psm_exprcode.specs.declared.op.Op.{Op}
use Rattle.psm_exprcode.specs.declared.op.Op.TheVariants as op
use Rattle.psm_table.specs.Key.{values_at}
use Rattle.psm_table.specs.Queries.{in_walk}
use Rattle.psm_table.specs.Table.{Contents}
use Rattle.psm_tablecode.specs.Tests.{are_quiet, first_four, first_three, fixed, is_column, made, sought}

-- ---- bounds

-- an end of a range: a value, and whether it is in the range
pub record End : Type 0 where
  pub value : Datum
  pub is_in : Bool

abbrev pub end_with : Datum → Bool → End
end_with d is_in = record { value = d; is_in = is_in }

-- values of the first columns of a key, and the range of the column after them
pub record Bounds : Type 0 where
  pub firsts : List Datum
  pub low : Option End
  pub high : Option End

abbrev pub bounds_with : List Datum → Option End → Option End → Bounds
bounds_with firsts low high = record { firsts = firsts; low = low; high = high }

abbrev pub is_from : Option End → Datum → Bool
is_from None d = true
is_from (Some e) d = if e.is_in then is_ge (data_order d e.value) else is_gt (data_order d e.value)

abbrev pub is_up_to : Option End → Datum → Bool
is_up_to None d = true
is_up_to (Some e) d = if e.is_in then is_le (data_order d e.value) else is_lt (data_order d e.value)

-- whether the values of a key have those first values, and the one after them is in the range
abbrev pub has_between : List Datum → Option End → Option End → List Datum → Bool
has_between [] low high [] = true
has_between [] low high (d ∷ key) = is_from low d && is_up_to high d
has_between (v ∷ vs) low high [] = false
has_between (v ∷ vs) low high (d ∷ key) = is_eq (data_order d v) && has_between vs low high key

-- whether the key of a row is between bounds
abbrev pub is_between : List ℕ → Bounds → List Datum → Bool
is_between columns bounds row = has_between bounds.firsts bounds.low bounds.high (values_at columns row)

-- ---- what a test asks for

-- whether the left side of a comparison is from, or up to, its right side on, and whether with it
abbrev pub from_test : Op → Option Bool
from_test op.Greater = Some false
from_test op.GreaterOrEqual = Some true
from_test o = None

abbrev pub up_to_test : Op → Option Bool
up_to_test op.Less = Some false
up_to_test op.LessOrEqual = Some true
up_to_test o = None

abbrev pub end_of : Option Bool → Option Datum → Option End
end_of None d = None
end_of (Some is_in) None = None
end_of (Some is_in) (Some d) = Some (end_with d is_in)

-- the end that two operands and a comparison give to a column, where these tests are asked of it from its left side or from its right side
abbrev pub by_sides : (Op → Option Bool) → (Op → Option Bool) → ℕ → List Datum → Op → Op → Op → Option End
by_sides left right c vars a b e = if is_column c a then end_of (left e) (fixed vars b) else if is_column c b then end_of (right e) (fixed vars a) else None

abbrev pub low_made : ℕ → List Datum → Op → Op → Op → Option End
low_made c vars a b e = by_sides from_test up_to_test c vars a b e

abbrev pub high_made : ℕ → List Datum → Op → Op → Op → Option End
high_made c vars a b e = by_sides up_to_test from_test c vars a b e

abbrev pub is_range : Op → Bool
is_range op.Between = true
is_range o = false

-- the end with the first value, if there are two
abbrev pub end_of_two : Option Datum → Option Datum → Option End
end_of_two None p = None
end_of_two (Some d) None = None
end_of_two (Some d) (Some f) = Some (end_with d true)

-- the ends that BETWEEN gives to a column
abbrev pub low_between : ℕ → List Datum → Op → Op → Op → Op → Option End
low_between c vars x a b e = if is_range e then (if is_column c x then end_of_two (fixed vars a) (fixed vars b) else None) else None

abbrev pub high_between : ℕ → List Datum → Op → Op → Op → Op → Option End
high_between c vars x a b e = if is_range e then (if is_column c x then end_of_two (fixed vars b) (fixed vars a) else None) else None

-- the ends of the range of a column: of the first comparison that gives one, or else of the first BETWEEN
abbrev pub low_sought : ℕ → List Datum → List Line → Option End
low_sought c vars lines = option_or (made 3 (first_three (low_made c vars)) lines) (made 4 (first_four (low_between c vars)) lines)

abbrev pub high_sought : ℕ → List Datum → List Line → Option End
high_sought c vars lines = option_or (made 3 (first_three (high_made c vars)) lines) (made 4 (first_four (high_between c vars)) lines)

abbrev pub of_range : Option End → Option End → Bounds
of_range low high = bounds_with [] low high

abbrev pub after_first : Datum → Bounds → Bounds
after_first d bounds = record bounds { firsts = d ∷ bounds.firsts }

-- the first columns as long as each is made equal to a value, and the range of the one after them
abbrev pub bounds_by : Option Datum → Bounds → Bounds → Bounds
bounds_by (Some d) more range = after_first d more
bounds_by None more range = range

abbrev pub bounds_of : List ℕ → List Datum → List Line → Bounds
bounds_of [] vars lines = of_range None None
bounds_of (c ∷ columns) vars lines = bounds_by (sought c vars lines) (bounds_of columns vars lines) (of_range (low_sought c vars lines) (high_sought c vars lines))

-- the bounds for which a test asks, of a table whose key is those columns; a test that could raise a condition asks for none
abbrev pub bounds_asked : List ℕ → List Datum → Option (List Line) → Option Bounds
bounds_asked columns vars None = None
bounds_asked columns vars (Some lines) = if are_quiet lines then Some (bounds_of columns vars lines) else None

-- ---- walks

abbrev pub rows_within : Contents → Bool → Option Bounds → List (List Datum)
rows_within t downward None = in_walk downward t.rows
rows_within t downward (Some bounds) = filter (is_between t.def.key bounds) (in_walk downward t.rows)
