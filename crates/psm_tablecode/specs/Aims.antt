-- What is looked for in a test of a column, and what its predicates make of it.
use Rattle.std.specs.Prelude.{Bool, true, false, ℕ, List, Option, Some, None, if◌then◌else◌}
use Rattle.psm_value.specs.declared.datum.Datum.{Datum}
use Rattle.psm_exprcode.specs.declared.op.Line.{Line}
use Rattle.psm_exprcode.specs.declared.op.Op.{Op}
use Rattle.psm_tablecode.specs.declared.asking.Aim.{Aim}
use Rattle.psm_tablecode.specs.declared.asking.Aim.TheVariants.{Value, Low, High, LowOfTwo, HighOfTwo}
use Rattle.psm_tablecode.specs.declared.asking.Found.{Found}
use Rattle.psm_tablecode.specs.Bounds.{by_sides, end_of_two, end_with, from_test, is_range, up_to_test, End}
use Rattle.psm_tablecode.specs.Tests.{first_four, first_three, fixed, is_column, is_equality, made}

-- what is found, as an end
abbrev pub seen : Found → End
seen f = end_with f.value.now f.is_in

-- whether BETWEEN makes it
abbrev pub is_of_two : Aim → Bool
is_of_two Value = false
is_of_two Low = false
is_of_two High = false
is_of_two LowOfTwo = true
is_of_two HighOfTwo = true

-- from how many lines it is made
abbrev pub width : Aim → ℕ
width aim = if is_of_two aim then 4 else 3

abbrev pub equal_test : Op → Option Bool
equal_test o = if is_equality o then Some true else None

-- whether a comparison makes it of its left side, or of its right side, and whether as an end that is in the range
abbrev pub side : Aim → Bool → Op → Option Bool
side Value is_right o = equal_test o
side Low is_right o = if is_right then up_to_test o else from_test o
side High is_right o = if is_right then from_test o else up_to_test o
side LowOfTwo is_right o = None
side HighOfTwo is_right o = None

abbrev pub of_three : Aim → ℕ → List Datum → Op → Op → Op → Option End
of_three aim c vars a b e = by_sides (side aim false) (side aim true) c vars a b e

-- which of the values of BETWEEN it is
abbrev pub of_two : Aim → Option Datum → Option Datum → Option End
of_two Value low high = None
of_two Low low high = None
of_two High low high = None
of_two LowOfTwo low high = end_of_two low high
of_two HighOfTwo low high = end_of_two high low

abbrev pub of_four : Aim → ℕ → List Datum → Op → Op → Op → Op → Option End
of_four aim c vars x a b e = if is_range e then (if is_column c x then of_two aim (fixed vars a) (fixed vars b) else None) else None

-- what the first of some lines make
abbrev pub maker : Aim → ℕ → List Datum → List Line → Option End
maker aim c vars lines = if is_of_two aim then first_four (of_four aim c vars) lines else first_three (of_three aim c vars) lines

-- what the lines make of a column where they end with true
abbrev pub made_for : Aim → ℕ → List Datum → List Line → Option End
made_for aim c vars lines = made (width aim) (maker aim c vars) lines
