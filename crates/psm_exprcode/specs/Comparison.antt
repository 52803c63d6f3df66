-- Comparisons (ISO/IEC 9075:1992, 8.2), and BETWEEN, IN and NULLIF, which stand for them (8.3, 8.4 and 6.9).
use Rattle.std.specs.Prelude.{Bool, true, false, List, [], ◌∷◌, Option, Some, None, if◌then◌else◌}
use Rattle.std.specs.Ordering.{is_eq, is_ne, is_lt, is_le, is_gt, is_ge}
use Rattle.std.specs.declared.cmp.Ordering.{Ordering}
use Rattle.psm_value.specs.declared.datum.Datum.{Datum}
use Rattle.psm_value.specs.declared.datum.Datum.TheVariants.{Null, Num, Text}
use Rattle.psm_value.specs.declared.truth.Truth.{Truth}
use Rattle.psm_value.specs.declared.truth.Truth.TheVariants.{True, False, Unknown}
use Rattle.psm_value.specs.Order.{compared}
use Rattle.psm_value.specs.Truth.{both, either, is_certain}
use Rattle.psm_exprcode.specs.declared.comparing.Test.{Test}
use Rattle.psm_exprcode.specs.declared.comparing.Test.TheVariants.{Equal, Unequal, Less, AtMost, Greater, AtLeast}

-- a test that is decided
abbrev pub truth_of : Bool → Truth
truth_of true = True
truth_of false = False

-- whether the order is as the comparison asks
abbrev pub holds : Test → Ordering → Bool
holds Equal o = is_eq o
holds Unequal o = is_ne o
holds Less o = is_lt o
holds AtMost o = is_le o
holds Greater o = is_gt o
holds AtLeast o = is_ge o

-- unknown where there is no order
abbrev pub judged : Test → Option Ordering → Truth
judged test None = Unknown
judged test (Some o) = truth_of (holds test o)

-- the comparison of two values
abbrev pub tested : Test → Datum → Datum → Truth
tested test a b = judged test (compared a b)

-- low <= a and a <= high
abbrev pub between : Datum → Datum → Datum → Truth
between a low high = both (tested AtLeast a low) (tested AtMost a high)

-- the value is equal to one of the others; false where there is none
abbrev pub among : Datum → List Datum → Truth
among a [] = False
among a (b ∷ bs) = either (tested Equal a b) (among a bs)

-- null where the two are equal, and else the first
abbrev pub unless_equal : Datum → Datum → Datum
unless_equal a b = if is_certain (tested Equal a b) then Null else a

-- whether a value is null
abbrev pub is_null : Datum → Bool
is_null Null = true
is_null (Num n) = false
is_null (Text t) = false
