-- Arithmetic on values (ISO/IEC 9075:1992, 6.12).
use Rattle.std.specs.Prelude.{codes, Option, Some, None, Result, Ok, Err}
use Rattle.psm_num.specs.declared.fault.NumFault.{NumFault}
use Rattle.psm_num.specs.declared.fault.NumFault.TheVariants.{Range, Zero, NotNumber}
use Rattle.psm_num.specs.Num as num
use Rattle.psm_num.specs.Arithmetic.{total, difference, product, divided, negated}
use Rattle.psm_sqlstate.specs.declared.state.SqlState.{SqlState}
use Rattle.psm_value.specs.declared.datum.Datum.{Datum}
use Rattle.psm_value.specs.declared.datum.Datum.TheVariants.{Null, Num, Text}

-- a number as a value, or the SQLSTATE of the condition that there is none
abbrev pub as_datum : Result num.Num NumFault → Result Datum SqlState
as_datum (Ok n) = Ok (Num n)
as_datum (Err Range) = Err (codes "22003")
as_datum (Err Zero) = Err (codes "22012")
as_datum (Err NotNumber) = Err (codes "22018")

-- the two numbers; none where a side is null or a text
abbrev pub numbers_of : Datum → Datum → Option (num.Num × num.Num)
numbers_of (Num a) (Num b) = Some (a, b)
numbers_of (Num a) Null = None
numbers_of (Num a) (Text t) = None
numbers_of Null b = None
numbers_of (Text t) b = None

-- an operator on two numbers, and null where they aren't two
abbrev pub on_numbers : (num.Num → num.Num → Result num.Num NumFault) → Option (num.Num × num.Num) → Result Datum SqlState
on_numbers f (Some n) = as_datum (f n.0 n.1)
on_numbers f None = Ok Null

-- a + b
abbrev pub sum_of : Datum → Datum → Result Datum SqlState
sum_of a b = on_numbers (λ x y. num.checked (total x y)) (numbers_of a b)

-- a - b
abbrev pub difference_of : Datum → Datum → Result Datum SqlState
difference_of a b = on_numbers (λ x y. num.checked (difference x y)) (numbers_of a b)

-- a * b
abbrev pub product_of : Datum → Datum → Result Datum SqlState
product_of a b = on_numbers (λ x y. num.checked (product x y)) (numbers_of a b)

-- a / b, where a zero divisor comes before a number out of range
abbrev pub quotient_of : Datum → Datum → Result Datum SqlState
quotient_of a b = on_numbers divided (numbers_of a b)

-- -a
abbrev pub negated_of : Datum → Datum
negated_of Null = Null
negated_of (Num n) = Num (negated n)
negated_of (Text t) = Null
