-- The kinds of what operations evaluate to.
use Rattle.std.proofs.Common.{◌≡◌, ℕ, Bool, true, false, List, refl, Option, Some, None, Result, Ok, Err}
use Rattle.std.specs.Prelude.{codes, if◌then◌else◌}
use Rattle.psm_num.specs.declared.fault.NumFault.{NumFault}
use Rattle.psm_num.specs.declared.fault.NumFault.TheVariants.{Range, Zero, NotNumber}
use Rattle.psm_num.specs.Num as num
use Rattle.psm_num.specs.Num.{checked}
use Rattle.psm_num.specs.Arithmetic.{at_scale, total, difference, product, divided}
use Rattle.psm_num.specs.Printed.{printed}
use Rattle.psm_num.specs.Split.{number_of}
use Rattle.psm_text.specs.declared.fault.TextFault.{TextFault}
use Rattle.psm_text.specs.Parts.{joined, substring_of}
use Rattle.psm_text.specs.Storing as text
use Rattle.psm_value.specs.declared.datum.Datum.{Datum}
use Rattle.psm_value.specs.declared.datum.Datum.TheVariants.{Null, Num, Text}
use Rattle.psm_value.specs.declared.sqltype.SqlType.{SqlType}
use Rattle.psm_value.specs.declared.sqltype.SqlType.TheVariants.{SmallInt, Integer, Numeric, Char, VarChar}
use Rattle.psm_value.specs.Arithmetic.{as_datum, numbers_of, on_numbers, sum_of, difference_of, product_of, quotient_of, negated_of}
use Rattle.psm_value.specs.Cast.{cast_of, then_stored, trimmed}
use Rattle.psm_value.specs.Stored.{is_in_range, stored}
use Rattle.psm_value.specs.TextFaults.{as_text}
use Rattle.psm_exprcode.specs.declared.op.Letter.{Letter}
use Rattle.psm_exprcode.specs.declared.op.Letter.TheVariants.{N, T, B}
use Rattle.psm_exprcode.specs.Comparison.{unless_equal, tested}
use Rattle.psm_exprcode.specs.declared.comparing.Test.TheVariants as test
use Rattle.psm_value.specs.Truth.{is_certain}
use Rattle.psm_exprcode.specs.Kinds.{is_value, has_letter, letter_of}
use Rattle.psm_exprcode.specs.Values.{rescaled, concatenated, length_of, position_of, cut_of, part_from, part_of_text, part_of, on_text}
use Rattle.psm_exprcode.proofs.Standing.{gives}

pub null-letter : (k : Letter) → is_value k ≡ true → has_letter k Null ≡ true
null-letter N h = refl
null-letter T h = refl
null-letter B h = h

-- ---- numbers

number-gives : (r : Result num.Num NumFault) → gives N (as_datum r) ≡ true
number-gives (Ok n) = refl
number-gives (Err Range) = refl
number-gives (Err Zero) = refl
number-gives (Err NotNumber) = refl

on_numbers-gives : (f : num.Num → num.Num → Result num.Num NumFault) (n : Option (num.Num × num.Num)) → gives N (on_numbers f n) ≡ true
on_numbers-gives f (Some n) = number-gives (f n.0 n.1)
on_numbers-gives f None = refl

pub sum-gives : (a b : Datum) → gives N (sum_of a b) ≡ true
sum-gives a b = on_numbers-gives (λ x y. checked (total x y)) (numbers_of a b)

pub difference-gives : (a b : Datum) → gives N (difference_of a b) ≡ true
difference-gives a b = on_numbers-gives (λ x y. checked (difference x y)) (numbers_of a b)

pub product-gives : (a b : Datum) → gives N (product_of a b) ≡ true
product-gives a b = on_numbers-gives (λ x y. checked (product x y)) (numbers_of a b)

pub quotient-gives : (a b : Datum) → gives N (quotient_of a b) ≡ true
quotient-gives a b = on_numbers-gives divided (numbers_of a b)

pub negated-gives : (a : Datum) → has_letter N (negated_of a) ≡ true
negated-gives Null = refl
negated-gives (Num n) = refl
negated-gives (Text t) = refl

pub rescaled-gives : (s : ℕ) (a : Datum) → gives N (rescaled s a) ≡ true
rescaled-gives s Null = refl
rescaled-gives s (Num n) = number-gives (checked (at_scale n s))
rescaled-gives s (Text t) = refl

-- ---- texts

text-gives : (r : Result (List ℕ) TextFault) → gives T (as_text r) ≡ true
text-gives (Ok t) = refl
text-gives (Err fault) = refl

pub concatenated-gives : (a b : Datum) → gives T (concatenated a b) ≡ true
concatenated-gives (Text a) (Text b) = text-gives (joined a b)
concatenated-gives (Text a) Null = refl
concatenated-gives (Text a) (Num n) = refl
concatenated-gives Null b = refl
concatenated-gives (Num n) b = refl

pub length-gives : (a : Datum) → has_letter N (length_of a) ≡ true
length-gives Null = refl
length-gives (Num n) = refl
length-gives (Text t) = refl

pub position-gives : (a b : Datum) → has_letter N (position_of a b) ≡ true
position-gives (Text a) (Text b) = refl
position-gives (Text a) Null = refl
position-gives (Text a) (Num n) = refl
position-gives Null b = refl
position-gives (Num n) b = refl

pub part_from-gives : (a b : Datum) → gives T (part_from a b) ≡ true
part_from-gives (Text t) (Num n) = text-gives (substring_of (cut_of n) None t)
part_from-gives (Text t) Null = refl
part_from-gives (Text t) (Text u) = refl
part_from-gives Null b = refl
part_from-gives (Num n) b = refl

part_of_text-gives : (t : List ℕ) (b c : Datum) → gives T (part_of_text t b c) ≡ true
part_of_text-gives t (Num n) (Num m) = text-gives (substring_of (cut_of n) (Some (cut_of m)) t)
part_of_text-gives t (Num n) Null = refl
part_of_text-gives t (Num n) (Text u) = refl
part_of_text-gives t Null c = refl
part_of_text-gives t (Text u) c = refl

pub part_of-gives : (a b c : Datum) → gives T (part_of a b c) ≡ true
part_of-gives (Text t) b c = part_of_text-gives t b c
part_of-gives Null b c = refl
part_of-gives (Num n) b c = refl

pub on_text-gives : (change : List ℕ → List ℕ) (a : Datum) → has_letter T (on_text change a) ≡ true
on_text-gives change Null = refl
on_text-gives change (Num n) = refl
on_text-gives change (Text t) = refl

-- ---- NULLIF and CAST

chosen-gives : (k : Letter) (a : Datum) (b : Bool) → is_value k ≡ true → has_letter k a ≡ true → has_letter k (if b then Null else a) ≡ true
chosen-gives k a true v h = null-letter k v
chosen-gives k a false v h = h

pub unless_equal-gives : (k : Letter) (a b : Datum) → is_value k ≡ true → has_letter k a ≡ true → has_letter k (unless_equal a b) ≡ true
unless_equal-gives k a b v h = chosen-gives k a (is_certain (tested test.Equal a b)) v h

pub letter_of-value : (to : SqlType) → is_value (letter_of to) ≡ true
letter_of-value SmallInt = refl
letter_of-value Integer = refl
letter_of-value (Numeric p s) = refl
letter_of-value (Char n) = refl
letter_of-value (VarChar n) = refl

in_range-gives : (n : num.Num) (b : Bool) → gives N (if b then Ok (Num n) else Err (codes "22003")) ≡ true
in_range-gives n true = refl
in_range-gives n false = refl

stored-gives : (to : SqlType) (d : Datum) → gives (letter_of to) (stored to d) ≡ true
stored-gives SmallInt Null = refl
stored-gives SmallInt (Num n) = in_range-gives (at_scale n 0) (is_in_range SmallInt (at_scale n 0).coef)
stored-gives SmallInt (Text t) = refl
stored-gives Integer Null = refl
stored-gives Integer (Num n) = in_range-gives (at_scale n 0) (is_in_range Integer (at_scale n 0).coef)
stored-gives Integer (Text t) = refl
stored-gives (Numeric p s) Null = refl
stored-gives (Numeric p s) (Num n) = in_range-gives (at_scale n s) (is_in_range (Numeric p s) (at_scale n s).coef)
stored-gives (Numeric p s) (Text t) = refl
stored-gives (Char m) Null = refl
stored-gives (Char m) (Num n) = refl
stored-gives (Char m) (Text t) = text-gives (text.stored m true t)
stored-gives (VarChar m) Null = refl
stored-gives (VarChar m) (Num n) = refl
stored-gives (VarChar m) (Text t) = text-gives (text.stored m false t)

then_stored-gives : (to : SqlType) (r : Result Datum (List ℕ)) → gives (letter_of to) (then_stored to r) ≡ true
then_stored-gives to (Ok d) = stored-gives to d
then_stored-gives to (Err state) = refl

pub cast-gives : (to : SqlType) (a : Datum) → gives (letter_of to) (cast_of to a) ≡ true
cast-gives to Null = null-letter (letter_of to) (letter_of-value to)
cast-gives SmallInt (Num n) = stored-gives SmallInt (Num n)
cast-gives Integer (Num n) = stored-gives Integer (Num n)
cast-gives (Numeric p s) (Num n) = stored-gives (Numeric p s) (Num n)
cast-gives (Char m) (Num n) = stored-gives (Char m) (Text (printed n))
cast-gives (VarChar m) (Num n) = stored-gives (VarChar m) (Text (printed n))
cast-gives SmallInt (Text t) = then_stored-gives SmallInt (as_datum (number_of (trimmed t)))
cast-gives Integer (Text t) = then_stored-gives Integer (as_datum (number_of (trimmed t)))
cast-gives (Numeric p s) (Text t) = then_stored-gives (Numeric p s) (as_datum (number_of (trimmed t)))
cast-gives (Char m) (Text t) = stored-gives (Char m) (Text t)
cast-gives (VarChar m) (Text t) = stored-gives (VarChar m) (Text t)
