-- The kinds of values and operands, by letters: N for a number or null, T for a text or null, B for a truth value.
-- The letters of operands, and operands, stand with the last one first.
use Rattle.std.specs.Prelude.{Bool, true, false, ◌&&◌, ◌||◌, List, [], ◌∷◌}
use Rattle.psm_value.specs.declared.datum.Datum.{Datum}
use Rattle.psm_value.specs.declared.datum.Datum.TheVariants as data_of
use Rattle.psm_value.specs.declared.sqltype.SqlType.{SqlType}
use Rattle.psm_value.specs.declared.sqltype.SqlType.TheVariants.{SmallInt, Integer, Numeric, Char, VarChar}
use Rattle.psm_exprcode.specs.declared.op.Letter.{Letter}
use Rattle.psm_exprcode.specs.declared.op.Letter.TheVariants.{N, T, B}
use Rattle.psm_exprcode.specs.declared.operand.Operand.{Operand}
use Rattle.psm_exprcode.specs.declared.operand.Operand.TheVariants.{Value, Truth}

-- ---- letters

abbrev pub is_letter : Letter → Letter → Bool
is_letter N N = true
is_letter N T = false
is_letter N B = false
is_letter T N = false
is_letter T T = true
is_letter T B = false
is_letter B N = false
is_letter B T = false
is_letter B B = true

-- whether it is a value's
abbrev pub is_value : Letter → Bool
is_value N = true
is_value T = true
is_value B = false

-- the letter of a type's values
abbrev pub letter_of : SqlType → Letter
letter_of SmallInt = N
letter_of Integer = N
letter_of (Numeric p s) = N
letter_of (Char n) = T
letter_of (VarChar n) = T

-- whether a test holds of the letter of some values
abbrev pub some_value : (Letter → Bool) → Bool
some_value test = test N || test T

-- whether a test holds of some letter
abbrev pub some_letter : (Letter → Bool) → Bool
some_letter test = test N || (test T || test B)

-- ---- values and operands of letters; null is of both kinds of values

abbrev pub has_letter : Letter → Datum → Bool
has_letter N data_of.Null = true
has_letter N (data_of.Num n) = true
has_letter N (data_of.Text t) = false
has_letter T data_of.Null = true
has_letter T (data_of.Num n) = false
has_letter T (data_of.Text t) = true
has_letter B d = false

-- whether values are of those kinds, one for one
abbrev pub are_of : List Letter → List Datum → Bool
are_of [] [] = true
are_of [] (d ∷ ds) = false
are_of (k ∷ ks) [] = false
are_of (k ∷ ks) (d ∷ ds) = has_letter k d && are_of ks ds

abbrev pub is_truths : Letter → Bool
is_truths N = false
is_truths T = false
is_truths B = true

abbrev pub is_of : Letter → Operand → Bool
is_of k (Value d) = has_letter k d
is_of k (Truth t) = is_truths k

-- whether the operands are of those letters, one for one
abbrev pub have : List Letter → List Operand → Bool
have [] [] = true
have [] (o ∷ os) = false
have (k ∷ s) [] = false
have (k ∷ s) (o ∷ os) = is_of k o && have s os
