-- Types and the values that are of their family (ISO/IEC 9075:1992, 6.1).
use Rattle.std.specs.Prelude.{◌≤◌, Bool, true, false, IsTrue, IsFalse}
use Rattle.psm_value.specs.declared.datum.Datum.{Datum}
use Rattle.psm_value.specs.declared.datum.Datum.TheVariants.{Null, Num, Text}
use Rattle.psm_value.specs.declared.sqltype.SqlType.{SqlType}
use Rattle.psm_value.specs.declared.sqltype.SqlType.TheVariants.{SmallInt, Integer, Numeric, Char, VarChar}

-- the digits, decimals and lengths that a type may have
abbrev pub IsType : SqlType → Type 0
IsType SmallInt = Unit {0}
IsType Integer = Unit {0}
IsType (Numeric p s) = (1 ≤ p) × (p ≤ 18) × (s ≤ p)
IsType (Char n) = (1 ≤ n) × (n ≤ 4000)
IsType (VarChar n) = (1 ≤ n) × (n ≤ 4000)

-- whether the type's values are numbers; else they are texts
abbrev pub is_number_type : SqlType → Bool
is_number_type SmallInt = true
is_number_type Integer = true
is_number_type (Numeric p s) = true
is_number_type (Char n) = false
is_number_type (VarChar n) = false

-- null, or a value of the type's family
abbrev pub IsOfFamily : SqlType → Datum → Type 0
IsOfFamily to Null = Unit {0}
IsOfFamily to (Num n) = IsTrue (is_number_type to)
IsOfFamily to (Text t) = IsFalse (is_number_type to)
