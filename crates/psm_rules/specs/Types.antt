-- The types that are declared, and which of them are within bounds (ISO/IEC 9075:1992, 6.1).
use Rattle.std.specs.Prelude.{ℕ, ◌+ℤ◌, unsigned_abs, nat_eq, nat_le, ◌&&◌, Option, Some, None, option_map, if◌then◌else◌}
use Rattle.psm_num.specs.Num.{Num}
use Rattle.psm_value.specs.declared.sqltype.SqlType.{SqlType}
use Rattle.psm_value.specs.declared.sqltype.SqlType.TheVariants as types
use Rattle.psm_tree.specs.declared.types.DataType.{DataType}
use Rattle.psm_tree.specs.declared.types.TypeForm.{TypeForm}
use Rattle.psm_tree.specs.declared.types.TypeForm.TheVariants as forms

-- a number of a type is written without decimals
abbrev pub whole : Num → Option ℕ
whole n = if nat_eq n.scale 0 then Some (unsigned_abs n.coef) else None

-- a length within bounds
abbrev pub length_in : Option ℕ → Option ℕ
length_in None = None
length_in (Some n) = if nat_le 1 n && nat_le n 4000 then Some n else None

abbrev pub digits_within : Option ℕ → Option ℕ → Option SqlType
digits_within None s = None
digits_within (Some p) None = None
digits_within (Some p) (Some s) = if nat_le 1 p && nat_le p 18 && nat_le s p then Some (types.Numeric p s) else None

abbrev pub decimals : Option Num → Option ℕ
decimals None = Some 0
decimals (Some n) = whole n

-- the type, where it is within bounds
abbrev pub type_in : TypeForm → Option SqlType
type_in forms.SmallInt = Some types.SmallInt
type_in forms.Integer = Some types.Integer
type_in (forms.Numeric None) = Some (types.Numeric 18 0)
type_in (forms.Numeric (Some p)) = digits_within (whole p.precision) (decimals p.scale)
type_in (forms.Char None) = Some (types.Char 1)
type_in (forms.Char (Some n)) = option_map (λ n. types.Char n) (length_in (whole n))
type_in (forms.VarChar n) = option_map (λ n. types.VarChar n) (length_in (whole n))

abbrev pub type_of : DataType → Option SqlType
type_of t = type_in t.form
