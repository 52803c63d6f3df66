-- A declared type that is known is within bounds.
use Rattle.std.proofs.Common.{◌≡◌, ◌≤◌, ℕ, Bool, true, false, ◌&&◌, nat_le, refl, arith}
use Rattle.std.specs.Prelude.{Option, Some, None, option_map, if◌then◌else◌}
use Rattle.std.specs.Option.{IfSome}
use Rattle.std.proofs.lemmas.Bool.Decides.{nat_tests}
use Rattle.psm_value.specs.SqlType.{IsType}
use Rattle.psm_value.specs.declared.sqltype.SqlType.TheVariants as types
use Rattle.psm_tree.specs.declared.types.DataType.{DataType}
use Rattle.psm_tree.specs.declared.types.TypeForm.{TypeForm}
use Rattle.psm_tree.specs.declared.types.TypeForm.TheVariants as forms
use Rattle.psm_rules.specs.Types.{decimals, digits_within, length_in, type_in, type_of, whole}

length_bounds : (n : ℕ) → (nat_le 1 n && nat_le n 4000) ≡ true → (1 ≤ n) × (n ≤ 4000)
length_bounds n e = (grind (arith, nat_tests, e), grind (arith, nat_tests, e))

digits_bounds : (p s : ℕ) → (nat_le 1 p && nat_le p 18 && nat_le s p) ≡ true → (1 ≤ p) × (p ≤ 18) × (s ≤ p)
digits_bounds p s e = (grind (arith, nat_tests, e), grind (arith, nat_tests, e), grind (arith, nat_tests, e))

char_within : (n : Option ℕ) → IfSome (option_map (λ n. types.Char n) (length_in n)) IsType
char_within None = tt
char_within (Some n) = by (nat_le 1 n && nat_le n 4000) refl
  where
    by : (b : Bool) → (nat_le 1 n && nat_le n 4000) ≡ b → IfSome (option_map (λ n. types.Char n) (if b then Some n else None)) IsType
    by true e = length_bounds n e
    by false e = tt

varchar_within : (n : Option ℕ) → IfSome (option_map (λ n. types.VarChar n) (length_in n)) IsType
varchar_within None = tt
varchar_within (Some n) = by (nat_le 1 n && nat_le n 4000) refl
  where
    by : (b : Bool) → (nat_le 1 n && nat_le n 4000) ≡ b → IfSome (option_map (λ n. types.VarChar n) (if b then Some n else None)) IsType
    by true e = length_bounds n e
    by false e = tt

numeric_within : (p s : Option ℕ) → IfSome (digits_within p s) IsType
numeric_within None s = tt
numeric_within (Some p) None = tt
numeric_within (Some p) (Some s) = by (nat_le 1 p && nat_le p 18 && nat_le s p) refl
  where
    by : (b : Bool) → (nat_le 1 p && nat_le p 18 && nat_le s p) ≡ b → IfSome (if b then Some (types.Numeric p s) else None) IsType
    by true e = digits_bounds p s e
    by false e = tt

form_within : (t : TypeForm) → IfSome (type_in t) IsType
form_within forms.SmallInt = tt
form_within forms.Integer = tt
form_within (forms.Numeric None) = (omega arith, omega arith, omega arith)
form_within (forms.Numeric (Some p)) = numeric_within (whole p.precision) (decimals p.scale)
form_within (forms.Char None) = (omega arith, omega arith)
form_within (forms.Char (Some n)) = char_within (whole n)
form_within (forms.VarChar n) = varchar_within (whole n)

pub type_within : (t : DataType) → IfSome (type_of t) IsType
type_within t = form_within t.form
