-- What distinguishes a routine from the others of its name.
use Rattle.std.specs.Prelude.{ℕ, Bool, ◌&&◌, nat_eq, List, [], length, map, if◌then◌else◌}
use Rattle.std.specs.Cmp.Lexicographic.{pointwise}
use Rattle.psm_value.specs.declared.sqltype.SqlType.{SqlType}
use Rattle.psm_value.specs.declared.sqltype.SqlType.TheVariants.{SmallInt, Integer, Numeric, Char, VarChar}
use Rattle.psm_code.specs.declared.code.Parameter.{Parameter}
use Rattle.psm_code.specs.declared.code.RawRoutine.{RawRoutine}
use Rattle.psm_code.specs.Rules.{is_same}
use Rattle.psm_code.specs.RoutineRules.{same_truth}

abbrev pub kind_number : SqlType → ℕ
kind_number SmallInt = 0
kind_number Integer = 1
kind_number (Numeric p s) = 2
kind_number (Char n) = 3
kind_number (VarChar n) = 4

abbrev pub kind_numbers : List Parameter → List ℕ
kind_numbers ps = map (λ p. kind_number p.kind) ps

-- the number of parameters is a procedure's, and their kinds are a function's
pub record Signature : Type 0 where
  pub name : List ℕ
  pub is_function : Bool
  pub count : ℕ
  pub kinds : List ℕ

abbrev pub signature_of : RawRoutine → Signature
signature_of r = record {
  name = r.name;
  is_function = r.is_function;
  count = if r.is_function then 0 else length r.parameters;
  kinds = if r.is_function then kind_numbers r.parameters else [];
}

abbrev pub is_same_signature : Signature → Signature → Bool
is_same_signature a b = is_same a.name b.name && (same_truth a.is_function b.is_function && (nat_eq a.count b.count && pointwise nat_eq a.kinds b.kinds))
