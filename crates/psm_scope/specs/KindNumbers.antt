-- Kinds by their numbers, by which two are distinguished.
use Rattle.std.specs.Prelude.{ℕ, Bool, nat_eq}
use Rattle.psm_scope.specs.declared.kinds.ArgKind.{ArgKind}
use Rattle.psm_scope.specs.declared.kinds.ArgKind.TheVariants.{SmallInt, Integer, Numeric, Char, VarChar, Null}

abbrev pub kind_number : ArgKind → ℕ
kind_number SmallInt = 0
kind_number Integer = 1
kind_number Numeric = 2
kind_number Char = 3
kind_number VarChar = 4
kind_number Null = 5

abbrev pub is_kind : ArgKind → ArgKind → Bool
is_kind a b = nat_eq (kind_number a) (kind_number b)
