-- The functions and procedures that are visible.
use Rattle.std.specs.Prelude.{ℕ, Bool, ◌&&◌, nat_eq, slice_index_or, List, [], ◌∷◌, Option, Some, None, Result, Ok, Err, if◌then◌else◌}
use Rattle.psm_value.specs.declared.sqltype.SqlType.{SqlType}
use Rattle.psm_scope.specs.declared.fault.ChoiceFault.{ChoiceFault}
use Rattle.psm_scope.specs.declared.key.CallKey.{CallKey}
use Rattle.psm_scope.specs.declared.kinds.ArgKind.{ArgKind}
use Rattle.psm_scope.specs.Choice.{Signature, chosen}
use Rattle.psm_scope.specs.Scopes.{Spelling, is_spelled}

-- ---- functions: their names and kinds, and the type that each returns, unless that is at fault

pub record Callable : Type 0 where
  pub signatures : List Signature
  pub results : List (Option SqlType)

abbrev pub with_result : List (Option SqlType) → Result ℕ ChoiceFault → Result (ℕ × Option SqlType) ChoiceFault
with_result results (Ok number) = Ok (number, slice_index_or results number None)
with_result results (Err fault) = Err fault

-- the number of the function that a call means, and the type that it returns
abbrev pub function : Callable → List ℕ → List ArgKind → Result (ℕ × Option SqlType) ChoiceFault
function fs name args = with_result fs.results (chosen fs.signatures name args)

-- ---- procedures, by their names and numbers of parameters

abbrev pub Header : Type 0
Header = Spelling × ℕ

abbrev pub is_header : Spelling → ℕ → Header → Bool
is_header n count h = is_spelled n h.0 && nat_eq count h.1

abbrev pub procedure : {A : Type 0} → Spelling → ℕ → List (Header × A) → Option A
procedure n count [] = None
procedure n count (p ∷ more) = if is_header n count p.0 then Some p.1 else procedure n count more

abbrev pub headed : {A : Type 0} → CallKey × A → Header × A
headed p = ((p.0.name.name.now, p.0.count), p.1)
