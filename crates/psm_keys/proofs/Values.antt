-- Condition values as keys, and as the rules of code compare them.
use Rattle.std.proofs.Common.{◌≡◌, Bool, true, false, ◌&&◌, refl}
use Rattle.std.proofs.Math.Bool.{and-true}
use Rattle.std.specs.Prelude.{nat_eq}
use Rattle.psm_cond.specs.declared.handlers.ConditionValue.{ConditionValue}
use Rattle.psm_cond.specs.declared.handlers.ConditionValue.TheVariants.{Named, State, SqlException, SqlWarning, NotFound}
use Rattle.psm_cond.specs.Keys.{is_value}
use Rattle.psm_code.specs.RoutineRules.{is_same_value}

pub same_value : (v w : ConditionValue) → is_value v w ≡ is_same_value v w
same_value (Named n) (Named m) = and-true (nat_eq n m)
same_value (State s) (State t) = refl
same_value SqlException SqlException = refl
same_value SqlWarning SqlWarning = refl
same_value NotFound NotFound = refl
same_value v w = refl
