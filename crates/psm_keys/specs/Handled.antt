-- Condition values for which blocks have a handler.
use Rattle.std.specs.Prelude.{ℕ, Bool, ◌&&◌, nat_eq, List, map}
use Rattle.psm_cond.specs.declared.handlers.ConditionValue.{ConditionValue}
use Rattle.psm_cond.specs.declared.handlers.Handler.{Handler}
use Rattle.psm_code.specs.RoutineRules.{is_same_value, values_of}
use Rattle.psm_keys.specs.Fresh.{are_new}

-- a value, and one that is added after it
abbrev pub is_same_handled : ℕ × ConditionValue → ℕ × ConditionValue → Bool
is_same_handled a b = nat_eq a.0 b.0 && is_same_value b.1 a.1

-- the values of a handler, each with its block
abbrev pub handled_by : Handler → List (ℕ × ConditionValue)
handled_by h = map (λ v. (h.context, v)) (values_of h)

-- whether each of some values is new after those before it
abbrev pub are_all_new : List (ℕ × ConditionValue) → List (ℕ × ConditionValue) → Bool
are_all_new old xs = are_new is_same_handled old xs
