-- Condition values as keys of a map.
use Rattle.std.specs.Prelude.{ℕ, Bool, ◌&&◌, nat_eq, List, []}
use Rattle.std.specs.Cmp.Lexicographic.{pointwise}
use Rattle.psm_cond.specs.declared.handlers.ConditionValue.{ConditionValue}
use Rattle.psm_cond.specs.declared.handlers.ConditionValue.TheVariants.{Named, State, SqlException, SqlWarning, NotFound}
use Rattle.psm_cond.specs.declared.key.HandlerKey.{HandlerKey}

-- the form of a condition value, as a number
abbrev pub value_kind : ConditionValue → ℕ
value_kind (Named n) = 0
value_kind (State s) = 1
value_kind SqlException = 2
value_kind SqlWarning = 3
value_kind NotFound = 4

-- the number of the declared condition that a value names, else 0
abbrev pub own_number : ConditionValue → ℕ
own_number (Named n) = n
own_number (State s) = 0
own_number SqlException = 0
own_number SqlWarning = 0
own_number NotFound = 0

-- the SQLSTATE that a value is, else nothing
abbrev pub state_text : ConditionValue → List ℕ
state_text (Named n) = []
state_text (State s) = s
state_text SqlException = []
state_text SqlWarning = []
state_text NotFound = []

-- two condition values are the same
abbrev pub is_value : ConditionValue → ConditionValue → Bool
is_value a b = (nat_eq (value_kind a) (value_kind b) && nat_eq (own_number a) (own_number b)) && pointwise nat_eq (state_text a) (state_text b)

-- two keys are the same context and value
abbrev pub same_key : HandlerKey → HandlerKey → Bool
same_key a b = nat_eq a.context b.context && is_value a.value b.value
