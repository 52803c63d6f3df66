-- The first handler of a block for each condition value, by which a handler is found.
use Rattle.std.specs.Prelude.{◌≡◌, ℕ, suc, nat_eq, Bool, ◌&&◌, List, [], ◌∷◌, Option, Some, None, if◌then◌else◌}
use Rattle.std.specs.List.{list_any}
use Rattle.indexmap.specs.IndexMap.{get}
use Rattle.psm_sqlstate.specs.declared.kind.Kind.{Kind}
use Rattle.psm_sqlstate.specs.declared.kind.Kind.TheVariants as kind
use Rattle.psm_sqlstate.specs.Kind.{kind_of}
use Rattle.psm_cond.specs.declared.entry.Entry.{Entry}
use Rattle.psm_cond.specs.declared.handlers.ConditionValue.{ConditionValue}
use Rattle.psm_cond.specs.declared.handlers.ConditionValue.TheVariants.{Named, State, SqlException, SqlWarning, NotFound}
use Rattle.psm_cond.specs.declared.handlers.Handler.{Handler}
use Rattle.psm_cond.specs.declared.index.Index.{Index}
use Rattle.psm_cond.specs.declared.key.HandlerKey.{HandlerKey}
use Rattle.psm_cond.specs.Choice.{or_else}
use Rattle.psm_cond.specs.Keys.{is_value, same_key}

-- whether a key has that context and one of some values
abbrev pub has_value : ℕ → List ConditionValue → HandlerKey → Bool
has_value k values key = nat_eq key.context k && list_any (is_value key.value) values

-- whether a handler is one that the block of a context declares for a value
abbrev pub is_own_for : HandlerKey → Handler → Bool
is_own_for key h = has_value h.context (h.values.first ∷ h.values.rest) key

-- the number of the first such handler, where the numbers count from n
abbrev pub first_from : HandlerKey → ℕ → List Handler → Option ℕ
first_from key n [] = None
first_from key n (h ∷ handlers) = if is_own_for key h then Some n else first_from key (suc n) handlers

-- the number of the first handler that the block of a context declares for a value
abbrev pub first_for : List Handler → ℕ → ConditionValue → Option ℕ
first_for handlers k v = first_from (record { context = k; value = v }) 0 handlers

-- the same, where there may be no value
abbrev pub first_for_any : List Handler → ℕ → Option ConditionValue → Option ℕ
first_for_any handlers k None = None
first_for_any handlers k (Some v) = first_for handlers k v

-- the value for a declared condition without SQLSTATE
abbrev pub own_value : Option ℕ → Option ConditionValue
own_value None = None
own_value (Some n) = Some (Named n)

-- the value for a class; success is in none
abbrev pub class_value : Kind → Option ConditionValue
class_value kind.Success = None
class_value kind.Warning = Some SqlWarning
class_value kind.NotFound = Some NotFound
class_value kind.Exception = Some SqlException

-- ---- the index

-- an index has for each key the first handler
abbrev pub IsIndex : Index → List Handler → Type 0
IsIndex index handlers = (key : HandlerKey) → get same_key index.first key ≡ first_from key 0 handlers

-- a number is noted for the keys that pass a test and have none yet
abbrev pub Notes : (HandlerKey → Bool) → ℕ → Index → Index → Type 0
Notes test n old new = (key : HandlerKey) → get same_key new.first key ≡ or_else (get same_key old.first key) (if test key then Some n else None)
