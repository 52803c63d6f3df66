-- What the handlers of a block handle, as it is kept.
use Rattle.std.specs.Prelude.{◌≡◌, Bool, false, ◌||◌, Option, Some, None, is_some, List, [], ◌∷◌}
use Rattle.std.specs.List.{list_any}
use Rattle.psm_scope.specs.Scopes.{is_spelled}
use Rattle.psm_scope.specs.Lookup.{named}
use Rattle.psm_tree.specs.declared.statement.HandlerValue.{HandlerValue}
use Rattle.psm_rules.specs.declared.fault.Fault.{Fault}
use Rattle.psm_rules.specs.Faults.{first_of}
use Rattle.psm_rules.specs.CheckerScope.{Scopes}
use Rattle.psm_rules.specs.BlockFaults.{Handles, ByState, ByName, Exceptions, Warnings, NoData, handles, more_values, same_value, values_fault}
use Rattle.psm_check_stmt.specs.declared.handled_conditions.HandledConditions.{HandledConditions}

abbrev pub is_handled : HandledConditions → Handles → Bool
is_handled k (ByState s) = list_any (is_spelled s) k.states.keys
is_handled k (ByName n) = is_some (named n k.names)
is_handled k Exceptions = k.exceptions
is_handled k Warnings = k.warnings
is_handled k NoData = k.no_data

-- exactly these are handled
abbrev pub AreHandled : HandledConditions → List Handles → Type 0
AreHandled k before = (h : Handles) → is_handled k h ≡ list_any (same_value h) before

-- one more is handled; the answer says whether it is already
pub record Records (x : Handles) (old new : HandledConditions) (before : Bool) : Type 0 where
  pub answer : before ≡ is_handled old x
  pub noted : (h : Handles) → is_handled new h ≡ (same_value h x || is_handled old h)

-- the same where it is known what that is
abbrev pub RecordsKnown : Option Handles → HandledConditions → HandledConditions → Bool → Type 0
RecordsKnown None old new before = (before ≡ false) × (new ≡ old)
RecordsKnown (Some x) old new before = Records x old new before

-- what is handled after some values
abbrev pub values_after : Scopes → List Handles → List HandlerValue → List Handles
values_after scopes before [] = before
values_after scopes before (v ∷ vs) = values_after scopes (more_values (handles scopes v) before) vs

-- the first fault of some values, which are then handled too
abbrev pub FindsIn : Scopes → List HandlerValue → HandledConditions → HandledConditions → Option Fault → Type 0
FindsIn scopes values old new f = (before : List Handles) → AreHandled old before →
    (f ≡ first_of (values_fault scopes before values)) × AreHandled new (values_after scopes before values)
