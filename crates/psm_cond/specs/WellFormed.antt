-- Handlers and contexts that fit together.
use Rattle.std.specs.Prelude.{ℕ, ◌^◌, suc, nat_eq, nat_lt, nat_le, Bool, true, false, ◌&&◌, Option, Some, None, List, [], ◌∷◌, length, slice_get}
use Rattle.std.specs.List.{list_all}
use Rattle.psm_list.specs.Several.{Several}
use Rattle.psm_cond.specs.Tables.{HandlerTable}
use Rattle.psm_cond.specs.declared.handlers.Context.{Context}
use Rattle.psm_cond.specs.declared.handlers.ContextKind.{ContextKind}
use Rattle.psm_cond.specs.declared.handlers.ContextKind.TheVariants.{Block, Action}
use Rattle.psm_cond.specs.declared.handlers.Handler.{Handler}
use Rattle.psm_cond.specs.declared.handlers.ConditionValue.{ConditionValue}
use Rattle.psm_cond.specs.declared.handlers.ConditionValue.TheVariants.{Named, State, SqlException, SqlWarning, NotFound}
use Rattle.psm_cond.specs.Handlers.{context_at}

abbrev pub is_block_kind : ContextKind → Bool
is_block_kind (Block b) = true
is_block_kind (Action handler) = false

abbrev pub is_block : Option Context → Bool
is_block None = false
is_block (Some c) = is_block_kind c.kind

-- whether a handler exists and is declared in a context
abbrev pub is_of : Option Handler → ℕ → Bool
is_of None k = false
is_of (Some h) k = nat_eq h.context k

-- whether a context of that kind can stand in the parent: an action stands in the block that declares its handler
abbrev pub can_stand : HandlerTable → ℕ → ContextKind → Bool
can_stand t parent (Block b) = true
can_stand t parent (Action handler) = is_of (slice_get t.handlers handler) parent && is_block (context_at t parent)

-- whether the context with that number stands in a context of a smaller number
abbrev pub is_well_formed_context : HandlerTable → ℕ → Context → Bool
is_well_formed_context t k c = nat_lt c.parent k && can_stand t c.parent c.kind

-- the same of contexts whose numbers count from k
abbrev pub are_well_formed_contexts : HandlerTable → ℕ → List Context → Bool
are_well_formed_contexts t k [] = true
are_well_formed_contexts t k (c ∷ contexts) = is_well_formed_context t k c && are_well_formed_contexts t (suc k) contexts

-- whether the condition that a value names is declared
abbrev pub is_declared : HandlerTable → ConditionValue → Bool
is_declared t (Named n) = nat_lt n (length t.declared)
is_declared t (State s) = true
is_declared t SqlException = true
is_declared t SqlWarning = true
is_declared t NotFound = true

abbrev pub are_declared : HandlerTable → Several ConditionValue → Bool
are_declared t values = list_all (is_declared t) (values.first ∷ values.rest)

-- whether the context of a handler exists, and the conditions that it names are declared
abbrev pub is_well_formed_handler : HandlerTable → Handler → Bool
is_well_formed_handler t h = nat_le h.context (length t.contexts) && are_declared t h.values

-- whether the numbers of declared conditions, contexts and handlers have 32 bits
abbrev pub is_numbered : HandlerTable → Bool
is_numbered t = (nat_lt (length t.declared) (2 ^ 32) && nat_lt (length t.contexts) (2 ^ 32)) && nat_lt (length t.handlers) (2 ^ 32)

-- whether the lines fit together
abbrev pub is_well_formed_table : HandlerTable → Bool
is_well_formed_table t = (is_numbered t && are_well_formed_contexts t 1 t.contexts) && list_all (is_well_formed_handler t) t.handlers
