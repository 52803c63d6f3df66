-- The handlers that are in scope in a context of a routine (ISO/IEC 9075-4:1996).
use Rattle.std.specs.Prelude.{◌≡◌, ◌-◌, ◌<◌, ℕ, zero, suc, nat_eq, nat_lt, Option, Some, None, List, [], ◌∷◌, slice_get, if◌then◌else◌}
use Rattle.std.specs.List.{filter}
use Rattle.psm_cond.specs.Tables.{HandlerTable}
use Rattle.psm_cond.specs.declared.handlers.Context.{Context}
use Rattle.psm_cond.specs.declared.handlers.ContextKind.{ContextKind}
use Rattle.psm_cond.specs.declared.handlers.ContextKind.TheVariants.{Block, Action}
use Rattle.psm_cond.specs.declared.handlers.Handler.{Handler}
use Rattle.psm_cond.specs.declared.choice.Asked.{Asked}
use Rattle.psm_cond.specs.declared.choice.Asked.TheVariants.{Chosen, Outward}
use Rattle.psm_cond.specs.declared.entry.Entry.{Entry}
use Rattle.psm_cond.specs.Choice.{rank_of_values, chosen}

-- a handler with its number
abbrev pub Numbered : Type 0
Numbered = ℕ × Handler

-- handlers with their numbers, which count from n
abbrev pub numbered : ℕ → List Handler → List Numbered
numbered n [] = []
numbered n (h ∷ handlers) = (n, h) ∷ numbered (suc n) handlers

-- the handlers that the block of a context declares
abbrev pub own_handlers : HandlerTable → ℕ → List Numbered
own_handlers t k = filter (λ p. nat_eq p.1.context k) (numbered 0 t.handlers)

-- the context with a number; the routine itself is context 0 and has no line
abbrev pub context_at : HandlerTable → ℕ → Option Context
context_at t k = if nat_lt 0 k then slice_get t.contexts (k - 1) else None

-- where a context stands; the routine stands nowhere else
abbrev pub parent_of : Option Context → ℕ
parent_of None = 0
parent_of (Some c) = c.parent

-- the context of the block that declares a handler
abbrev pub block_of : Option Handler → ℕ
block_of None = 0
block_of (Some h) = h.context

-- where an action runs: outside the block that declares its handler
abbrev pub outside : HandlerTable → ℕ → ℕ
outside t handler = parent_of (context_at t (block_of (slice_get t.handlers handler)))

-- the scopes from a context outward, where those of the contexts around it are known
abbrev pub scopes_of_kind : HandlerTable → (ℕ → List (List Numbered)) → ℕ → ℕ → ContextKind → List (List Numbered)
scopes_of_kind t around k parent (Block b) = own_handlers t k ∷ around parent
scopes_of_kind t around k parent (Action handler) = around (outside t handler)

abbrev pub scopes_from : HandlerTable → (ℕ → List (List Numbered)) → ℕ → Option Context → List (List Numbered)
scopes_from t around k None = []
scopes_from t around k (Some c) = scopes_of_kind t around k c.parent c.kind

-- the scopes through at most n contexts
abbrev pub scopes_within : HandlerTable → ℕ → ℕ → List (List Numbered)
scopes_within t zero k = []
scopes_within t (suc n) k = scopes_from t (scopes_within t n) k (context_at t k)

-- the scopes of a context, innermost first; each context around it has a smaller number
abbrev pub scopes : HandlerTable → ℕ → List (List Numbered)
scopes t k = scopes_within t k k

-- the rank of a handler for a condition
abbrev pub handler_rank : Entry → Numbered → ℕ
handler_rank e p = rank_of_values e p.1.values

-- the number of a handler that is chosen
abbrev pub number_of : Option Numbered → Option ℕ
number_of None = None
number_of (Some p) = Some p.0

-- the number of the handler that is chosen for a condition in a context
abbrev pub choice : HandlerTable → ℕ → Entry → Option ℕ
choice t k e = number_of (chosen (handler_rank e) (scopes t k))

-- what a context answers: the handler that is chosen in it, or a context further out in which the same one is
abbrev pub Asks : HandlerTable → ℕ → Entry → Asked → Type 0
Asks t k e (Chosen handler) = choice t k e ≡ Some handler
Asks t k e (Outward next) = (next < k) × (choice t k e ≡ choice t next e)
