-- The scopes around a statement as they are kept.
use Rattle.std.specs.Prelude.{◌≡◌, ℕ, length, Bool, true, false, List, [], ◌∷◌, ◌++◌, Option, Some, None, IsSome, Result, Ok, Err, if◌then◌else◌}
use Rattle.std.specs.Option.{option_copied, option_map}
use Rattle.std.specs.declared.alloc.AllocError.{AllocError}
use Rattle.psm_scope.specs.declared.scope.ScopeKind.{ScopeKind}
use Rattle.psm_scope.specs.declared.scope.ScopeKind.TheVariants as kind
use Rattle.psm_scope.specs.Scopes.{Spelling, Declared, Scope, Routine, Compound, Loop, For, Action, declared_in, undeclared}
use Rattle.psm_scope.specs.Lookup.{is_label, named, or_else}

abbrev pub scope_of : {V C K : Type 0} → ScopeKind → Declared V C K → Scope V C K
scope_of (kind.Routine name) d = Routine name.now d
scope_of (kind.Compound label) d = Compound (option_copied label) d
scope_of (kind.Loop label) d = Loop (option_copied label)
scope_of (kind.For label name) d = For (option_copied label) name.now d
scope_of kind.Action d = Action

-- a scope in which names can be declared
abbrev pub can_declare : {V C K : Type 0} → Scope V C K → Bool
can_declare (Routine name d) = true
can_declare (Compound label d) = true
can_declare (Loop label) = false
can_declare (For label name d) = true
can_declare Action = false

abbrev pub can_declare_here : {V C K : Type 0} → List (Scope V C K) → Bool
can_declare_here [] = false
can_declare_here (f ∷ outer) = can_declare f

-- the scope with other declarations
abbrev pub with_declared : {V C K : Type 0} → Scope V C K → Declared V C K → Scope V C K
with_declared (Routine name d) e = Routine name e
with_declared (Compound label d) e = Compound label e
with_declared (Loop label) e = Loop label
with_declared (For label name d) e = For label name e
with_declared Action e = Action

abbrev pub is_action : {V C K : Type 0} → Scope V C K → Bool
is_action (Routine name d) = false
is_action (Compound label d) = false
is_action (Loop label) = false
is_action (For label name d) = false
is_action Action = true

-- whether a scope has that label, and then whether it is a loop's
abbrev pub labelled : {V C K : Type 0} → Spelling → Scope V C K → Option Bool
labelled l (Routine name d) = None
labelled l (Compound label d) = if is_label l label then Some false else None
labelled l (Loop label) = if is_label l label then Some true else None
labelled l (For label name d) = if is_label l label then Some true else None
labelled l Action = None

-- how many scopes are around the one with that label, where it is seen; an action sees none from outside
abbrev pub level : {V C K : Type 0} → Spelling → List (Scope V C K) → Option ℕ
level l [] = None
level l (f ∷ outer) = if is_action f then None else or_else (option_map (λ loops. length outer) (labelled l f)) (level l outer)

-- ---- the innermost scope

abbrev pub declared_here : {V C K : Type 0} → List (Scope V C K) → Declared V C K
declared_here [] = undeclared
declared_here (f ∷ outer) = declared_in f

abbrev pub redeclared : {V C K : Type 0} → List (Scope V C K) → Declared V C K → List (Scope V C K)
redeclared [] d = []
redeclared (f ∷ outer) d = with_declared f d ∷ outer

-- ---- a declaration

-- a part of what is declared, and what is declared with another such part
pub record Part (V C K A : Type 0) : Type 0 where
  pub of : Declared V C K → List (Spelling × A)
  pub changed : Declared V C K → List (Spelling × A) → Declared V C K

abbrev pub the_variables : {V C K : Type 0} → Part V C K V
the_variables = record { of = λ d. d.variables; changed = λ d vs. record d { variables = vs } }

abbrev pub the_conditions : {V C K : Type 0} → Part V C K C
the_conditions = record { of = λ d. d.conditions; changed = λ d cs. record d { conditions = cs } }

abbrev pub the_cursors : {V C K : Type 0} → Part V C K K
the_cursors = record { of = λ d. d.cursors; changed = λ d ks. record d { cursors = ks } }

-- a name goes last in a part of what is declared in the innermost scope, or the answer is `false` and it is there already; where
-- memory is wanting, nothing changes
abbrev pub Declares : {V C K A : Type 0} → Part V C K A → Spelling → A → List (Scope V C K) → List (Scope V C K) → Result Bool AllocError → Type 0
Declares part n x old new (Ok true) =
    (named n (part.of (declared_here old)) ≡ None) × (new ≡ redeclared old (part.changed (declared_here old) (part.of (declared_here old) ++ (n, x) ∷ [])))
Declares part n x old new (Ok false) = IsSome (named n (part.of (declared_here old))) × (new ≡ old)
Declares part n x old new (Err e) = new ≡ old
