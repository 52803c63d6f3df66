-- The choice of a handler (ISO/IEC 9075-4:1996).
use Rattle.std.specs.Prelude.{◌≡◌, ◌<◌, ◌≤◌, ℕ, nat_eq, nat_lt, nat_le, max, Bool, true, false, ◌&&◌, Option, Some, None, List, [], ◌∷◌, if◌then◌else◌}
use Rattle.std.specs.List.{All, Contains}
use Rattle.std.specs.Cmp.Lexicographic.{pointwise}
use Rattle.psm_list.specs.Several.{Several}
use Rattle.psm_sqlstate.specs.declared.kind.Kind.{Kind}
use Rattle.psm_sqlstate.specs.declared.kind.Kind.TheVariants as kind
use Rattle.psm_sqlstate.specs.Kind.{kind_of}
use Rattle.psm_cond.specs.declared.entry.Entry.{Entry}
use Rattle.psm_cond.specs.declared.handlers.ConditionValue.{ConditionValue}
use Rattle.psm_cond.specs.declared.handlers.ConditionValue.TheVariants.{Named, State, SqlException, SqlWarning, NotFound}

abbrev pub is_own : Option ℕ → ℕ → Bool
is_own None n = false
is_own (Some own) n = nat_eq own n

abbrev pub is_exception : Kind → Bool
is_exception kind.Success = false
is_exception kind.Warning = false
is_exception kind.NotFound = false
is_exception kind.Exception = true

abbrev pub is_warning : Kind → Bool
is_warning kind.Success = false
is_warning kind.Warning = true
is_warning kind.NotFound = false
is_warning kind.Exception = false

abbrev pub is_no_data : Kind → Bool
is_no_data kind.Success = false
is_no_data kind.Warning = false
is_no_data kind.NotFound = true
is_no_data kind.Exception = false

-- whether a value of a handler matches a condition, of which the first entry decides
abbrev pub is_match : Entry → ConditionValue → Bool
is_match e (Named n) = is_own e.own n
is_match e (State s) = pointwise nat_eq e.state s
is_match e SqlException = is_exception (kind_of e.state)
is_match e SqlWarning = is_warning (kind_of e.state)
is_match e NotFound = is_no_data (kind_of e.state)

-- a name without SQLSTATE is more specific than an SQLSTATE, and that more than a class
abbrev pub specificity : ConditionValue → ℕ
specificity (Named n) = 3
specificity (State s) = 2
specificity SqlException = 1
specificity SqlWarning = 1
specificity NotFound = 1

-- how specific a match is; 0 where the value doesn't match
abbrev pub rank : Entry → ConditionValue → ℕ
rank e v = if is_match e v then specificity v else 0

-- the highest of the ranks
abbrev pub highest : {A : Type 0} → (A → ℕ) → List A → ℕ
highest rank [] = 0
highest rank (x ∷ xs) = max (rank x) (highest rank xs)

-- the rank of the most specific of a handler's values
abbrev pub rank_of_values : Entry → Several ConditionValue → ℕ
rank_of_values e values = highest (rank e) (values.first ∷ values.rest)

-- the handler of a scope that matches and has the highest rank, the first of such
abbrev pub chosen_in : {A : Type 0} → (A → ℕ) → List A → Option A
chosen_in rank [] = None
chosen_in rank (h ∷ others) = if nat_lt 0 (rank h) && nat_le (highest rank others) (rank h) then Some h else chosen_in rank others

abbrev pub or_else : {A : Type 0} → Option A → Option A → Option A
or_else None other = other
or_else (Some h) other = Some h

-- the handler that is chosen in the innermost scope that has a match; the scopes are given innermost first
abbrev pub chosen : {A : Type 0} → (A → ℕ) → List (List A) → Option A
chosen rank [] = None
chosen rank (scope ∷ outer) = or_else (chosen_in rank scope) (chosen rank outer)

-- a handler of a scope that matches, and than which no other of the scope is more specific
pub record IsMostSpecific {A : Type 0} (rank : A → ℕ) (scope : List A) (h : A) : Type 0 where
  pub there : Contains scope h
  pub matches : 0 < rank h
  pub most : All (λ other. rank other ≤ rank h) scope

-- no handler of a scope matches
abbrev pub HasNoMatch : {A : Type 0} → (A → ℕ) → List A → Type 0
HasNoMatch rank scope = All (λ h. rank h ≡ 0) scope
