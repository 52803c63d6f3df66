-- What stands declared in the innermost scope after a declaration, whatever is known of variables, conditions and cursors.
use Rattle.std.proofs.Common.{◌≡◌, Bool, true, false, not, true≢false, List, [], ◌∷◌, ◌++◌, Result, Ok, Err, is_some, drop, refl, sym, ap, ◌∙◌}
use Rattle.std.specs.Prelude.{IfOk, if◌then◌else◌}
use Rattle.std.specs.declared.alloc.AllocError.{AllocError}
use Rattle.psm_scope.specs.Scopes.{Spelling, Declared, Scope, Routine, Compound, Loop, For, Action}
use Rattle.psm_scope.specs.Lookup.{named}
use Rattle.psm_scope.specs.KeptScopes.{Declares, Part, can_declare_here, declared_here, redeclared}
use Rattle.psm_rules.specs.BlockFaults.{declared_once}

-- ---- the innermost scope, and the scopes outside

pub can_still : {V C K : Type 0} (scopes : List (Scope V C K)) (d : Declared V C K) → can_declare_here (redeclared scopes d) ≡ can_declare_here scopes
can_still [] d = refl
can_still (Routine name e ∷ outer) d = refl
can_still (Compound label e ∷ outer) d = refl
can_still (Loop label ∷ outer) d = refl
can_still (For label name e ∷ outer) d = refl
can_still (Action ∷ outer) d = refl

pub declared_the_same : {V C K : Type 0} (scopes : List (Scope V C K)) → redeclared scopes (declared_here scopes) ≡ scopes
declared_the_same [] = refl
declared_the_same (Routine name e ∷ outer) = refl
declared_the_same (Compound label e ∷ outer) = refl
declared_the_same (Loop label ∷ outer) = refl
declared_the_same (For label name e ∷ outer) = refl
declared_the_same (Action ∷ outer) = refl

pub declared_again : {V C K : Type 0} (scopes : List (Scope V C K)) (d e : Declared V C K) → redeclared (redeclared scopes d) e ≡ redeclared scopes e
declared_again [] d e = refl
declared_again (Routine name f ∷ outer) d e = refl
declared_again (Compound label f ∷ outer) d e = refl
declared_again (Loop label ∷ outer) d e = refl
declared_again (For label name f ∷ outer) d e = refl
declared_again (Action ∷ outer) d e = refl

pub declared_now : {V C K : Type 0} (scopes : List (Scope V C K)) (d : Declared V C K) → can_declare_here scopes ≡ true → declared_here (redeclared scopes d) ≡ d
declared_now [] d h = absurd (true≢false (sym h))
declared_now (Routine name f ∷ outer) d h = refl
declared_now (Compound label f ∷ outer) d h = refl
declared_now (Loop label ∷ outer) d h = absurd (true≢false (sym h))
declared_now (For label name f ∷ outer) d h = refl
declared_now (Action ∷ outer) d h = absurd (true≢false (sym h))

pub popped_again : {V C K : Type 0} (scopes : List (Scope V C K)) (d : Declared V C K) → drop 1 (redeclared scopes d) ≡ drop 1 scopes
popped_again [] d = refl
popped_again (Routine name f ∷ outer) d = refl
popped_again (Compound label f ∷ outer) d = refl
popped_again (Loop label ∷ outer) d = refl
popped_again (For label name f ∷ outer) d = refl
popped_again (Action ∷ outer) d = refl

-- ---- a declaration

module _ {V C K A : Type 0} (part : Part V C K A) (same : (d : Declared V C K) → part.changed d (part.of d) ≡ d) (n : Spelling) (x : A) where
  -- the scopes with one more there, where it is a new one
  abbrev pub once : List (Scope V C K) → List (Scope V C K)
  once old = redeclared old (part.changed (declared_here old) (declared_once (part.of (declared_here old)) n x))

  pub declares_once : (old new : List (Scope V C K)) (r : Result Bool AllocError) → Declares part n x old new r → IfOk r (λ _. new ≡ once old)
  declares_once old new (Ok true) d =
      d.1 ∙ ap (λ o. redeclared old (part.changed (declared_here old) (if is_some o then part.of (declared_here old) else part.of (declared_here old) ++ (n, x) ∷ []))) (sym d.0)
  declares_once old new (Ok false) d =
      d.1 ∙ sym (declared_the_same old) ∙ ap (redeclared old) (sym (same (declared_here old)))
      ∙ ap (λ b. redeclared old (part.changed (declared_here old) (if b then part.of (declared_here old) else part.of (declared_here old) ++ (n, x) ∷ []))) (sym d.0)
  declares_once old new (Err e) d = tt

  pub declares_new : (old new : List (Scope V C K)) (r : Result Bool AllocError) → Declares part n x old new r → IfOk r (λ b. b ≡ not (is_some (named n (part.of (declared_here old)))))
  declares_new old new (Ok true) d = ap (λ o. not (is_some o)) (sym d.0)
  declares_new old new (Ok false) d = ap not (sym d.0)
  declares_new old new (Err e) d = tt

  pub declares_open : (old new : List (Scope V C K)) (r : Result Bool AllocError) → can_declare_here old ≡ true → Declares part n x old new r → IfOk r (λ _. can_declare_here new ≡ true)
  declares_open old new (Ok true) can d = ap can_declare_here d.1 ∙ can_still old (part.changed (declared_here old) (part.of (declared_here old) ++ (n, x) ∷ [])) ∙ can
  declares_open old new (Ok false) can d = ap can_declare_here d.1 ∙ can
  declares_open old new (Err e) can d = tt
