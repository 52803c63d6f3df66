-- Procedures, each once.
use Rattle.std.specs.Prelude.{◌≡◌, ℕ, Bool, true, false, List, [], ◌∷◌, ◌++◌, None, IsSome, Result, Ok, Err}
use Rattle.std.specs.declared.alloc.AllocError.{AllocError}
use Rattle.psm_scope.specs.Scopes.{Spelling}
use Rattle.psm_scope.specs.Routines.{Header, procedure}

-- a procedure goes last, or the answer is `false` and one that is called the same is there already; where memory is wanting, nothing
-- changes
abbrev pub AddsProcedure : {A : Type 0} → Spelling → ℕ → A → List (Header × A) → List (Header × A) → Result Bool AllocError → Type 0
AddsProcedure n count x old new (Ok true) = (procedure n count old ≡ None) × (new ≡ old ++ ((n, count), x) ∷ [])
AddsProcedure n count x old new (Ok false) = IsSome (procedure n count old) × (new ≡ old)
AddsProcedure n count x old new (Err e) = new ≡ old
