-- Declared names, each once, with what is known of each.
use Rattle.std.specs.Prelude.{◌≡◌, Bool, true, false, List, [], ◌∷◌, ◌++◌, None, IsSome, Result, Ok, Err}
use Rattle.std.specs.declared.alloc.AllocError.{AllocError}
use Rattle.psm_scope.specs.declared.key.NameKey.{NameKey}
use Rattle.psm_scope.specs.Scopes.{Spelling}
use Rattle.psm_scope.specs.Lookup.{named}

abbrev pub spelled : {A : Type 0} → NameKey × A → Spelling × A
spelled p = (p.0.name.now, p.1)

-- a name goes last, or the answer is `false` and it is there already; where memory is wanting, nothing changes
abbrev pub Adds : {A : Type 0} → Spelling → A → List (Spelling × A) → List (Spelling × A) → Result Bool AllocError → Type 0
Adds n x old new (Ok true) = (named n old ≡ None) × (new ≡ old ++ (n, x) ∷ [])
Adds n x old new (Ok false) = IsSome (named n old) × (new ≡ old)
Adds n x old new (Err e) = new ≡ old
