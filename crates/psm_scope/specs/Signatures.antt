-- Functions found by their name and the number of their parameters, or by their name and kinds.
use Rattle.std.specs.Prelude.{◌≡◌, ℕ, suc, Bool, ◌&&◌, nat_eq, length, map, List, [], ◌∷◌, if◌then◌else◌}
use Rattle.std.specs.Cmp.Lexicographic.{pointwise}
use Rattle.std.specs.Map.{lookup}
use Rattle.psm_scope.specs.declared.blocks.Group.{Group}
use Rattle.psm_scope.specs.declared.signatures.Function.{Function}
use Rattle.psm_scope.specs.declared.index.Exact.{Exact}
use Rattle.psm_scope.specs.declared.key.CallKey.{CallKey}
use Rattle.psm_scope.specs.declared.key.FunctionKey.{FunctionKey}
use Rattle.psm_scope.specs.Blocks.{IsGroup}
use Rattle.psm_scope.specs.Choice.{Candidate, Signature}
use Rattle.psm_scope.specs.Exact.{exact, exact_of}
use Rattle.psm_scope.specs.Keys.{same_call, same_function}
use Rattle.std.specs.Cow.{cow_slice_items}

abbrev pub signature_of : Function → Signature
signature_of f = record { name = f.name.now; kinds = f.kinds }

-- whether a function has the name and n parameters
abbrev pub is_called : List ℕ → ℕ → Signature → Bool
is_called name count s = pointwise nat_eq name s.name && nat_eq count (length s.kinds)

-- the functions, counted from n, that have them
abbrev pub called : ℕ → List ℕ → ℕ → List Signature → List Candidate
called n name count [] = []
called n name count (s ∷ others) = let more = called (suc n) name count others in
    if is_called name count s then (n, s.kinds) ∷ more else more

-- an index by name and number of parameters has the functions of each
abbrev pub IsGrouped : List Function → List (CallKey × Group) → Type 0
IsGrouped functions index = (key : CallKey) → IsGroup key.count (called 0 key.name.name.now key.count (map signature_of functions)) (lookup (same_call key) index)

-- an index by name and kinds knows the functions that have exactly these
abbrev pub IsFound : List Function → List (FunctionKey × Exact) → Type 0
IsFound functions index = (key : FunctionKey) → lookup (same_function key) index ≡ exact_of (exact 0 key.name.name.now (cow_slice_items key.kinds) (map signature_of functions))
