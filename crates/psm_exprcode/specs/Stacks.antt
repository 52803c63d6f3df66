-- Stacks of letters that share what lies below. Each is known by its number, and stands with the last letter first.
use Rattle.std.specs.Prelude.{◌≡◌, ℕ, ◌<◌, ◌≤◌, suc, Bool, true, ◌&&◌, nat_lt, List, [], ◌∷◌, ◌++◌, length, get_or}
use Rattle.psm_exprcode.specs.declared.op.Letter.{Letter}
use Rattle.psm_exprcode.specs.declared.op.Letter.TheVariants.{N, T, B}
use Rattle.psm_exprcode.specs.declared.stacks.Node.{Node}

-- the stack of no letter, and those of one
abbrev pub first_stacks : List (List Letter)
first_stacks = [] ∷ (N ∷ []) ∷ (T ∷ []) ∷ (B ∷ []) ∷ []

-- the stack of a number
abbrev pub stack_at : List (List Letter) → ℕ → List Letter
stack_at stacks n = get_or stacks n []

-- one more stack for each node: its letter on a stack before it
abbrev pub stacks_with : List (List Letter) → List Node → List (List Letter)
stacks_with stacks [] = stacks
stacks_with stacks (n ∷ nodes) = stacks_with (stacks ++ (n.letter ∷ stack_at stacks n.below) ∷ []) nodes

-- whether each node, the first of which makes the stack of that number, names a stack before it
abbrev pub are_on_earlier : ℕ → List Node → Bool
are_on_earlier number [] = true
are_on_earlier number (n ∷ nodes) = nat_lt n.below number && are_on_earlier (suc number) nodes

-- there may be more stacks, but those of the old numbers are the same
pub record Extends (old new : List (List Letter)) : Type 0 where
  pub longer : length old ≤ length new
  pub same : (n : ℕ) → n < length old → stack_at new n ≡ stack_at old n
