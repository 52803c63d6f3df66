-- The operands of several activations on one stack, the last operand first.
use Rattle.std.specs.Prelude.{ℕ, ◌≤◌, ◌-◌, List, [], ◌∷◌, length, take, drop}
use Rattle.psm_exprcode.specs.declared.operand.Operand.{Operand}

-- those of the activation that runs, and those of each that called it, the innermost first
pub record Stacked : Type 0 where
  pub own : List Operand
  pub callers : List (List Operand)

-- those above the lowest n, and the lowest n
abbrev pub above : ℕ → List Operand → List Operand
above n os = take (length os - n) os

abbrev pub lowest : ℕ → List Operand → List Operand
lowest n os = drop (length os - n) os

-- how many stand below those of the innermost activation; none below those of the first
abbrev pub below : List ℕ → ℕ
below [] = 0
below (n ∷ bases) = n

abbrev pub callers_of : List ℕ → List Operand → List (List Operand)
callers_of [] os = []
callers_of (n ∷ bases) os = above (below bases) (lowest n os) ∷ callers_of bases (lowest n os)

-- the stack cut where the operands of each activation but the first begin, that of the innermost one first
abbrev pub stacked : List ℕ → List Operand → Stacked
stacked bases os = record { own = above (below bases) os; callers = callers_of bases os }

-- there are n, and those of a caller don't begin above those of what it called
abbrev pub Falls : ℕ → List ℕ → Type 0
Falls count [] = Unit {0}
Falls count (n ∷ bases) = (n ≤ count) × Falls n bases

-- those of the innermost caller, if there is one
abbrev pub first_of : List (List Operand) → List Operand
first_of [] = []
first_of (os ∷ others) = os
