-- Variables of letters.
use Rattle.std.specs.Prelude.{◌≡◌, ℕ, List, [], ◌∷◌, Some, slice_get}
use Rattle.psm_exprcode.specs.declared.op.Letter.{Letter}
use Rattle.psm_typing.specs.TypingContext.{TypingContext, variables_of}

-- a variable of that letter
abbrev pub SlotOf : TypingContext → ℕ → Letter → Type 0
SlotOf e slot k = slice_get (variables_of e) slot ≡ Some k

-- variables of letters, one for one
abbrev pub AreSlots : TypingContext → List ℕ → List Letter → Type 0
AreSlots e [] [] = Unit {0}
AreSlots e [] (k ∷ ks) = ⊥
AreSlots e (slot ∷ slots) [] = ⊥
AreSlots e (slot ∷ slots) (k ∷ ks) = SlotOf e slot k × AreSlots e slots ks

-- variables that are all of that letter
abbrev pub EachOf : TypingContext → List ℕ → Letter → Type 0
EachOf e [] k = Unit {0}
EachOf e (slot ∷ slots) k = SlotOf e slot k × EachOf e slots k
