-- What is added to a set that is seen as the list of what was added so far.
use Rattle.std.specs.Prelude.{Bool, true, false, ◌&&◌, not, List, [], ◌∷◌, ◌++◌}
use Rattle.std.specs.List.{list_all}

-- none of a list is the same as x
abbrev pub is_new : {A : Type 0} → (A → A → Bool) → A → List A → Bool
is_new same x xs = list_all (λ y. not (same y x)) xs

-- a list with x as its last, if x is new
abbrev pub with_new : {A : Type 0} → Bool → A → List A → List A
with_new true x xs = xs ++ x ∷ []
with_new false x xs = xs

-- whether each of some is new after those before it
abbrev pub are_new : {A : Type 0} → (A → A → Bool) → List A → List A → Bool
are_new same old [] = true
are_new same old (x ∷ xs) = is_new same x old && are_new same (old ++ x ∷ []) xs
