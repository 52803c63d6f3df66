-- Lines of a listing that are well-formed, one part after another.
use Rattle.std.proofs.Common.{◌≡◌, ℕ, zero, suc, List, [], ◌∷◌, ◌++◌, map, Option, Some, None, ap, refl, subst, ◌∙◌}
use Rattle.std.specs.Prelude.{slice_get}
use Rattle.std.specs.List.{flat_map}
use Rattle.psm_code.specs.declared.rule.CodeRule.{CodeRule}
use Rattle.psm_code.specs.Rules.{fault_in}
use Rattle.psm_typing.specs.TypingContext.{Each}

-- no line breaks a rule
abbrev pub Faultless : List (Option CodeRule) → Type 0
Faultless fs = Each (λ f. f ≡ None) fs

pub faultless-append : (fs gs : List (Option CodeRule)) → Faultless fs → Faultless gs → Faultless (fs ++ gs)
faultless-append [] gs h k = k
faultless-append (f ∷ fs) gs h k = (h.0, faultless-append fs gs h.1 k)

pub faultless-flat : {A : Type 0} (f : A → List (Option CodeRule)) (xs : List A) → Each (λ x. Faultless (f x)) xs → Faultless (flat_map f xs)
faultless-flat f [] h = tt
faultless-flat f (x ∷ xs) h = faultless-append (f x) (flat_map f xs) h.0 (faultless-flat f xs h.1)

pub faultless-map : {A : Type 0} (f : A → Option CodeRule) (xs : List A) → Each (λ x. f x ≡ None) xs → Faultless (map f xs)
faultless-map f [] h = tt
faultless-map f (x ∷ xs) h = (h.0, faultless-map f xs h.1)

-- one of some is as each of them
pub each-at : {A : Type 0} (P : A → Type 0) (xs : List A) (n : ℕ) (x : A) → Each P xs → slice_get xs n ≡ Some x → P x
each-at P [] n x h q = absurd (cc)
each-at P (y ∷ ys) zero x h q = let same : y ≡ x = cc in subst P same h.0
each-at P (y ∷ ys) (suc n) x h q = each-at P ys n x h.1 q

-- such a listing has no first fault
pub faultless-none : (n : ℕ) (fs : List (Option CodeRule)) → Faultless fs → fault_in n fs ≡ None
faultless-none n [] h = refl
faultless-none n (f ∷ fs) h = ap (λ o. fault_in n (o ∷ fs)) h.0 ∙ faultless-none (suc n) fs h.1
