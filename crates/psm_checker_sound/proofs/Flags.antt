-- What holds of two things at once, of each of some, and at the end of a list.
use Rattle.std.proofs.Common.{◌≡◌, ℕ, zero, suc, Bool, true, false, ◌&&◌, not, List, [], ◌∷◌, ◌++◌, length, Some, refl, ◌∙◌, arith}
use Rattle.std.specs.Prelude.{slice_get}
use Rattle.std.specs.List.{list_all}
use Rattle.std.proofs.lemmas.List.Folds.{list_all-append}
use Rattle.psm_typing.specs.TypingContext.{Each}

pub both-hold : (a b : Bool) → a ≡ true → b ≡ true → (a && b) ≡ true
both-hold true b h k = k
both-hold false b h k = absurd cc

pub not-false : (b : Bool) → not b ≡ false → b ≡ true
not-false true h = refl
not-false false h = absurd cc

pub all-append : {A : Type 0} (test : A → Bool) (xs ys : List A) → list_all test xs ≡ true → list_all test ys ≡ true → list_all test (xs ++ ys) ≡ true
all-append test xs ys h k = list_all-append test xs ys ∙ both-hold (list_all test xs) (list_all test ys) h k

pub each-last : {A : Type 0} (P : A → Type 0) (xs : List A) (x : A) → Each P xs → P x → Each P (xs ++ x ∷ [])
each-last P [] x h k = (k, tt)
each-last P (y ∷ xs) x h k = (h.0, each-last P xs x h.1 k)

pub at-end : {A : Type 0} (xs ys : List A) (x : A) (n : ℕ) → n ≡ length xs → slice_get (xs ++ x ∷ ys) n ≡ Some x
at-end [] ys x zero h = refl
at-end [] ys x (suc n) h = absurd (no h)
  where
    no : suc n ≡ 0 → ⊥
    no h = omega (arith, h)
at-end (y ∷ xs) ys x zero h = absurd (no (length xs) h)
  where
    no : (k : ℕ) → 0 ≡ suc k → ⊥
    no k h = omega (arith, h)
at-end (y ∷ xs) ys x (suc n) h = at-end xs ys x n (omega (arith, h))
