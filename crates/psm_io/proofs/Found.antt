-- A search of a list for the first element whose view passes a test.
use Rattle.std.proofs.Common.{◌≡◌, refl, ap, sym, ◌∙◌, ℕ, ◌+◌, ◌<◌, ◌≤◌, length, Bool, true, false, cond, List, Option, Some, None, map, drop, get_or, drop-cons, add-one}
use Rattle.std.proofs.lemmas.List.{drop_all}
use Rattle.std.specs.List.{find}

-- what the search finds from an index on
abbrev pub found_from : {A B : Type 0} → (A → B) → (B → Bool) → List A → ℕ → Option B
found_from view p xs i = find p (map view (drop i xs))

pub found_from-read : {A B : Type 0} (view : A → B) (p : B → Bool) (xs : List A) (i : ℕ) (d : A) → i < length xs →
    found_from view p xs i ≡ cond (p (view (get_or xs i d))) (Some (view (get_or xs i d))) (found_from view p xs (i + 1))
found_from-read view p xs i d low = rw (add-one, drop-cons xs i d) refl

pub found_from-hit : {A B : Type 0} (view : A → B) (p : B → Bool) (xs : List A) (i : ℕ) (x : A) → i < length xs →
    x ≡ get_or xs i x → p (view x) ≡ true → found_from view p xs i ≡ Some (view x)
found_from-hit view p xs i x low at hit = found_from-read view p xs i x low
    ∙ ap (λ y. cond (p (view y)) (Some (view y)) (found_from view p xs (i + 1))) (sym at)
    ∙ ap (λ b. cond b (Some (view x)) (found_from view p xs (i + 1))) hit

pub found_from-miss : {A B : Type 0} (view : A → B) (p : B → Bool) (xs : List A) (i : ℕ) (x : A) → i < length xs →
    x ≡ get_or xs i x → p (view x) ≡ false → found_from view p xs i ≡ found_from view p xs (i + 1)
found_from-miss view p xs i x low at missed = found_from-read view p xs i x low
    ∙ ap (λ y. cond (p (view y)) (Some (view y)) (found_from view p xs (i + 1))) (sym at)
    ∙ ap (λ b. cond b (Some (view x)) (found_from view p xs (i + 1))) missed

pub found_from-end : {A B : Type 0} (view : A → B) (p : B → Bool) (xs : List A) (i : ℕ) → length xs ≤ i →
    found_from view p xs i ≡ None
found_from-end view p xs i high = ap (λ ys. find p (map view ys)) (drop_all i xs high)
