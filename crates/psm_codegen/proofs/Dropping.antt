-- What is left of a list after some of its items, and what is said of a list as far as a loop over it has come: what is known of the
-- items that are left, is known of all.
use Rattle.std.proofs.Common.{◌≡◌, ℕ, suc, ◌+◌, ◌<◌, ◌≤◌, List, [], ◌∷◌, length, drop, get_or, ap, sym, subst, ◌∙◌, arith, drop-cons}
use Rattle.std.proofs.lemmas.List.{drop_all}

pub left_next : {A : Type 0} (xs : List A) (i : ℕ) (b c : A) → i < length xs → b ≡ get_or xs i b → c ≡ b → drop i xs ≡ c ∷ drop (i + 1) xs
left_next xs i b c h e n =
    let more : i + 1 ≡ suc i = omega arith in
    drop-cons xs i b h ∙ ap (λ y. y ∷ drop (suc i) xs) (sym e ∙ sym n) ∙ ap (λ k. c ∷ drop k xs) (sym more)

-- the list whose items a loop goes over
pub begins : {A P : Type 0} (R : List A → P → Type 0) {xs ys : List A} → xs ≡ ys → (q : P) → R xs q → R ys q
begins R e q x = subst (λ zs. R zs q) e x

-- an item more; S is what is said after it
pub goes_on : {A P : Type 0} (R S : List A → P → Type 0) (G : P → Type 0) (xs : List A) (i : ℕ) (b c : A) → i < length xs → b ≡ get_or xs i b → c ≡ b → ((q : P) → R (drop i xs) q → G q)
    → ((others : List A) (q : P) → S others q → R (c ∷ others) q) → (q : P) → S (drop (i + 1) xs) q → G q
goes_on R S G xs i b c h e n before next q x = before q (subst (λ ys. R ys q) (sym (left_next xs i b c h e n)) (next (drop (i + 1) xs) q x))

-- no item is left
pub comes_to : {A P : Type 0} (R : List A → P → Type 0) (G : P → Type 0) (xs : List A) (i : ℕ) (q : P) → length xs ≤ i → ((q : P) → R (drop i xs) q → G q) → R [] q → G q
comes_to R G xs i q h before x = before q (subst (λ ys. R ys q) (sym (drop_all i xs h)) x)
