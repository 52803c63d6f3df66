-- Names of which none stands twice differ from each one before.
use Rattle.std.proofs.Common.{◌≡◌, ◌++◌, ◌||◌, ◌&&◌, ℕ, Bool, true, false, not, List, [], ◌∷◌, ap, ap₂, refl, ◌∙◌}
use Rattle.std.specs.List.{list_all}
use Rattle.std.proofs.lemmas.Bool.{false≢true}
use Rattle.std.proofs.lemmas.List.Folds.{list_all-append}
use Rattle.psm_code.specs.Rules.{is_same}
use Rattle.psm_wellformed.specs.Files.{is_name_among}

neither : (a b : Bool) → not (a || b) ≡ true → (not a ≡ true) × (not b ≡ true)
neither true b h = absurd (false≢true h)
neither false b h = (refl, h)

pub all-more : {A : Type 0} (f : A → Bool) (xs : List A) (x : A) → list_all f xs ≡ true → f x ≡ true → list_all f (xs ++ x ∷ []) ≡ true
all-more f xs x h p = list_all-append f xs (x ∷ []) ∙ ap₂ (λ a b. a && (b && true)) h p

-- the names of what stands before are among these
abbrev pub Covers : {A : Type 0} → (A → List ℕ) → List (List ℕ) → List A → Type 0
Covers name names before = (n : List ℕ) → not (is_name_among n names) ≡ true → list_all (λ x. not (is_same (name x) n)) before ≡ true

pub covers-more : {A : Type 0} (name : A → List ℕ) (names : List (List ℕ)) (before : List A) (x : A) (m : List ℕ) → Covers name names before → name x ≡ m → Covers name (m ∷ names) (before ++ x ∷ [])
covers-more name names before x m c q n h =
    let two = neither (is_same m n) (is_name_among n names) h in
    all-more (λ y. not (is_same (name y) n)) before x (c n two.1) (ap (λ k. not (is_same k n)) q ∙ two.0)
