-- What a name means after a declaration: a name that is declared already stays what it is.
use Rattle.std.proofs.Common.{◌≡◌, ◌⊎◌, inl, inr, Bool, true, false, List, [], ◌∷◌, ◌++◌, map, Option, Some, None, option_map, refl, ap, sym, ◌∙◌, subst}
use Rattle.std.specs.Prelude.{if◌then◌else◌, is_some}
use Rattle.psm_scope.specs.Scopes.{Spelling, is_spelled}
use Rattle.psm_scope.specs.Lookup.{named, or_else}
use Rattle.psm_rules.specs.BlockFaults.{declared_once}
use Rattle.psm_typing.specs.TypingContext.{Each}
use Rattle.psm_checker_sound.proofs.Names.{named_mapped}

-- ---- one name more at the end

last_step : {A : Type 0} (b : Bool) (a : A) (o p q : Option A) → p ≡ or_else o q → (if b then Some a else p) ≡ or_else (if b then Some a else o) q
last_step true a o p q h = refl
last_step false a o p q h = h

pub named_last : {A : Type 0} (m : Spelling) (xs : List (Spelling × A)) (n : Spelling) (x : A) → named m (xs ++ (n, x) ∷ []) ≡ or_else (named m xs) (if is_spelled m n then Some x else None)
named_last m [] n x = refl
named_last m (p ∷ xs) n x = last_step (is_spelled m p.0) p.1 (named m xs) (named m (xs ++ (n, x) ∷ [])) (if is_spelled m n then Some x else None) (named_last m xs n x)

-- ---- two lists in which the same names stand

abbrev pub Synced : {A B : Type 0} → List (Spelling × A) → List (Spelling × B) → Type 0
Synced xs ys = (m : Spelling) → is_some (named m xs) ≡ is_some (named m ys)

-- what a name means there and in scopes outside stays, or it is the name that is declared
abbrev Looks : {A B : Type 0} → Option A → Option A → Option B → Option B → A → B → Bool → Type 0
Looks new_x old_x new_y old_y x y spelled = ((new_x ≡ old_x) × (new_y ≡ old_y)) ⊎ ((new_x ≡ Some x) × (new_y ≡ Some y) × (spelled ≡ true))

looks_at : {A B : Type 0} (a : Option A) (b : Option B) (ox : Option A) (oy : Option B) (x : A) (y : B) (t : Bool) → is_some a ≡ is_some b
    → Looks (or_else (or_else a (if t then Some x else None)) ox) (or_else a ox) (or_else (or_else b (if t then Some y else None)) oy) (or_else b oy) x y t
looks_at (Some u) (Some v) ox oy x y t e = inl (refl, refl)
looks_at (Some u) None ox oy x y t e = absurd cc
looks_at None (Some v) ox oy x y t e = absurd cc
looks_at None None ox oy x y true e = inr (refl, refl, refl)
looks_at None None ox oy x y false e = inl (refl, refl)

looks_last : {A B : Type 0} (xs : List (Spelling × A)) (ys : List (Spelling × B)) (n : Spelling) (x : A) (y : B) (ox : Option A) (oy : Option B) → Synced xs ys → (m : Spelling)
    → Looks (or_else (named m (xs ++ (n, x) ∷ [])) ox) (or_else (named m xs) ox) (or_else (named m (ys ++ (n, y) ∷ [])) oy) (or_else (named m ys) oy) x y (is_spelled m n)
looks_last xs ys n x y ox oy s m =
    subst (λ o. Looks (or_else o ox) (or_else (named m xs) ox) (or_else (named m (ys ++ (n, y) ∷ [])) oy) (or_else (named m ys) oy) x y (is_spelled m n)) (sym (named_last m xs n x))
    (subst (λ o. Looks (or_else (or_else (named m xs) (if is_spelled m n then Some x else None)) ox) (or_else (named m xs) ox) (or_else o oy) (or_else (named m ys) oy) x y (is_spelled m n)) (sym (named_last m ys n y))
    (looks_at (named m xs) (named m ys) ox oy x y (is_spelled m n) (s m)))

looks_by : {A B : Type 0} (xs : List (Spelling × A)) (ys : List (Spelling × B)) (n : Spelling) (x : A) (y : B) (ox : Option A) (oy : Option B) → Synced xs ys → (m : Spelling) (b c : Bool) → b ≡ c
    → Looks (or_else (named m (if b then xs else xs ++ (n, x) ∷ [])) ox) (or_else (named m xs) ox) (or_else (named m (if c then ys else ys ++ (n, y) ∷ [])) oy) (or_else (named m ys) oy) x y (is_spelled m n)
looks_by xs ys n x y ox oy s m true true e = inl (refl, refl)
looks_by xs ys n x y ox oy s m true false e = absurd cc
looks_by xs ys n x y ox oy s m false true e = absurd cc
looks_by xs ys n x y ox oy s m false false e = looks_last xs ys n x y ox oy s m

-- what holds of the meanings of a name before the declaration, and of what is declared, holds after it
pub looked : {A B : Type 0} (P : Option A → Option B → Type 0) (xs : List (Spelling × A)) (ys : List (Spelling × B)) (n : Spelling) (x : A) (y : B) (ox : Option A) (oy : Option B) → Synced xs ys → (m : Spelling)
    → P (or_else (named m xs) ox) (or_else (named m ys) oy) → (is_spelled m n ≡ true → P (Some x) (Some y)) → P (or_else (named m (declared_once xs n x)) ox) (or_else (named m (declared_once ys n y)) oy)
looked P xs ys n x y ox oy s m old new =
    elim (looks_by xs ys n x y ox oy s m (is_some (named n xs)) (is_some (named n ys)) (s n)) as (λ _. P (or_else (named m (declared_once xs n x)) ox) (or_else (named m (declared_once ys n y)) oy)) [
      | inl k ↦ subst (λ o. P o (or_else (named m (declared_once ys n y)) oy)) (sym k.0) (subst (P (or_else (named m xs) ox)) (sym k.1) old)
      | inr k ↦ subst (λ o. P o (or_else (named m (declared_once ys n y)) oy)) (sym k.0) (subst (P (Some x)) (sym k.1) (new k.2))
    ]

-- the same in one list
pub looked_in : {A : Type 0} (P : Option A → Type 0) (xs : List (Spelling × A)) (n : Spelling) (x : A) (ox : Option A) (m : Spelling) → P (or_else (named m xs) ox) → (is_spelled m n ≡ true → P (Some x))
    → P (or_else (named m (declared_once xs n x)) ox)
looked_in P xs n x ox m old new = looked (λ a b. P a) xs xs n x x ox ox (λ k. refl) m old new

or_none : {A : Type 0} (o : Option A) → or_else o None ≡ o
or_none (Some a) = refl
or_none None = refl

pub synced_once : {A B : Type 0} (xs : List (Spelling × A)) (ys : List (Spelling × B)) (n : Spelling) (x : A) (y : B) → Synced xs ys → Synced (declared_once xs n x) (declared_once ys n y)
synced_once xs ys n x y s m =
    ap is_some (sym (or_none (named m (declared_once xs n x))))
    ∙ looked (λ a b. is_some a ≡ is_some b) xs ys n x y None None s m (ap is_some (or_none (named m xs)) ∙ s m ∙ ap is_some (sym (or_none (named m ys)))) (λ is. refl)
    ∙ ap is_some (or_none (named m (declared_once ys n y)))

-- ---- what is made of each thing that is declared

abbrev pub mapped : {A B : Type 0} → (A → B) → List (Spelling × A) → List (Spelling × B)
mapped f xs = map (λ p. (p.0, f p.1)) xs

some_mapped : {A B : Type 0} (f : A → B) (o : Option A) → is_some o ≡ is_some (option_map f o)
some_mapped f None = refl
some_mapped f (Some a) = refl

mapped_append : {A B : Type 0} (f : A → B) (xs : List (Spelling × A)) (n : Spelling) (x : A) → mapped f (xs ++ (n, x) ∷ []) ≡ mapped f xs ++ (n, f x) ∷ []
mapped_append f [] n x = refl
mapped_append f (p ∷ xs) n x = ap (λ ps. (p.0, f p.1) ∷ ps) (mapped_append f xs n x)

once_by : {A B : Type 0} (f : A → B) (xs : List (Spelling × A)) (n : Spelling) (x : A) (b : Bool)
    → mapped f (if b then xs else xs ++ (n, x) ∷ []) ≡ (if b then mapped f xs else mapped f xs ++ (n, f x) ∷ [])
once_by f xs n x true = refl
once_by f xs n x false = mapped_append f xs n x

pub once_mapped : {A B : Type 0} (f : A → B) (xs : List (Spelling × A)) (n : Spelling) (x : A) → mapped f (declared_once xs n x) ≡ declared_once (mapped f xs) n (f x)
once_mapped f xs n x =
    once_by f xs n x (is_some (named n xs))
    ∙ ap (λ b. if b then mapped f xs else mapped f xs ++ (n, f x) ∷ []) (some_mapped f (named n xs) ∙ ap is_some (sym (named_mapped f n xs)))

-- ---- each of what is declared

pub each_append : {A : Type 0} (P : A → Type 0) (xs ys : List A) → Each P xs → Each P ys → Each P (xs ++ ys)
each_append P [] ys h k = k
each_append P (x ∷ xs) ys h k = (h.0, each_append P xs ys h.1 k)

each_by : {A : Type 0} (P : (Spelling × A) → Type 0) (xs : List (Spelling × A)) (p : Spelling × A) (b : Bool) → Each P xs → P p → Each P (if b then xs else xs ++ p ∷ [])
each_by P xs p true h k = h
each_by P xs p false h k = each_append P xs (p ∷ []) h (k, tt)

pub each_once : {A : Type 0} (P : (Spelling × A) → Type 0) (xs : List (Spelling × A)) (n : Spelling) (x : A) → Each P xs → P (n, x) → Each P (declared_once xs n x)
each_once P xs n x h k = each_by P xs (n, x) (is_some (named n xs)) h k
