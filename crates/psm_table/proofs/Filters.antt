-- Filters, and lists in which each two elements are related.
use Rattle.std.proofs.Common.{◌≡◌, Bor, nat_lt, inl, inr, ℕ, zero, suc, ◌<◌, ◌≤◌, List, [], ◌∷◌, ◌++◌, length, get_or, take, drop, not, Bool, true, false, refl, ap, sym, subst, ◌∙◌, arith, Some, None}
use Rattle.std.specs.Prelude.{All, AllPairs, Option, cond, filter, find, slice_get, is_some, IfSome, IsSome}
use Rattle.std.specs.Option.{option_copied}
use Rattle.std.proofs.lemmas.Bool.{cases_lt, lt-ltb, ltb-true}
use Rattle.std.proofs.lemmas.List.{get_or_default}
use Rattle.std.proofs.lemmas.Option.{slice_get-get_or, slice_get_past}
use Rattle.std.proofs.lemmas.List.Elements.{All-nil, All-cons, All-append, All-tail, All-head}
use Rattle.std.proofs.lemmas.List.Kept.{AllPairs-cons}
use Rattle.std.specs.declared.cmp.Ordering.{Ordering}
use Rattle.std.specs.declared.cmp.Ordering.TheVariants.{Less, Equal, Greater}
use Rattle.std.specs.Ordering.{is_lt, is_gt, is_eq}

-- each element that passes a filter has what the test says
filtered-first : {X : Type 0} (p : X → Bool) (P : X → Type 0) (x : X) (xs : List X) (b : Bool) → p x ≡ b → (p x ≡ true → P x) → All P (filter p xs) → All P (filter p (x ∷ xs))
filtered-first p P x xs true e f h = rw e (All-cons P x (filter p xs) (f e) h)
filtered-first p P x xs false e f h = rw e h

pub filtered : {X : Type 0} (p : X → Bool) (P : X → Type 0) → ((x : X) → p x ≡ true → P x) → (xs : List X) → All P (filter p xs)
filtered p P f [] = All-nil P
filtered p P f (x ∷ xs) = filtered-first p P x xs (p x) refl (f x) (filtered p P f xs)

-- what holds of the elements that pass, and of the others
unfiltered-first : {X : Type 0} (p : X → Bool) (P : X → Type 0) (x : X) (xs : List X) (b : Bool) → p x ≡ b → (p x ≡ false → P x) → (All P (filter p xs) → All P xs) → All P (filter p (x ∷ xs)) → All P (x ∷ xs)
unfiltered-first p P x xs true e f h a =
    let b : All P (x ∷ filter p xs) = subst (λ (c : Bool). All P (cond c (x ∷ filter p xs) (filter p xs))) e a in
    All-cons P x xs (All-head P x (filter p xs) b) (h (All-tail P x (filter p xs) b))
unfiltered-first p P x xs false e f h a =
    let b : All P (filter p xs) = subst (λ (c : Bool). All P (cond c (x ∷ filter p xs) (filter p xs))) e a in
    All-cons P x xs (f e) (h b)

pub unfiltered : {X : Type 0} (p : X → Bool) (P : X → Type 0) → ((x : X) → p x ≡ false → P x) → (xs : List X) → All P (filter p xs) → All P xs
unfiltered p P f [] a = a
unfiltered p P f (x ∷ xs) a = unfiltered-first p P x xs (p x) refl (f x) (unfiltered p P f xs) a

-- where each element passes, and where none does
pub filter-whole : {X : Type 0} (p : X → Bool) (xs : List X) → All (λ x. p x ≡ true) xs → filter p xs ≡ xs
filter-whole p [] h = refl
filter-whole p (x ∷ xs) h =
    let e : p x ≡ true = All-head (λ y. p y ≡ true) x xs h in
    let t = filter-whole p xs (All-tail (λ y. p y ≡ true) x xs h) in
    rw e (ap (λ rest. x ∷ rest) t)

pub filter-empty : {X : Type 0} (p : X → Bool) (xs : List X) → All (λ x. p x ≡ false) xs → filter p xs ≡ []
filter-empty p [] h = refl
filter-empty p (x ∷ xs) h =
    let e : p x ≡ false = All-head (λ y. p y ≡ false) x xs h in
    let t = filter-empty p xs (All-tail (λ y. p y ≡ false) x xs h) in
    rw e t

-- where the elements from index i on pass, and no others
pub filter-drop : {X : Type 0} (p : X → Bool) (xs : List X) (i : ℕ) → i ≤ length xs → ((k : ℕ) (d : X) → k < i → p (get_or xs k d) ≡ false)
    → ((k : ℕ) (d : X) → i ≤ k → k < length xs → p (get_or xs k d) ≡ true) → filter p xs ≡ drop i xs
filter-drop p [] zero l f g = refl
filter-drop p [] (suc i) l f g = absurd (omega arith)
filter-drop p (x ∷ xs) zero l f g =
    let e : p x ≡ true = g 0 x (omega arith) (omega arith) in
    let t = filter-drop p xs zero (omega arith) (λ k d b. absurd (omega arith)) (λ k d b m. g (suc k) d (omega arith) (omega arith)) in
    rw e (ap (λ rest. x ∷ rest) t)
filter-drop p (x ∷ xs) (suc i) l f g =
    let e : p x ≡ false = f 0 x (omega arith) in
    let t = filter-drop p xs i (omega arith) (λ k d b. f (suc k) d (omega arith)) (λ k d b m. g (suc k) d (omega arith) (omega arith)) in
    rw e t

-- and where those before index i don't pass
pub filter-take : {X : Type 0} (p : X → Bool) (xs : List X) (i : ℕ) → i ≤ length xs → ((k : ℕ) (d : X) → k < i → p (get_or xs k d) ≡ false)
    → ((k : ℕ) (d : X) → i ≤ k → k < length xs → p (get_or xs k d) ≡ true) → filter (λ x. not (p x)) xs ≡ take i xs
filter-take p [] zero l f g = refl
filter-take p [] (suc i) l f g = absurd (omega arith)
filter-take p (x ∷ xs) zero l f g =
    let e : p x ≡ true = g 0 x (omega arith) (omega arith) in
    let t = filter-take p xs zero (omega arith) (λ k d b. absurd (omega arith)) (λ k d b m. g (suc k) d (omega arith) (omega arith)) in
    rw e t
filter-take p (x ∷ xs) (suc i) l f g =
    let e : p x ≡ false = f 0 x (omega arith) in
    let t = filter-take p xs i (omega arith) (λ k d b. f (suc k) d (omega arith)) (λ k d b m. g (suc k) d (omega arith) (omega arith)) in
    rw e (ap (λ rest. x ∷ rest) t)

pub slice_get-drop : {X : Type 0} (xs : List X) (i : ℕ) → slice_get (drop i xs) 0 ≡ slice_get xs i
slice_get-drop xs zero = refl
slice_get-drop [] (suc i) = refl
slice_get-drop (x ∷ xs) (suc i) = slice_get-drop xs i

pub slice_get_some : {X : Type 0} (xs : List X) (i : ℕ) → i < length xs → IsSome (slice_get xs i)
slice_get_some [] i l = absurd (omega arith)
slice_get_some (x ∷ xs) zero l = refl
slice_get_some (x ∷ xs) (suc i) l = slice_get_some xs i (omega arith)

-- what a search finds passes
passes-first : {X : Type 0} (p : X → Bool) (y : X) (ys : List X) (x : X) (b : Bool) → p y ≡ b → (find p ys ≡ Some x → p x ≡ true) → cond b (Some y) (find p ys) ≡ Some x → p x ≡ true
passes-first p y ys x true e h f = let same : y ≡ x = cc in subst (λ z. p z ≡ true) same e
passes-first p y ys x false e h f = h f

pub find_passes : {X : Type 0} (p : X → Bool) (xs : List X) (x : X) → find p xs ≡ Some x → p x ≡ true
find_passes p [] x e = cc
find_passes p (y ∷ ys) x e = passes-first p y ys x (p y) refl (find_passes p ys x) e

pub AllPairs-rest : {X : Type 0} (R : X → X → Type 0) (x : X) (xs : List X) → AllPairs R (x ∷ xs) → AllPairs R xs
AllPairs-rest R x xs p i j d l m = p (suc i) (suc j) d (omega arith) (omega arith)

pub AllPairs-first : {X : Type 0} (R : X → X → Type 0) (x : X) (xs : List X) → AllPairs R (x ∷ xs) → All (R x) xs
AllPairs-first R x xs p k d l = p 0 (suc k) d (omega arith) (omega arith)

pub AllPairs-append : {X : Type 0} (R : X → X → Type 0) (xs ys : List X) → AllPairs R xs → AllPairs R ys → All (λ x. All (R x) ys) xs → AllPairs R (xs ++ ys)
AllPairs-append R [] ys p q h = q
AllPairs-append R (x ∷ xs) ys p q h =
    AllPairs-cons R x (xs ++ ys) (All-append (R x) xs ys (AllPairs-first R x xs p) (All-head (λ y. All (R y) ys) x xs h))
    (AllPairs-append R xs ys (AllPairs-rest R x xs p) q (All-tail (λ y. All (R y) ys) x xs h))

pub less_is : (o : Ordering) → is_lt o ≡ true → o ≡ Less
less_is Less e = refl
less_is Equal e = cc
less_is Greater e = cc

pub equal_is : (o : Ordering) → is_eq o ≡ true → o ≡ Equal
equal_is Less e = cc
equal_is Equal e = refl
equal_is Greater e = cc

pub greater_is : (o : Ordering) → is_gt o ≡ true → o ≡ Greater
greater_is Less e = cc
greater_is Equal e = cc
greater_is Greater e = refl

pub none_some : {X : Type 0} (o : Option X) → o ≡ None → IsSome o → ⊥
none_some None e s = cc
none_some (Some x) e s = cc

-- what a read of a list lends
not_past : (i n : ℕ) → nat_lt i n ≡ true → n ≤ i → ⊥
not_past i n e l = absurd (omega (arith, ltb-true i n e, l))

pub copied-get : {X : Type 0} (r : Option (Bor X)) (xs : List X) (i : ℕ) → is_some r ≡ nat_lt i (length xs) → IfSome r (λ x. x.now ≡ get_or xs i x.now) → option_copied r ≡ slice_get xs i
copied-get None xs i e f = elim (cases_lt i (length xs)) [
  | inl inside ↦ absurd (let g : false ≡ true = e ∙ lt-ltb i (length xs) inside in cc)
  | inr past ↦ sym (slice_get_past xs i past)
]
copied-get (Some x) xs i e f = elim (cases_lt i (length xs)) [
  | inl inside ↦ ap Some (f ∙ get_or_default xs i x.now x.now inside) ∙ sym (slice_get-get_or xs i x.now inside)
  | inr past ↦ absurd (let g : true ≡ nat_lt i (length xs) = e in not_past i (length xs) (sym g) past)
]

pub copied_some : {X : Type 0} (r : Option (Bor X)) → is_some r ≡ is_some (option_copied r)
copied_some None = refl
copied_some (Some x) = refl
