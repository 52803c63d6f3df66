-- Lines of the items of a list, one after another.
use Rattle.std.proofs.Common.{◌≡◌, ℕ, zero, suc, ◌+◌, ◌<◌, List, [], ◌∷◌, ◌++◌, length, get_or, drop, take, map, refl, ap, sym, subst, ◌∙◌, arith, length-append, Option, None, Some, Result, Ok, Err}
use Rattle.std.specs.List.{flat_map}
use Rattle.std.proofs.Math.Seq.{drop-cons}
use Rattle.std.proofs.lemmas.List.{take_more}
use Rattle.psm_code.specs.declared.rule.CodeRule.{CodeRule}
use Rattle.psm_code.specs.Rules.{each_after}
use Rattle.psm_verify.specs.declared.fault.Stop.{Stop}
use Rattle.psm_verify.specs.Checked.{Finds, checked, item_at, item_in}
use Rattle.psm_verify.proofs.Placing.{is_at}
use Rattle.std.specs.Prelude.{option_map, slice_get}
use Rattle.std.proofs.lemmas.Option.{get_or_from_slice_get, slice_get-map, slice_get_past}
use Rattle.psm_verify.proofs.LinesInOrder.{going_on, stop}

pub rest_of : {A : Type 0} (xs : List A) (at : ℕ) (a : A) → at < length xs → a ≡ get_or xs at a → drop at xs ≡ a ∷ drop (at + 1) xs
rest_of xs at a l e =
    let n : suc at ≡ at + 1 = omega arith in
    drop-cons xs at a l ∙ ap (λ x. x ∷ drop (suc at) xs) (sym e) ∙ ap (λ k. a ∷ drop k xs) n

pub before_next : {A : Type 0} (xs : List A) (at : ℕ) (a : A) → at < length xs → a ≡ get_or xs at a → take at xs ++ a ∷ [] ≡ take (at + 1) xs
before_next xs at a l e = ap (λ y. take at xs ++ y ∷ []) e ∙ sym (take_more xs at a l)

pub after_next : {A B : Type 0} (f : List A → A → List B) (xs : List A) (at : ℕ) (a : A) → at < length xs → a ≡ get_or xs at a
    → each_after f (take at xs) (drop at xs) ≡ f (take at xs) a ++ each_after f (take (at + 1) xs) (drop (at + 1) xs)
after_next f xs at a l e =
    ap (each_after f (take at xs)) (rest_of xs at a l e) ∙ ap (λ ys. f (take at xs) a ++ each_after f ys (drop (at + 1) xs)) (before_next xs at a l e)

pub map_next : {A B : Type 0} (f : A → B) (xs : List A) (at : ℕ) (a : A) → at < length xs → a ≡ get_or xs at a → map f (drop at xs) ≡ f a ∷ map f (drop (at + 1) xs)
map_next f xs at a l e = ap (map f) (rest_of xs at a l e)

pub flat_next : {A B : Type 0} (f : A → List B) (xs : List A) (at : ℕ) (a : A) → at < length xs → a ≡ get_or xs at a → flat_map f (drop at xs) ≡ f a ++ flat_map f (drop (at + 1) xs)
flat_next f xs at a l e = ap (flat_map f) (rest_of xs at a l e)

-- ---- what is found in them, where it is found in all what is found in those from an index on

module _ {A : Type 0} (xs ys : List A) (at : ℕ) (a : A) (n k : ℕ) where
  here : ys ≡ xs → at < length ys → at < length xs
  here y l = subst (λ zs. at < length zs) y l

  it_is : ys ≡ xs → a ≡ get_or ys at a → a ≡ get_or xs at a
  it_is y e = e ∙ ap (λ zs. get_or zs at a) y

  pub flat_go : (f : A → List (Option CodeRule)) (m : ℕ) → ys ≡ xs → at < length ys → a ≡ get_or ys at a → checked n (flat_map f xs) ≡ checked k (flat_map f (drop at xs)) → checked k (f a) ≡ Ok m
      → checked n (flat_map f xs) ≡ checked m (flat_map f (drop (at + 1) xs))
  flat_go f m y l e i h = i ∙ ap (checked k) (flat_next f xs at a (here y l) (it_is y e)) ∙ going_on (f a) (flat_map f (drop (at + 1) xs)) k m h

  pub flat_stop : (f : A → List (Option CodeRule)) (s : Stop) (r : Result ℕ Stop) → r ≡ Err s → ys ≡ xs → at < length ys → a ≡ get_or ys at a → checked n (flat_map f xs) ≡ checked k (flat_map f (drop at xs))
      → Finds (checked k (f a)) (Err s) → Finds (checked n (flat_map f xs)) r
  flat_stop f s r q y l e i h =
      subst (λ d. Finds d r) (sym (i ∙ ap (checked k) (flat_next f xs at a (here y l) (it_is y e)))) (stop (f a) (flat_map f (drop (at + 1) xs)) k q h)

module _ {A : Type 0} (f : List A → A → List (Option CodeRule)) (xs : List A) (at n k : ℕ) where
  item_next : at < length xs → each_after f (take at xs) (drop at xs) ≡ item_at f xs at ++ each_after f (take (at + 1) xs) (drop (at + 1) xs)
  item_next l =
      let a : A = (is_at xs at l).0 in
      let e : slice_get xs at ≡ Some a = (is_at xs at l).1 in
      after_next f xs at a l (sym (get_or_from_slice_get xs at a a e))
      ∙ ap (λ o. item_in f (take at xs) o ++ each_after f (take (at + 1) xs) (drop (at + 1) xs)) (sym e)

  pub after_go : {m : ℕ} → at < length xs → checked n (each_after f [] xs) ≡ checked k (each_after f (take at xs) (drop at xs))
      → checked k (item_at f xs at) ≡ Ok m → checked n (each_after f [] xs) ≡ checked m (each_after f (take (at + 1) xs) (drop (at + 1) xs))
  after_go {m} l i h = i ∙ ap (checked k) (item_next l) ∙ going_on (item_at f xs at) (each_after f (take (at + 1) xs) (drop (at + 1) xs)) k m h

  pub after_stop : {s : Stop} {r : Result ℕ Stop} → r ≡ Err s → at < length xs → checked n (each_after f [] xs) ≡ checked k (each_after f (take at xs) (drop at xs))
      → Finds (checked k (item_at f xs at)) (Err s) → Finds (checked n (each_after f [] xs)) r
  after_stop {s} {r} q l i h = subst (λ d. Finds d r) (sym (i ∙ ap (checked k) (item_next l))) (stop (item_at f xs at) (each_after f (take (at + 1) xs) (drop (at + 1) xs)) k q h)

-- ---- an item among those before it and itself

pub got_before : {A : Type 0} (xs : List A) (x : A) (n : ℕ) → n < length xs → slice_get (xs ++ x ∷ []) n ≡ slice_get xs n
got_before [] x n h = absurd (omega (arith, h))
got_before (y ∷ xs) x zero h = refl
got_before (y ∷ xs) x (suc n) h = got_before xs x n (omega (arith, h))

pub got_last : {A : Type 0} (xs : List A) (x : A) (n : ℕ) → n ≡ length xs → slice_get (xs ++ x ∷ []) n ≡ Some x
got_last [] x n h = ap (slice_get (x ∷ [])) h
got_last (y ∷ xs) x n h = ap (slice_get (y ∷ xs ++ x ∷ [])) h ∙ got_last xs x (length xs) refl

pub got_past : {A : Type 0} (xs : List A) (x : A) (n : ℕ) → length xs < n → slice_get (xs ++ x ∷ []) n ≡ None
got_past xs x n h = slice_get_past (xs ++ x ∷ []) n (omega (arith, h, length-append xs (x ∷ [])))

-- ---- what is known of the items, one for one

pub known_at : {A B : Type 0} (f : A → B) (xs : List A) (ys : List B) (at : ℕ) → ys ≡ map f xs → slice_get ys at ≡ option_map f (slice_get xs at)
known_at f xs ys at h = ap (λ zs. slice_get zs at) h ∙ slice_get-map f xs at
