-- Segments that are filled in order, where one of them is written over.
use Rattle.std.proofs.Common.{◌≡◌, ℕ, zero, suc, ◌+◌, ◌-◌, ◌*◌, ◌<◌, ◌≤◌, List, [], ◌∷◌, ◌++◌, length, get_or, set, refl, ap, sym, subst, ◌∙◌, inl, inr, arith, append_assoc, append-nil}
use Rattle.std.specs.Prelude.{min, slice_get}
use Rattle.std.proofs.lemmas.Bool.{cases_eq}
use Rattle.std.proofs.lemmas.List.{length-append, get_or-set_same, get_or-set_other}
use Rattle.psm_segstack.specs.Segments.{AreFilled, joined}

module _ {A : Type 0} where
  -- the segments after the first
  filled_tail : (s : List A) (ss : List (List A)) (n : ℕ) → AreFilled (s ∷ ss) n → AreFilled ss (n - 1024)
  filled_tail s ss n h k = h (suc k) ∙ ap (min 1024) (omega arith)

  pub length-joined : (segments : List (List A)) (n : ℕ) → AreFilled segments n → length (joined segments) ≡ n
  length-joined [] n h = omega (arith, h 0)
  length-joined (s ∷ ss) n h =
      omega (arith, h 0, length-append s (joined ss), length-joined ss (n - 1024) (filled_tail s ss n h))

  pub no_items : (xs : List A) → length xs ≡ 0 → xs ≡ []
  no_items [] h = refl
  no_items (x ∷ xs) h = cc

  -- there is room for all of them
  pub filled_within : (segments : List (List A)) (n : ℕ) → AreFilled segments n → n ≤ 1024 * length segments
  filled_within [] n h = omega (arith, h 0)
  filled_within (s ∷ ss) n h = omega (arith, filled_within ss (n - 1024) (filled_tail s ss n h))

  -- an empty segment more
  filled_end : (segments : List (List A)) (k : ℕ) → get_or (segments ++ [] ∷ []) k [] ≡ get_or segments k []
  filled_end [] zero = refl
  filled_end [] (suc k) = refl
  filled_end (s ∷ ss) zero = refl
  filled_end (s ∷ ss) (suc k) = filled_end ss k

  pub filled_more : (segments : List (List A)) (n : ℕ) → AreFilled segments n → AreFilled (segments ++ [] ∷ []) n
  filled_more segments n h k = ap length (filled_end segments k) ∙ h k

  pub joined_more : (segments : List (List A)) → joined (segments ++ [] ∷ []) ≡ joined segments
  joined_more [] = refl
  joined_more (s ∷ ss) = ap (λ l. s ++ l) (joined_more ss)

  -- the segments after the one that the next item goes into
  empty_after : (segments : List (List A)) (i : ℕ) → i ≤ 1024 → AreFilled segments (i - 1024) → joined segments ≡ []
  empty_after segments i h f = no_items (joined segments) (omega (arith, h, length-joined segments (i - 1024) f))

  -- an item at the end of the segment where the next one goes
  pub joined_pushed : (segments : List (List A)) (j i : ℕ) (s : List A) (x : A) → i < 1024 → j < length segments → AreFilled segments (1024 * j + i) → s ≡ get_or segments j s →
      joined (set segments j (s ++ x ∷ [])) ≡ joined segments ++ x ∷ []
  joined_pushed [] j i s x h l f e = let never : ⊥ = omega (arith, l) in absurd never
  joined_pushed (a ∷ ss) zero i s x h l f e =
      let none : joined ss ≡ [] = empty_after ss i (omega (arith, h)) (subst (λ n. AreFilled ss (n - 1024)) (omega arith) (filled_tail a ss (1024 * 0 + i) f)) in
      ap (λ l. (s ++ x ∷ []) ++ l) none
      ∙ append-nil (s ++ x ∷ [])
      ∙ ap (λ l. l ++ x ∷ []) (e ∙ sym (append-nil a) ∙ ap (λ l. a ++ l) (sym none))
  joined_pushed (a ∷ ss) (suc j) i s x h l f e =
      ap (λ l. a ++ l) (joined_pushed ss j i s x h (omega (arith, l)) (subst (AreFilled ss) (omega arith) (filled_tail a ss (1024 * suc j + i) f)) e)
      ∙ sym (append_assoc a (joined ss) (x ∷ []))

  -- as many items more in that segment
  pub filled_set : (segments : List (List A)) (j i m : ℕ) (s : List A) → i ≤ 1024 → m ≤ 1024 → j < length segments → AreFilled segments (1024 * j + i) → length s ≡ m →
      AreFilled (set segments j s) (1024 * j + m)
  filled_set segments j i m s h g l f e k =
      elim (cases_eq k j) [
        | inl p ↦ ap (λ n. length (get_or (set segments j s) n [])) p ∙ ap length (get_or-set_same segments j s [] l) ∙ omega (arith, e, g, p)
        | inr p ↦ ap length (get_or-set_other segments j k s [] p) ∙ f k ∙ omega (arith, h, g, p)
      ]

  -- an item of one of two lists
  get_left : (xs ys : List A) (i : ℕ) → i < length xs → slice_get (xs ++ ys) i ≡ slice_get xs i
  get_left [] ys i h = let never : ⊥ = omega (arith, h) in absurd never
  get_left (x ∷ xs) ys zero h = refl
  get_left (x ∷ xs) ys (suc i) h = get_left xs ys i (omega (arith, h))

  get_right : (xs ys : List A) (i k : ℕ) → k ≡ length xs + i → slice_get (xs ++ ys) k ≡ slice_get ys i
  get_right [] ys i k e = ap (slice_get ys) (omega (arith, e))
  get_right (x ∷ xs) ys i zero e = let never : ⊥ = omega (arith, e) in absurd never
  get_right (x ∷ xs) ys i (suc k) e = get_right xs ys i k (omega (arith, e))

  -- the item at an index of a segment
  pub get-joined : (segments : List (List A)) (n j i : ℕ) → AreFilled segments n → i < 1024 → 1024 * j + i < n →
      slice_get (joined segments) (1024 * j + i) ≡ slice_get (get_or segments j []) i
  get-joined [] n j i f h l = let never : ⊥ = omega (arith, l, f 0) in absurd never
  get-joined (s ∷ ss) n zero i f h l =
      ap (slice_get (s ++ joined ss)) (omega arith) ∙ get_left s (joined ss) i (omega (arith, h, l, f 0))
  get-joined (s ∷ ss) n (suc j) i f h l =
      get_right s (joined ss) (1024 * j + i) (1024 * suc j + i) (omega (arith, l, f 0))
      ∙ get-joined ss (n - 1024) j i (filled_tail s ss n f) h (omega (arith, l))
