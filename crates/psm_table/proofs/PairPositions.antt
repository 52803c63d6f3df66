-- Where a key stands among elements in ascending order: c is the order of an element and the key.
use Rattle.std.proofs.Common.{◌≡◌, ℕ, zero, suc, ◌<◌, ◌≤◌, List, [], ◌∷◌, length, get_or, take, drop, refl, ap, arith, None}
use Rattle.std.specs.Prelude.{filter, find, slice_get}
use Rattle.std.specs.declared.cmp.Ordering.{Ordering}
use Rattle.std.specs.declared.cmp.Ordering.TheVariants.{Less, Equal, Greater}
use Rattle.std.specs.Ordering.{is_lt, is_gt, is_eq}

module _ {R : Type 0} (c : R → Ordering) where
  -- the elements before low are less than the key, and those from high on greater
  pub record Between (rows : List R) (low high : ℕ) : Type 0 where
    pub order : low ≤ high
    pub bound : high ≤ length rows
    pub less : (k : ℕ) (d : R) → k < low → c (get_or rows k d) ≡ Less
    pub greater : (k : ℕ) (d : R) → high ≤ k → k < length rows → c (get_or rows k d) ≡ Greater

  -- elements that are all greater than the key
  lt-none : (rows : List R) → ((k : ℕ) (d : R) → k < length rows → c (get_or rows k d) ≡ Greater) → [] ≡ filter (λ r. is_lt (c r)) rows
  lt-none [] g = refl
  lt-none (x ∷ rows) g =
      let h : c x ≡ Greater = g 0 x (omega arith) in
      let t = lt-none rows (λ k d l. g (suc k) d (omega arith)) in
      rw h t

  gt-all : (rows : List R) → ((k : ℕ) (d : R) → k < length rows → c (get_or rows k d) ≡ Greater) → rows ≡ filter (λ r. is_gt (c r)) rows
  gt-all [] g = refl
  gt-all (x ∷ rows) g =
      let h : c x ≡ Greater = g 0 x (omega arith) in
      let t = gt-all rows (λ k d l. g (suc k) d (omega arith)) in
      rw h (ap (λ rest. x ∷ rest) t)

  eq-none : (rows : List R) → ((k : ℕ) (d : R) → k < length rows → c (get_or rows k d) ≡ Greater) → find (λ r. is_eq (c r)) rows ≡ None
  eq-none [] g = refl
  eq-none (x ∷ rows) g =
      let h : c x ≡ Greater = g 0 x (omega arith) in
      let t = eq-none rows (λ k d l. g (suc k) d (omega arith)) in
      rw h t

  -- the element at index i has the key
  pub at_index : (rows : List R) (i : ℕ) (d : R) → i < length rows → ((k : ℕ) (e : R) → k < i → c (get_or rows k e) ≡ Less) → c (get_or rows i d) ≡ Equal
      → ((k : ℕ) (e : R) → i < k → k < length rows → c (get_or rows k e) ≡ Greater)
      → (find (λ r. is_eq (c r)) rows ≡ slice_get rows i) × (take i rows ≡ filter (λ r. is_lt (c r)) rows) × (drop (suc i) rows ≡ filter (λ r. is_gt (c r)) rows)
  at_index [] i d l f e g = absurd (omega arith)
  at_index (x ∷ rows) zero d l f e g =
      let h : c x ≡ Equal = e in
      let later : (k : ℕ) (y : R) → k < length rows → c (get_or rows k y) ≡ Greater = λ k y m. g (suc k) y (omega arith) (omega arith) in
      (rw h refl, rw h (lt-none rows later), rw h (gt-all rows later))
  at_index (x ∷ rows) (suc i) d l f e g =
      let h : c x ≡ Less = f 0 x (omega arith) in
      let t = at_index rows i d (omega arith) (λ k y m. f (suc k) y (omega arith)) e (λ k y m n. g (suc k) y (omega arith) (omega arith)) in
      (rw h t.0, rw h (ap (λ rest. x ∷ rest) t.1), rw h t.2)

  -- no element has the key
  pub at_gap : (rows : List R) (i : ℕ) → i ≤ length rows → ((k : ℕ) (d : R) → k < i → c (get_or rows k d) ≡ Less)
      → ((k : ℕ) (d : R) → i ≤ k → k < length rows → c (get_or rows k d) ≡ Greater)
      → (find (λ r. is_eq (c r)) rows ≡ None) × (take i rows ≡ filter (λ r. is_lt (c r)) rows) × (drop i rows ≡ filter (λ r. is_gt (c r)) rows)
  at_gap rows zero l f g =
      let later : (k : ℕ) (d : R) → k < length rows → c (get_or rows k d) ≡ Greater = λ k d m. g k d (omega arith) m in
      (eq-none rows later, lt-none rows later, gt-all rows later)
  at_gap [] (suc i) l f g = absurd (omega arith)
  at_gap (x ∷ rows) (suc i) l f g =
      let h : c x ≡ Less = f 0 x (omega arith) in
      let t = at_gap rows i (omega arith) (λ k d m. f (suc k) d (omega arith)) (λ k d m n. g (suc k) d (omega arith) (omega arith)) in
      (rw h t.0, rw h (ap (λ rest. x ∷ rest) t.1), rw h t.2)
