-- What stays of two lists of candidates, of which one comes after the other.
use Rattle.std.proofs.Common.{◌≡◌, ℕ, zero, suc, ◌<◌, ◌≤◌, ◌+◌, ◌*◌, ◌^◌, Bool, true, false, not, ◌&&◌, nat_le, length, List, [], ◌∷◌, ◌++◌, refl, ap, sym, ◌∙◌, arith}
use Rattle.std.specs.Prelude.{slice_index_or}
use Rattle.std.specs.Ordering.{nat_cmp, ordering_then}
use Rattle.std.specs.declared.cmp.Ordering.{Ordering}
use Rattle.std.specs.declared.cmp.Ordering.TheVariants.{Less, Equal, Greater}
use Rattle.std.proofs.Math.Nat.{pow-suc}
use Rattle.std.proofs.lemmas.Bool.Decides.{nat_tests}
use Rattle.psm_scope.specs.declared.kinds.ArgKind.{ArgKind}
use Rattle.psm_scope.specs.declared.kinds.ArgKind.TheVariants.{SmallInt, Integer, Numeric, Char, VarChar, Null}
use Rattle.psm_scope.specs.Choice.{Candidate, narrowed, rank}
use Rattle.psm_scope.specs.Pass.{added, joined, merged, order, order_in, stays}
use Rattle.psm_scope.proofs.Narrowing.{narrowed_more, narrowed_none, rank_small}

-- ---- the order as an order of numbers: one digit to the base of 3 for each argument

abbrev digit : ArgKind → ArgKind → ℕ
digit Null k = 0
digit a k = rank k

abbrev value : ℕ → List ArgKind → List ArgKind → ℕ
value index [] ks = 0
value index (a ∷ others) ks = digit a (slice_index_or ks index Null) * 3 ^ length others + value (suc index) others ks

digit_small : (a k : ArgKind) → digit a k ≤ 2
digit_small SmallInt k = rank_small k
digit_small Integer k = rank_small k
digit_small Numeric k = rank_small k
digit_small Char k = rank_small k
digit_small VarChar k = rank_small k
digit_small Null k = omega arith

digit_order : (a k l : ArgKind) → order_in a k l ≡ nat_cmp (digit a k) (digit a l)
digit_order SmallInt k l = refl
digit_order Integer k l = refl
digit_order Numeric k l = refl
digit_order Char k l = refl
digit_order VarChar k l = refl
digit_order Null k l = refl

digit_below : (d m u : ℕ) → d ≤ 2 → u < m → d * m + u < m * 3
digit_below zero m u le lt = omega (arith, lt)
digit_below (suc zero) m u le lt = omega (arith, lt)
digit_below (suc (suc zero)) m u le lt = omega (arith, lt)
digit_below (suc (suc (suc d))) m u le lt = absurd (omega (arith, le))

value_below : (index : ℕ) (args ks : List ArgKind) → value index args ks < 3 ^ length args
value_below index [] ks = omega arith
value_below index (a ∷ others) ks =
    let r : digit a (slice_index_or ks index Null) * 3 ^ length others + value (suc index) others ks < 3 ^ length others * 3 =
    digit_below (digit a (slice_index_or ks index Null)) (3 ^ length others) (value (suc index) others ks) (digit_small a (slice_index_or ks index Null)) (value_below (suc index) others ks) in
    let p : 3 ^ suc (length others) ≡ 3 ^ length others * 3 = pow-suc 3 (length others) in
    omega (arith, r, p)

less_then : (x y x' y' : ℕ) (o : Ordering) → x < y → x' < y' → ordering_then (nat_cmp x y) o ≡ nat_cmp x' y'
less_then x y x' y' o lt lt' =
    let a : nat_cmp x y ≡ Less = grind (arith, nat_tests, lt) in
    let b : nat_cmp x' y' ≡ Less = grind (arith, nat_tests, lt') in
    ap (λ c. ordering_then c o) a ∙ sym b

greater_then : (x y x' y' : ℕ) (o : Ordering) → y < x → y' < x' → ordering_then (nat_cmp x y) o ≡ nat_cmp x' y'
greater_then x y x' y' o lt lt' =
    let a : nat_cmp x y ≡ Greater = grind (arith, nat_tests, lt) in
    let b : nat_cmp x' y' ≡ Greater = grind (arith, nat_tests, lt') in
    ap (λ c. ordering_then c o) a ∙ sym b

same_then : (n u v : ℕ) → nat_cmp u v ≡ nat_cmp (n + u) (n + v)
same_then n u v = by (nat_cmp u v) refl
  where
    by : (o : Ordering) → nat_cmp u v ≡ o → o ≡ nat_cmp (n + u) (n + v)
    by Less e = grind (arith, nat_tests, e)
    by Equal e = grind (arith, nat_tests, e)
    by Greater e = grind (arith, nat_tests, e)

digits_order : (d e m u v : ℕ) → d ≤ 2 → e ≤ 2 → u < m → v < m → ordering_then (nat_cmp d e) (nat_cmp u v) ≡ nat_cmp (d * m + u) (e * m + v)
digits_order zero zero m u v p q lt lu = same_then (0 * m) u v
digits_order zero (suc zero) m u v p q lt lu = less_then 0 1 (0 * m + u) (1 * m + v) (nat_cmp u v) (omega arith) (omega (arith, lt, lu))
digits_order zero (suc (suc zero)) m u v p q lt lu = less_then 0 2 (0 * m + u) (2 * m + v) (nat_cmp u v) (omega arith) (omega (arith, lt, lu))
digits_order (suc zero) zero m u v p q lt lu = greater_then 1 0 (1 * m + u) (0 * m + v) (nat_cmp u v) (omega arith) (omega (arith, lt, lu))
digits_order (suc zero) (suc zero) m u v p q lt lu = same_then (1 * m) u v
digits_order (suc zero) (suc (suc zero)) m u v p q lt lu = less_then 1 2 (1 * m + u) (2 * m + v) (nat_cmp u v) (omega arith) (omega (arith, lt, lu))
digits_order (suc (suc zero)) zero m u v p q lt lu = greater_then 2 0 (2 * m + u) (0 * m + v) (nat_cmp u v) (omega arith) (omega (arith, lt, lu))
digits_order (suc (suc zero)) (suc zero) m u v p q lt lu = greater_then 2 1 (2 * m + u) (1 * m + v) (nat_cmp u v) (omega arith) (omega (arith, lt, lu))
digits_order (suc (suc zero)) (suc (suc zero)) m u v p q lt lu = same_then (2 * m) u v
digits_order (suc (suc (suc d))) e m u v p q lt lu = absurd (omega (arith, p))
digits_order zero (suc (suc (suc e))) m u v p q lt lu = absurd (omega (arith, q))
digits_order (suc zero) (suc (suc (suc e))) m u v p q lt lu = absurd (omega (arith, q))
digits_order (suc (suc zero)) (suc (suc (suc e))) m u v p q lt lu = absurd (omega (arith, q))

value_order : (index : ℕ) (args ks ls : List ArgKind) → order index args ks ls ≡ nat_cmp (value index args ks) (value index args ls)
value_order index [] ks ls = refl
value_order index (a ∷ others) ks ls =
    let k = slice_index_or ks index Null in
    let l = slice_index_or ls index Null in
    (λ i. ordering_then (digit_order a k l i) (value_order (suc index) others ks ls i))
    ∙ digits_order (digit a k) (digit a l) (3 ^ length others) (value (suc index) others ks) (value (suc index) others ls) (digit_small a k) (digit_small a l)
    (value_below (suc index) others ks) (value_below (suc index) others ls)

-- ---- one candidate more before the first list

-- a and x are the first of the lists, b is the one more; their values decide
module _ (a b x : ℕ) where
  less_equal : nat_cmp a x ≡ Less → nat_cmp b x ≡ Equal → (nat_cmp a b ≡ Less) × (nat_cmp b a ≡ Greater)
  less_equal e f = (grind (arith, nat_tests, e, f), grind (arith, nat_tests, e, f))

  less_greater : nat_cmp a x ≡ Less → nat_cmp b x ≡ Greater → nat_cmp b a ≡ Greater
  less_greater e f = grind (arith, nat_tests, e, f)

  equal_less : nat_cmp a x ≡ Equal → nat_cmp b x ≡ Less → nat_cmp a b ≡ Greater
  equal_less e f = grind (arith, nat_tests, e, f)

  equal_equal : nat_cmp a x ≡ Equal → nat_cmp b x ≡ Equal → nat_cmp a b ≡ Equal
  equal_equal e f = grind (arith, nat_tests, e, f)

  greater_less : nat_cmp a x ≡ Greater → nat_cmp b x ≡ Less → nat_cmp a b ≡ Greater
  greater_less e f = grind (arith, nat_tests, e, f)

  greater_equal : nat_cmp a x ≡ Greater → nat_cmp b x ≡ Equal → nat_cmp a b ≡ Greater
  greater_equal e f = grind (arith, nat_tests, e, f)

turned_round : (a b : ℕ) (c : Candidate) (cs : List Candidate) → joined (nat_cmp b a) c cs ≡ stays (nat_cmp a b) (c ∷ []) cs
turned_round a b c cs = by (nat_cmp a b) refl
  where
    by : (o : Ordering) → nat_cmp a b ≡ o → joined (nat_cmp b a) c cs ≡ stays o (c ∷ []) cs
    by Less e = let f : nat_cmp b a ≡ Greater = grind (arith, nat_tests, e) in ap (λ o. joined o c cs) f
    by Equal e = let f : nat_cmp b a ≡ Equal = grind (arith, nat_tests, e) in ap (λ o. joined o c cs) f
    by Greater e = let f : nat_cmp b a ≡ Less = grind (arith, nat_tests, e) in ap (λ o. joined o c cs) f

-- the same with the order as a comparison of values
module _ (v : Candidate → ℕ) where
  abbrev put : Candidate → List Candidate → List Candidate
  put c [] = c ∷ []
  put c (b ∷ more) = joined (nat_cmp (v c) (v b)) c (b ∷ more)

  abbrev join : List Candidate → List Candidate → List Candidate
  join [] cs = cs
  join (b ∷ bs) [] = b ∷ bs
  join (b ∷ bs) (c ∷ cs) = stays (nat_cmp (v c) (v b)) (b ∷ bs) (c ∷ cs)

  alone : (o : Ordering) (b x : Candidate) (xs : List Candidate) → joined o b (x ∷ xs) ≡ join (joined o b (x ∷ xs)) []
  alone Less b x xs = refl
  alone Equal b x xs = refl
  alone Greater b x xs = refl

  put_join : (b : Candidate) (bs cs : List Candidate) → put b (join bs cs) ≡ join (put b bs) cs
  put_join b [] [] = refl
  put_join b [] (a ∷ more) = turned_round (v a) (v b) b (a ∷ more)
  put_join b (x ∷ xs) [] = alone (nat_cmp (v b) (v x)) b x xs
  put_join b (x ∷ xs) (a ∷ more) = by (nat_cmp (v a) (v x)) (nat_cmp (v b) (v x)) refl refl
    where
      by : (o n : Ordering) → nat_cmp (v a) (v x) ≡ o → nat_cmp (v b) (v x) ≡ n
          → put b (stays o (x ∷ xs) (a ∷ more)) ≡ join (joined n b (x ∷ xs)) (a ∷ more)
      by Less Less e f = turned_round (v a) (v b) b (a ∷ more)
      by Less Equal e f =
          let s = less_equal (v a) (v b) (v x) e f in
          ap (λ o. joined o b (a ∷ more)) s.1 ∙ sym (ap (λ o. stays o (b ∷ x ∷ xs) (a ∷ more)) s.0)
      by Less Greater e f = ap (λ o. joined o b (a ∷ more)) (less_greater (v a) (v b) (v x) e f) ∙ sym (ap (λ o. stays o (x ∷ xs) (a ∷ more)) e)
      by Equal Less e f = ap (λ o. joined o b (x ∷ xs ++ (a ∷ more))) f ∙ sym (ap (λ o. stays o (b ∷ []) (a ∷ more)) (equal_less (v a) (v b) (v x) e f))
      by Equal Equal e f = ap (λ o. joined o b (x ∷ xs ++ (a ∷ more))) f ∙ sym (ap (λ o. stays o (b ∷ x ∷ xs) (a ∷ more)) (equal_equal (v a) (v b) (v x) e f))
      by Equal Greater e f = ap (λ o. joined o b (x ∷ xs ++ (a ∷ more))) f ∙ sym (ap (λ o. stays o (x ∷ xs) (a ∷ more)) e)
      by Greater Less e f = ap (λ o. joined o b (x ∷ xs)) f ∙ sym (ap (λ o. stays o (b ∷ []) (a ∷ more)) (greater_less (v a) (v b) (v x) e f))
      by Greater Equal e f = ap (λ o. joined o b (x ∷ xs)) f ∙ sym (ap (λ o. stays o (b ∷ x ∷ xs) (a ∷ more)) (greater_equal (v a) (v b) (v x) e f))
      by Greater Greater e f = ap (λ o. joined o b (x ∷ xs)) f ∙ sym (ap (λ o. stays o (x ∷ xs) (a ∷ more)) e)

-- ---- what stays of both

module _ (args : List ArgKind) where
  abbrev at : Candidate → ℕ
  at c = value 0 args c.1

  added_put : (c : Candidate) (cs : List Candidate) → added 0 args c cs ≡ put at c cs
  added_put c [] = refl
  added_put c (b ∷ more) = ap (λ o. joined o c (b ∷ more)) (value_order 0 args c.1 b.1)

  merged_join : (bs cs : List Candidate) → merged 0 args bs cs ≡ join at bs cs
  merged_join [] cs = refl
  merged_join (b ∷ bs) [] = refl
  merged_join (b ∷ bs) (c ∷ cs) = ap (λ o. stays o (b ∷ bs) (c ∷ cs)) (value_order 0 args c.1 b.1)

  pub narrowed_both : (bs cs : List Candidate) → narrowed 0 args (bs ++ cs) ≡ merged 0 args (narrowed 0 args bs) (narrowed 0 args cs)
  narrowed_both [] cs = sym (ap (λ l. merged 0 args l (narrowed 0 args cs)) (narrowed_none 0 args))
  narrowed_both (b ∷ bs) cs =
      let ns = narrowed 0 args bs in
      let ms = narrowed 0 args cs in
      narrowed_more 0 args b (bs ++ cs)
      ∙ added_put b (narrowed 0 args (bs ++ cs))
      ∙ ap (put at b) (narrowed_both bs cs ∙ merged_join ns ms)
      ∙ put_join at b ns ms
      ∙ ap (λ l. join at l ms) (sym (added_put b ns) ∙ sym (narrowed_more 0 args b bs))
      ∙ sym (merged_join (narrowed 0 args (b ∷ bs)) ms)
