-- The padded comparison: one step of it, and that it is a total order.
use Rattle.std.proofs.Common.{◌≡◌, ℕ, zero, suc, ◌+◌, ◌-◌, ◌<◌, ◌≤◌, max, List, [], ◌∷◌, ◌++◌, length, get_or, drop, refl, ap, sym, ◌∙◌, arith}
use Rattle.std.proofs.Math.ListN.{replicate}
use Rattle.std.specs.declared.cmp.Ordering.{Ordering}
use Rattle.std.specs.declared.cmp.Ordering.TheVariants.{Less, Equal, Greater}
use Rattle.std.specs.Ordering.{nat_cmp, ordering_then, ordering_reverse, is_eq}
use Rattle.std.specs.Cmp.{tied_itself}
use Rattle.std.specs.Cmp.Lexicographic.{slice_cmp, nat_list_cmp_total, texts_ties, bytes_decides}
use Rattle.psm_text.specs.Order.{padded, padded_order, SamePadded}

-- the order of the two at the width n
abbrev pub order_at : ℕ → List ℕ → List ℕ → Ordering
order_at n a b = slice_cmp nat_cmp (padded n a) (padded n b)

padded_head : (n : ℕ) (t : List ℕ) → padded (suc n) t ≡ get_or t 0 32 ∷ padded n (drop 1 t)
padded_head n [] =
    let e : suc n - 0 ≡ suc n = omega arith in
    let f : n - 0 ≡ n = omega arith in
    ap (λ k. replicate k 32) e ∙ ap (λ k. 32 ∷ replicate k 32) (sym f)
padded_head n (c ∷ t) =
    let e : suc n - suc (length t) ≡ n - length t = omega arith in
    ap (λ k. c ∷ (t ++ replicate k 32)) e

order_at_head : (n : ℕ) (a b : List ℕ) → order_at (suc n) a b ≡ ordering_then (nat_cmp (get_or a 0 32) (get_or b 0 32)) (order_at n (drop 1 a) (drop 1 b))
order_at_head n a b = ap (λ p. slice_cmp nat_cmp p (padded (suc n) b)) (padded_head n a) ∙ ap (λ p. slice_cmp nat_cmp (get_or a 0 32 ∷ padded n (drop 1 a)) p) (padded_head n b)

longer : (a b : List ℕ) → 0 < length a + length b → max (length a) (length b) ≡ suc (max (length (drop 1 a)) (length (drop 1 b)))
longer [] [] h = absurd (omega (arith, h))
longer [] (d ∷ b) h = omega arith
longer (c ∷ a) [] h = omega arith
longer (c ∷ a) (d ∷ b) h = omega arith

-- the first characters decide, and else what follows them
pub order_step : (a b : List ℕ) → 0 < length a + length b
    → padded_order a b ≡ ordering_then (nat_cmp (get_or a 0 32) (get_or b 0 32)) (padded_order (drop 1 a) (drop 1 b))
order_step a b h = ap (λ n. order_at n a b) (longer a b h) ∙ order_at_head (max (length (drop 1 a)) (length (drop 1 b))) a b

pub order_end : (a b : List ℕ) → length a ≡ 0 → length b ≡ 0 → padded_order a b ≡ Equal
order_end [] [] g h = refl
order_end [] (d ∷ b) g h = absurd (omega (arith, h))
order_end (c ∷ a) b g h = absurd (omega (arith, g))

-- the order is the same at each width that both have room in
pub order_at_is : (n : ℕ) (a b : List ℕ) → length a ≤ n → length b ≤ n → order_at n a b ≡ padded_order a b
order_at_is zero [] [] g h = refl
order_at_is zero [] (d ∷ b) g h = absurd (omega (arith, h))
order_at_is zero (c ∷ a) b g h = absurd (omega (arith, g))
order_at_is (suc n) [] [] g h = order_at_head n [] [] ∙ order_at_is n [] [] (omega arith) (omega arith)
order_at_is (suc n) [] (d ∷ b) g h = order_at_head n [] (d ∷ b) ∙ ap (λ o. ordering_then (nat_cmp 32 d) o) (order_at_is n [] b (omega arith) (omega (arith, h))) ∙ sym (order_step [] (d ∷ b) (omega arith))
order_at_is (suc n) (c ∷ a) [] g h = order_at_head n (c ∷ a) [] ∙ ap (λ o. ordering_then (nat_cmp c 32) o) (order_at_is n a [] (omega (arith, g)) (omega arith)) ∙ sym (order_step (c ∷ a) [] (omega arith))
order_at_is (suc n) (c ∷ a) (d ∷ b) g h = order_at_head n (c ∷ a) (d ∷ b) ∙ ap (λ o. ordering_then (nat_cmp c d) o) (order_at_is n a b (omega (arith, g)) (omega (arith, h))) ∙ sym (order_step (c ∷ a) (d ∷ b) (omega arith))

pub order_itself : (a : List ℕ) → padded_order a a ≡ Equal
order_itself a = tied_itself nat_list_cmp_total (padded (max (length a) (length a)) a)

pub order_swapped : (a b : List ℕ) → padded_order a b ≡ ordering_reverse (padded_order b a)
order_swapped a b =
    let n = max (length a) (length b) in
    nat_list_cmp_total.antisymm (padded n a) (padded n b) ∙ ap ordering_reverse (order_at_is (max (length a) (length b)) b a (omega arith) (omega arith))

pub order_chained : (a b c : List ℕ) → padded_order a b ≡ Less → padded_order b c ≡ Less → padded_order a c ≡ Less
order_chained a b c g h =
    let n = max (length a) (max (length b) (length c)) in
    let la : length a ≤ max (length a) (max (length b) (length c)) = omega arith in
    let lb : length b ≤ max (length a) (max (length b) (length c)) = omega arith in
    let lc : length c ≤ max (length a) (max (length b) (length c)) = omega arith in
    sym (order_at_is n a c la lc) ∙ nat_list_cmp_total.trans (padded n a) (padded n b) (padded n c) (order_at_is n a b la lb ∙ g) (order_at_is n b c lb lc ∙ h)

pub order_exchanged : (a b c : List ℕ) → padded_order a b ≡ Equal → padded_order a c ≡ padded_order b c
order_exchanged a b c g =
    let n = max (length a) (max (length b) (length c)) in
    let la : length a ≤ max (length a) (max (length b) (length c)) = omega arith in
    let lb : length b ≤ max (length a) (max (length b) (length c)) = omega arith in
    let lc : length c ≤ max (length a) (max (length b) (length c)) = omega arith in
    sym (order_at_is n a c la lc) ∙ nat_list_cmp_total.congr (padded n a) (padded n b) (padded n c) (order_at_is n a b la lb ∙ g) ∙ order_at_is n b c lb lc

pub same_from_equal : (a b : List ℕ) → padded_order a b ≡ Equal → SamePadded a b
same_from_equal a b e =
    let n = max (length a) (length b) in
    (bytes_decides (padded n a) (padded n b)).0 (texts_ties (padded n a) (padded n b) ∙ ap is_eq e)

pub equal_from_same : (a b : List ℕ) → SamePadded a b → padded_order a b ≡ Equal
equal_from_same a b e =
    let n = max (length a) (length b) in
    ap (λ p. slice_cmp nat_cmp p (padded n b)) e ∙ tied_itself nat_list_cmp_total (padded n b)

-- one turn of the comparison's loop, where the first characters are equal
pub order_goes : (s o a b a' b' : List ℕ) (x y : ℕ) → padded_order s o ≡ padded_order a b → 0 < max (length a) (length b)
    → x ≡ get_or a 0 32 → y ≡ get_or b 0 32 → Equal ≡ nat_cmp x y → a' ≡ drop 1 a → b' ≡ drop 1 b → padded_order s o ≡ padded_order a' b'
order_goes s o a b a' b' x y h k p q e f g =
    let t : nat_cmp (get_or a 0 32) (get_or b 0 32) ≡ Equal = sym (e ∙ ap (λ z. nat_cmp z y) p ∙ ap (λ z. nat_cmp (get_or a 0 32) z) q) in
    h ∙ order_step a b (omega (arith, k)) ∙ ap (λ r. ordering_then r (padded_order (drop 1 a) (drop 1 b))) t
    ∙ ap (λ r. padded_order r (drop 1 b)) (sym f) ∙ ap (λ r. padded_order a' r) (sym g)

unequal_decides : (r q : Ordering) → (r ≡ Equal → ⊥) → r ≡ ordering_then r q
unequal_decides Less q n = refl
unequal_decides Equal q n = absurd (n refl)
unequal_decides Greater q n = refl

-- its answer, where they are not
pub order_decided : (s o a b : List ℕ) (x y : ℕ) (r : Ordering) → padded_order s o ≡ padded_order a b → 0 < max (length a) (length b)
    → x ≡ get_or a 0 32 → y ≡ get_or b 0 32 → r ≡ nat_cmp x y → (r ≡ Equal → ⊥) → r ≡ padded_order s o
order_decided s o a b x y r h k p q e n =
    let t : r ≡ nat_cmp (get_or a 0 32) (get_or b 0 32) = e ∙ ap (λ z. nat_cmp z y) p ∙ ap (λ z. nat_cmp (get_or a 0 32) z) q in
    unequal_decides r (padded_order (drop 1 a) (drop 1 b)) n ∙ ap (λ z. ordering_then z (padded_order (drop 1 a) (drop 1 b))) t
    ∙ sym (order_step a b (omega (arith, k))) ∙ sym h
