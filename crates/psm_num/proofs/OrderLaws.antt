-- The order of exact numbers is that of any common multiple, so it has the laws of the order of whole numbers.
use Rattle.std.proofs.Common.{◌≡◌, ℕ, zero, suc, ◌-◌, ◌*◌, ◌^◌, ◌<◌, ℤ, pos, negsuc, ◌*ℤ◌, nat_lt, int_lt, refl, sym, ap, ◌∙◌, arith, lt-ltb, ltb-true}
use Rattle.std.proofs.Math.IntN.{neg_ℤ}
use Rattle.std.proofs.Math.Nat.{mul_assoc, mul_comm}
use Rattle.std.specs.Cmp.{IsTotalOrder, both_ways, int_cmp_total, tied_itself}
use Rattle.std.specs.Ordering.{int_cmp, ordering_reverse}
use Rattle.std.specs.declared.cmp.Ordering.{Ordering}
use Rattle.std.specs.declared.cmp.Ordering.TheVariants.{Less, Equal, Greater}
use Rattle.psm_num.specs.Num.{Num}
use Rattle.psm_num.specs.Order.{order}
use Rattle.psm_num.proofs.Powers.{power_pos}

neg-pos : (n : ℕ) → 0 < n → neg_ℤ (pos n) ≡ negsuc (n - 1)
neg-pos zero h = absurd (omega arith)
neg-pos (suc n) h = let e : n ≡ suc n - 1 = omega arith in ap negsuc e

same_lt : (m n p q : ℕ) → (m < n → p < q) → (p < q → m < n) → nat_lt m n ≡ nat_lt p q
same_lt m n p q f g = both_ways (nat_lt m n) (nat_lt p q) (λ e. lt-ltb p q (f (ltb-true m n e))) (λ e. lt-ltb m n (g (ltb-true p q e)))

lt-times : (a b k : ℕ) → 0 < k → a < b → a * k < b * k
lt-times a b k h l = grind arith

lt-of_times : (a b k : ℕ) → 0 < k → a * k < b * k → a < b
lt-of_times a b k h l = grind arith

product_pos : (a k : ℕ) → 0 < k → 0 < suc a * k
product_pos a k h = grind arith

int_lt-times : (x y : ℤ) (k : ℕ) → 0 < k → int_lt (x *ℤ pos k) (y *ℤ pos k) ≡ int_lt x y
int_lt-times (pos a) (pos b) k h = same_lt (a * k) (b * k) a b (lt-of_times a b k h) (lt-times a b k h)
int_lt-times (pos a) (negsuc b) k h = rw (neg-pos (suc b * k) (product_pos b k h))
int_lt-times (negsuc a) (pos b) k h = rw (neg-pos (suc a * k) (product_pos a k h))
int_lt-times (negsuc a) (negsuc b) k h =
    let p : 0 < suc a * k = product_pos a k h in
    let q : 0 < suc b * k = product_pos b k h in
    rw (neg-pos (suc a * k) p, neg-pos (suc b * k) q)
    (same_lt (suc b * k - 1) (suc a * k - 1) b a
    (λ l. let e : suc b * k < suc a * k = omega arith in let f : suc b < suc a = lt-of_times (suc b) (suc a) k h e in omega (arith, f))
    (λ l. let e : suc b * k < suc a * k = lt-times (suc b) (suc a) k h (omega arith) in omega (arith, e)))

pub int_cmp-times : (x y : ℤ) (k : ℕ) → 0 < k → int_cmp (x *ℤ pos k) (y *ℤ pos k) ≡ int_cmp x y
int_cmp-times x y k h = rw (int_lt-times x y k h, int_lt-times y x k h)

neg-times : (p n : ℕ) → neg_ℤ (pos p) *ℤ pos n ≡ neg_ℤ (pos (p * n))
neg-times zero n = let e : 0 * n ≡ 0 = omega arith in rw e
neg-times (suc p) n = refl

times-times : (x : ℤ) (m n : ℕ) → x *ℤ pos m *ℤ pos n ≡ x *ℤ pos (m * n)
times-times (pos a) m n = ap pos (mul_assoc a m n)
times-times (negsuc a) m n = neg-times (suc a * m) n ∙ ap (λ i. neg_ℤ (pos i)) (mul_assoc (suc a) m n)

-- a third number's power on both sides
common : (x y : ℤ) (m n k : ℕ) → 0 < k → int_cmp (x *ℤ pos m) (y *ℤ pos n) ≡ int_cmp (x *ℤ pos (m * k)) (y *ℤ pos (n * k))
common x y m n k h = sym (int_cmp-times (x *ℤ pos m) (y *ℤ pos n) k h) ∙ rw (times-times x m k, times-times y n k)

-- three coefficients x, y, z at the scales whose powers are p, q, r are ordered as x * q * r, y * p * r, z * p * q are
module _ (x y z : ℤ) (p q r : ℕ) (above : 0 < p) (beyond : 0 < q) (over : 0 < r) where
  first_second : int_cmp (x *ℤ pos q) (y *ℤ pos p) ≡ int_cmp (x *ℤ pos (q * r)) (y *ℤ pos (p * r))
  first_second = common x y q p r over

  second_third : int_cmp (y *ℤ pos r) (z *ℤ pos q) ≡ int_cmp (y *ℤ pos (p * r)) (z *ℤ pos (p * q))
  second_third =
      common y z r q p above
      ∙ ap (λ i. int_cmp (y *ℤ pos i) (z *ℤ pos (q * p))) (mul_comm r p)
      ∙ ap (λ i. int_cmp (y *ℤ pos (p * r)) (z *ℤ pos i)) (mul_comm q p)

  first_third : int_cmp (x *ℤ pos r) (z *ℤ pos p) ≡ int_cmp (x *ℤ pos (q * r)) (z *ℤ pos (p * q))
  first_third =
      common x z r p q beyond
      ∙ ap (λ i. int_cmp (x *ℤ pos i) (z *ℤ pos (p * q))) (mul_comm r q)

  pub chained : int_cmp (x *ℤ pos q) (y *ℤ pos p) ≡ Less → int_cmp (y *ℤ pos r) (z *ℤ pos q) ≡ Less → int_cmp (x *ℤ pos r) (z *ℤ pos p) ≡ Less
  chained f g = first_third ∙ int_cmp_total.trans (x *ℤ pos (q * r)) (y *ℤ pos (p * r)) (z *ℤ pos (p * q)) (sym first_second ∙ f) (sym second_third ∙ g)

  pub tied : int_cmp (x *ℤ pos q) (y *ℤ pos p) ≡ Equal → int_cmp (x *ℤ pos r) (z *ℤ pos p) ≡ int_cmp (y *ℤ pos r) (z *ℤ pos q)
  tied f = first_third ∙ int_cmp_total.congr (x *ℤ pos (q * r)) (y *ℤ pos (p * r)) (z *ℤ pos (p * q)) (sym first_second ∙ f) ∙ sym second_third

pub order_total : IsTotalOrder order
order_total = record {
  antisymm = λ a b. int_cmp_total.antisymm (a.coef *ℤ pos (10 ^ b.scale)) (b.coef *ℤ pos (10 ^ a.scale));
  trans = λ a b c. chained a.coef b.coef c.coef (10 ^ a.scale) (10 ^ b.scale) (10 ^ c.scale) (power_pos a.scale) (power_pos b.scale) (power_pos c.scale);
  congr = λ a b c. tied a.coef b.coef c.coef (10 ^ a.scale) (10 ^ b.scale) (10 ^ c.scale) (power_pos a.scale) (power_pos b.scale) (power_pos c.scale);
}

pub order-same : (a : Num) → order a a ≡ Equal
order-same a = tied_itself order_total a

pub order-chained : (a b c : Num) (r : Ordering) → order a b ≡ r → order b c ≡ r → order a c ≡ r
order-chained a b c Less f g = order_total.trans a b c f g
order-chained a b c Equal f g = order_total.congr a b c f ∙ g
order-chained a b c Greater f g =
    order_total.antisymm a c
    ∙ ap ordering_reverse (order_total.trans c b a (order_total.antisymm c b ∙ ap ordering_reverse g) (order_total.antisymm b a ∙ ap ordering_reverse f))
