-- How large powers of ten are, and what is multiplied by them.
use Rattle.std.proofs.Common.{◌≡◌, ℕ, suc, ◌+◌, ◌-◌, ◌*◌, ◌^◌, ◌<◌, ◌≤◌, sym, ◌∙◌, ap, pow-add, arith}
use Rattle.std.proofs.Math.Nat.{pow-le-pow_right}
use Rattle.std.proofs.lemmas.Nat.{mul-le}

pub power_small : (n : ℕ) → n ≤ 36 → 10 ^ n ≤ 10 ^ 36
power_small n h = pow-le-pow_right (omega arith) h

pub power_pos : (n : ℕ) → 0 < 10 ^ n
power_pos n =
    let b : 0 < 10 = omega arith in
    let z : 0 ≤ n = omega arith in
    let h : 10 ^ 0 ≤ 10 ^ n = pow-le-pow_right b z in
    h

power_18 : (n : ℕ) → n ≤ 18 → 10 ^ n ≤ 10 ^ 18
power_18 n h = pow-le-pow_right (omega arith) h

pub raised_small : (m n : ℕ) → m < 10 ^ 18 → n ≤ 18 → m * 10 ^ n < 10 ^ 36
raised_small m n h k =
    let e : m * 10 ^ n ≤ 999999999999999999 * 10 ^ 18 = mul-le m (10 ^ n) 999999999999999999 (10 ^ 18) (omega (arith, h)) (power_18 n k) in
    omega (arith, e)

-- 10 ^ 36 by two factors
split_36 : (n : ℕ) → n ≤ 36 → 10 ^ 36 ≡ 10 ^ (36 - n) * 10 ^ n
split_36 n h =
    let e : 36 - n + n ≡ 36 = omega arith in
    ap (λ i. 10 ^ i) (sym e) ∙ pow-add 10 (36 - n) n

pub dividend_small : (m n : ℕ) → n ≤ 36 → m < 10 ^ (36 - n) → m * 10 ^ n < 10 ^ 36
dividend_small m n k h =
    let p : 10 ^ 36 ≡ 10 ^ (36 - n) * 10 ^ n = split_36 n k in
    let q : suc m * 10 ^ n ≤ 10 ^ (36 - n) * 10 ^ n = mul-le (suc m) (10 ^ n) (10 ^ (36 - n)) (10 ^ n) (omega (arith, h)) (omega arith) in
    omega (arith, p, q, power_pos n)

pub dividend_large : (m n : ℕ) → n ≤ 36 → 10 ^ (36 - n) ≤ m → 10 ^ 36 ≤ m * 10 ^ n
dividend_large m n k h =
    let p : 10 ^ 36 ≡ 10 ^ (36 - n) * 10 ^ n = split_36 n k in
    let q : 10 ^ (36 - n) * 10 ^ n ≤ m * 10 ^ n = mul-le (10 ^ (36 - n)) (10 ^ n) m (10 ^ n) h (omega arith) in
    omega (arith, p, q)
