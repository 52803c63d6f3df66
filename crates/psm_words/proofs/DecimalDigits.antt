-- The digits before and after the point, from the last to the first.
use Rattle.std.proofs.Common.{◌≡◌, ℕ, zero, suc, ◌+◌, ◌-◌, ◌*◌, ◌/◌, ◌%◌, ◌^◌, ◌<◌, true, nat_lt, List, [], ◌∷◌, ◌++◌, length, replicate, refl, sym, ap, ◌∙◌, append_assoc, pow-add, arith, inl, inr}
use Rattle.std.specs.Prelude.{decimal, if◌then◌else◌}
use Rattle.std.proofs.lemmas.Bool.{cases_lt, lt-ltb}
use Rattle.std.proofs.lemmas.Fmt.{decimal_digit, decimal_step}
use Rattle.std.proofs.lemmas.List.{length-append, replicate_more}
use Rattle.std.proofs.lemmas.Nat.{mod_below}
use Rattle.psm_num.specs.Printed.{filled, decimals_of}
use Rattle.psm_num.proofs.Powers.{power_pos}

-- the digits of n without the last k
abbrev pub whole : ℕ → ℕ → ℕ
whole zero n = n
whole (suc k) n = whole k (n / 10)

-- the last k digits of n
abbrev pub tail : ℕ → ℕ → List ℕ
tail zero n = []
tail (suc k) n = tail k (n / 10) ++ (48 + n % 10) ∷ []

-- the point and the digits after it
abbrev pub tail_text : ℕ → ℕ → List ℕ
tail_text zero n = []
tail_text (suc k) n = 46 ∷ tail (suc k) n

-- the number n / 10 ^ k
abbrev pub unsigned_text : ℕ → ℕ → List ℕ
unsigned_text n k = decimal (whole k n) ++ tail_text k n

-- ---- quotients and remainders

power_next : (k : ℕ) → 10 ^ suc k ≡ 10 * 10 ^ k
power_next k = let b : suc k ≡ 1 + k = omega arith in ap (λ i. 10 ^ i) b ∙ pow-add 10 1 k

times_ten : (k q : ℕ) → 10 ^ suc k * q ≡ 10 * (10 ^ k * q)
times_ten k q = ap (λ p. p * q) (power_next k) ∙ grind arith

tail-same : (k q x : ℕ) → tail k (10 ^ k * q + x) ≡ tail k x
tail-same zero q x = refl
tail-same (suc k) q x =
    let p : ℕ = 10 ^ k * q in
    let e : 10 ^ suc k * q + x ≡ 10 * p + x = ap (λ m. m + x) (times_ten k q) in
    let d : (10 * p + x) / 10 ≡ p + x / 10 = omega arith in
    let r : (10 * p + x) % 10 ≡ x % 10 = omega arith in
    ap (tail (suc k)) e ∙ ap (λ m. tail k m ++ (48 + (10 * p + x) % 10) ∷ []) d ∙ ap (λ m. tail k (p + x / 10) ++ (48 + m) ∷ []) r
    ∙ ap (λ u. u ++ (48 + x % 10) ∷ []) (tail-same k q (x / 10))

whole-same : (k q x : ℕ) → x < 10 ^ k → whole k (10 ^ k * q + x) ≡ q
whole-same zero q x h = omega (arith, h)
whole-same (suc k) q x h =
    let p : ℕ = 10 ^ k * q in
    let e : 10 ^ suc k * q + x ≡ 10 * p + x = ap (λ m. m + x) (times_ten k q) in
    let d : (10 * p + x) / 10 ≡ p + x / 10 = omega arith in
    let n : 10 ^ suc k ≡ 10 * 10 ^ k = power_next k in
    let b : x / 10 < 10 ^ k = omega (arith, h, n) in
    ap (whole (suc k)) e ∙ ap (whole k) d ∙ whole-same k q (x / 10) b

parts_is : (k n : ℕ) → 10 ^ k * (n / 10 ^ k) + n % 10 ^ k ≡ n
parts_is k n = let p : 0 < 10 ^ k = power_pos k in omega (arith, p)

whole-is : (k n : ℕ) → whole k n ≡ n / 10 ^ k
whole-is k n = ap (whole k) (sym (parts_is k n)) ∙ whole-same k (n / 10 ^ k) (n % 10 ^ k) (mod_below n (10 ^ k) (power_pos k))

tail-is : (k n : ℕ) → tail k n ≡ tail k (n % 10 ^ k)
tail-is k n = ap (tail k) (sym (parts_is k n)) ∙ tail-same k (n / 10 ^ k) (n % 10 ^ k)

-- ---- filled numbers

filled_one : (k m : ℕ) → m < 10 → filled (suc k) m ≡ replicate k 48 ++ (48 + m) ∷ []
filled_one k m h =
    let d : decimal m ≡ (48 + m) ∷ [] = decimal_digit m h in
    let e : suc k - 1 ≡ k = omega arith in
    ap (λ (u : List ℕ). replicate (suc k - length u) 48 ++ u) d ∙ ap (λ j. replicate j 48 ++ (48 + m) ∷ []) e

filled-tail : (k m : ℕ) → m < 10 ^ suc k → m < 2 ^ 64 → filled (suc k) m ≡ tail (suc k) m
filled-tail zero m h small =
    let b : m < 10 = omega (arith, h) in
    let e : m ≡ m % 10 = omega arith in
    filled_one zero m b ∙ ap (λ j. (48 + j) ∷ []) e
filled-tail (suc k) m h small =
    elim (cases_lt m 10) [
      | inl l ↦
          let last : m ≡ m % 10 = omega arith in
          let front : 0 ≡ m / 10 = omega arith in
          let low : 0 < 10 ^ suc k = power_pos (suc k) in
          let zeros : replicate (suc k) 48 ≡ tail (suc k) 0 =
          (let j : suc k ≡ k + 1 = omega arith in ap (λ i. replicate i 48) j) ∙ sym (replicate_more k 48) ∙ sym (filled_one k 0 (omega arith)) ∙ filled-tail k 0 low (omega arith) in
          filled_one (suc k) m l ∙ ap (λ (u : List ℕ). u ++ (48 + m) ∷ []) zeros ∙ ap (λ j. tail (suc k) j ++ (48 + m) ∷ []) front ∙ ap (λ j. tail (suc k) (m / 10) ++ (48 + j) ∷ []) last
      | inr l ↦
          let n : 10 ^ suc (suc k) ≡ 10 * 10 ^ suc k = power_next (suc k) in
          let b : m / 10 < 10 ^ suc k = omega (arith, h, n) in
          let d : decimal m ≡ decimal (m / 10) ++ (48 + m % 10) ∷ [] = decimal_step m l small in
          let len : length (decimal (m / 10) ++ (48 + m % 10) ∷ []) ≡ length (decimal (m / 10)) + 1 = length-append (decimal (m / 10)) ((48 + m % 10) ∷ []) in
          let fill : suc (suc k) - length (decimal (m / 10) ++ (48 + m % 10) ∷ []) ≡ suc k - length (decimal (m / 10)) = omega (arith, len) in
          ap (λ (u : List ℕ). replicate (suc (suc k) - length u) 48 ++ u) d
          ∙ ap (λ j. replicate j 48 ++ (decimal (m / 10) ++ (48 + m % 10) ∷ [])) fill
          ∙ sym (append_assoc (replicate (suc k - length (decimal (m / 10))) 48) (decimal (m / 10)) ((48 + m % 10) ∷ []))
          ∙ ap (λ (u : List ℕ). u ++ (48 + m % 10) ∷ []) (filled-tail k (m / 10) b (omega arith))
    ]

-- the digits of a number, in the words of its printed form
pub printed_unsigned : (n k : ℕ) → n < 10 ^ 18 → decimal (n / 10 ^ k) ++ decimals_of k (n % 10 ^ k) ≡ unsigned_text n k
printed_unsigned n zero h = ap (λ m. decimal m ++ []) (sym (whole-is zero n))
printed_unsigned n (suc k) h =
    let p : 0 < 10 ^ suc k = power_pos (suc k) in
    let below : n % 10 ^ suc k < 10 ^ suc k = mod_below n (10 ^ suc k) p in
    let parts : 10 ^ suc k * (n / 10 ^ suc k) + n % 10 ^ suc k ≡ n = parts_is (suc k) n in
    let some : nat_lt 0 (suc k) ≡ true = lt-ltb 0 (suc k) (omega arith) in
    ap (λ m. decimal m ++ decimals_of (suc k) (n % 10 ^ suc k)) (sym (whole-is (suc k) n))
    ∙ ap (λ b. decimal (whole (suc k) n) ++ (if b then 46 ∷ filled (suc k) (n % 10 ^ suc k) else [])) some
    ∙ ap (λ (u : List ℕ). decimal (whole (suc k) n) ++ (46 ∷ u)) (filled-tail k (n % 10 ^ suc k) below (omega (arith, parts, h)) ∙ sym (tail-is (suc k) n))

-- ---- a digit more

pub whole-more : (k n d : ℕ) → d < 10 → whole (suc k) (n * 10 + d) ≡ whole k n
whole-more k n d h = let e : (n * 10 + d) / 10 ≡ n = omega arith in ap (whole k) e

pub tail-more : (k n d : ℕ) → d < 10 → tail (suc k) (n * 10 + d) ≡ tail k n ++ (48 + d) ∷ []
tail-more k n d h =
    let e : (n * 10 + d) / 10 ≡ n = omega arith in
    let f : (n * 10 + d) % 10 ≡ d = omega arith in
    ap (λ m. tail k m ++ (48 + (n * 10 + d) % 10) ∷ []) e ∙ ap (λ m. tail k n ++ (48 + m) ∷ []) f
