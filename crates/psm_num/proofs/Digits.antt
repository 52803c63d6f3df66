-- Digits that are read from the left.
use Rattle.std.proofs.Common.{◌≡◌, ℕ, suc, ◌+◌, ◌-◌, ◌*◌, ◌^◌, ◌<◌, ◌≤◌, true, List, [], ◌∷◌, ◌++◌, length, drop, get_or, refl, sym, ap, ◌∙◌, pow-add, drop-cons, add-one, arith, rules}
use Rattle.std.proofs.Math.Nat.{pow-le-pow_right, mul_assoc, mul-le-mul_left}
use Rattle.std.proofs.lemmas.Nat.{mul-le}
use Rattle.std.specs.Char.{digit_value, is_ascii_digit}
use Rattle.std.specs.List.{list_all}
use Rattle.std.specs.Str.Parse.{digits_value, digits_value_after}
use Rattle.std.specs.Int.{IsInRange}
use Rattle.std.proofs.lemmas.Str.Parse.{IsNumeralModel, numerals_by_value, digit_at}

-- the tests of this crate recognize digits
pub own : IsNumeralModel (λ ds. list_all is_ascii_digit ds ≡ true) (digits_value 10)
own = numerals_by_value (λ ds. list_all is_ascii_digit ds ≡ true) (search rules)

pub digit_from : (ds : List ℕ) (i : ℕ) → list_all is_ascii_digit ds ≡ true → i < length ds → (48 ≤ get_or ds i 0) × (get_or ds i 0 ≤ 57)
digit_from ds i h below = let r : IsInRange 48 57 (get_or ds i 0) = digit_at ds i (own.to ds h) below in (omega (arith, r), omega (arith, r))

digit_value-digit : (c : ℕ) → 48 ≤ c → c ≤ 57 → digit_value c ≡ c - 48
digit_value-digit c low high = grind arith

pub value_step : (s i : ℕ) (ds : List ℕ) → list_all is_ascii_digit ds ≡ true → i < length ds
    → digits_value_after 10 s (drop i ds) ≡ digits_value_after 10 (s * 10 + (get_or ds i 0 - 48)) (drop (i + 1) ds)
value_step s i ds h below =
    let r : (48 ≤ get_or ds i 0) × (get_or ds i 0 ≤ 57) = digit_from ds i h below in
    let e : digit_value (get_or ds i 0) ≡ get_or ds i 0 - 48 = digit_value-digit (get_or ds i 0) r.0 r.1 in
    let d : drop i ds ≡ get_or ds i 0 ∷ drop (suc i) ds = drop-cons ds i 0 below in
    ap (digits_value_after 10 s) d
    ∙ ap (λ v. digits_value_after 10 (s * 10 + v) (drop (suc i) ds)) e
    ∙ ap (λ j. digits_value_after 10 (s * 10 + (get_or ds i 0 - 48)) (drop j ds)) (sym (add-one i))

size_next : (n s i d : ℕ) → s + 1 ≤ (n + 1) * 10 ^ i → d ≤ 9 → s * 10 + d + 1 ≤ (n + 1) * 10 ^ (i + 1)
size_next n s i d h small =
    let e : 10 ^ (i + 1) ≡ 10 ^ i * 10 = pow-add 10 i 1 in
    let f : (n + 1) * (10 ^ i * 10) ≡ (n + 1) * 10 ^ i * 10 = sym (mul_assoc (n + 1) (10 ^ i) 10) in
    let g : (n + 1) * 10 ^ (i + 1) ≡ (n + 1) * 10 ^ i * 10 = ap (λ j. (n + 1) * j) e ∙ f in
    omega (arith, g)

pub size_step : (n s i : ℕ) (ds : List ℕ) → list_all is_ascii_digit ds ≡ true → i < length ds → s + 1 ≤ (n + 1) * 10 ^ i
    → s * 10 + (get_or ds i 0 - 48) + 1 ≤ (n + 1) * 10 ^ (i + 1)
size_step n s i ds h below small =
    let r : (48 ≤ get_or ds i 0) × (get_or ds i 0 ≤ 57) = digit_from ds i h below in
    size_next n s i (get_or ds i 0 - 48) small (omega (arith, r.0, r.1))

pub size_fits : (n s i len : ℕ) → i < len → s + 1 ≤ (n + 1) * 10 ^ i → (n + 1) * 10 ^ len ≤ 10 ^ 18 → s * 10 + 10 ≤ 10 ^ 18
size_fits n s i len below small most =
    let b : 0 < 10 = omega arith in
    let k : i + 1 ≤ len = omega arith in
    let p : 10 ^ (i + 1) ≤ 10 ^ len = pow-le-pow_right b k in
    let q : (n + 1) * 10 ^ (i + 1) ≤ (n + 1) * 10 ^ len = mul-le-mul_left (n + 1) p in
    let t : s * 10 + 9 + 1 ≤ (n + 1) * 10 ^ (i + 1) = size_next n s i 9 small (omega arith) in
    omega (arith, t, q)

pub digits_value-append : (n : ℕ) (xs ys : List ℕ) → digits_value_after 10 n (xs ++ ys) ≡ digits_value_after 10 (digits_value_after 10 n xs) ys
digits_value-append n [] ys = refl
digits_value-append n (c ∷ xs) ys = digits_value-append (n * 10 + digit_value c) xs ys

-- what the first digits leave room for
pub both_fit : (n a b : ℕ) → n + 1 ≤ (0 + 1) * 10 ^ a → a + b ≤ 18 → (n + 1) * 10 ^ b ≤ 10 ^ 18
both_fit n a b h few =
    let t : 0 < 10 = omega arith in
    let p : (n + 1) * 10 ^ b ≤ 10 ^ a * 10 ^ b = mul-le (n + 1) (10 ^ b) (10 ^ a) (10 ^ b) (omega (arith, h)) (omega arith) in
    let q : 10 ^ (a + b) ≡ 10 ^ a * 10 ^ b = pow-add 10 a b in
    let r : 10 ^ (a + b) ≤ 10 ^ 18 = pow-le-pow_right t few in
    omega (arith, p, q, r)

pub one_fits : (a b : ℕ) → a + b ≤ 18 → (0 + 1) * 10 ^ a ≤ 10 ^ 18
one_fits a b few =
    let t : 0 < 10 = omega arith in
    let k : a ≤ 18 = omega arith in
    let r : 10 ^ a ≤ 10 ^ 18 = pow-le-pow_right t k in
    omega (arith, r)

pub ruleset fits = (both_fit, one_fits, digits_value-append)

pub ruleset steps = (digit_from, value_step, size_step, size_fits)
