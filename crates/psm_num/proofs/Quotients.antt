-- Quotients that are cut toward zero, and when one has too many digits.
use Rattle.std.proofs.Common.{◌≡◌, ℕ, zero, suc, ◌+◌, ◌-◌, ◌*◌, ◌/◌, ◌^◌, ◌<◌, ◌≤◌, ℤ, pos, negsuc, ◌*ℤ◌, max, unsigned_abs, int_div, refl, Result, Err, arith}
use Rattle.std.proofs.Math.IntN.{neg_ℤ}
use Rattle.std.proofs.lemmas.Int.{unsigned_abs-mul}
use Rattle.std.proofs.lemmas.Nat.{le-div}
use Rattle.psm_num.specs.declared.fault.NumFault.{NumFault}
use Rattle.psm_num.specs.declared.fault.NumFault.TheVariants.{Range}
use Rattle.psm_num.specs.Arithmetic.{quotient, divided}
use Rattle.psm_num.specs.Num.{Num, checked}
use Rattle.psm_num.proofs.Powers.{dividend_large}

abs-neg : (n : ℕ) → unsigned_abs (neg_ℤ (pos n)) ≡ n
abs-neg zero = refl
abs-neg (suc n) = refl

pub abs-int_div : (a d : ℤ) → unsigned_abs (int_div a d) ≡ unsigned_abs a / unsigned_abs d
abs-int_div (pos a) (pos b) = refl
abs-int_div (pos a) (negsuc b) = abs-neg (a / suc b)
abs-int_div (negsuc a) (pos b) = abs-neg (suc a / b)
abs-int_div (negsuc a) (negsuc b) = refl

-- 36 digits and more over at most 18 leave more than 18
pub quotient_large : (a d : ℤ) (n : ℕ) → n ≤ 36 → 10 ^ (36 - n) ≤ unsigned_abs a → 0 < unsigned_abs d → unsigned_abs d < 10 ^ 18
    → 10 ^ 18 ≤ unsigned_abs (int_div (a *ℤ pos (10 ^ n)) d)
quotient_large a d n k large nonzero small =
    let whole : 10 ^ 36 ≤ unsigned_abs a * 10 ^ n = dividend_large (unsigned_abs a) n k large in
    let size : unsigned_abs (a *ℤ pos (10 ^ n)) ≡ unsigned_abs a * 10 ^ n = unsigned_abs-mul a (pos (10 ^ n)) in
    let room : 10 ^ 18 * unsigned_abs d ≤ unsigned_abs (a *ℤ pos (10 ^ n)) = omega (arith, whole, size, small) in
    let e : unsigned_abs (int_div (a *ℤ pos (10 ^ n)) d) ≡ unsigned_abs (a *ℤ pos (10 ^ n)) / unsigned_abs d = abs-int_div (a *ℤ pos (10 ^ n)) d in
    let f : 10 ^ 18 ≤ unsigned_abs (a *ℤ pos (10 ^ n)) / unsigned_abs d = le-div (10 ^ 18) (unsigned_abs (a *ℤ pos (10 ^ n))) (unsigned_abs d) nonzero room in
    omega (arith, e, f)

pub too_large : (a b : Num) → a.scale ≤ 18 → b.scale ≤ 18 → 0 < unsigned_abs b.coef → unsigned_abs b.coef < 10 ^ 18
    → 10 ^ (36 - (max a.scale b.scale + b.scale - a.scale)) ≤ unsigned_abs a.coef → divided a b ≡ Err Range
too_large a b p q nonzero small large =
    let s : 10 ^ 18 ≤ unsigned_abs (quotient a b).coef = quotient_large a.coef b.coef (max a.scale b.scale + b.scale - a.scale) (omega arith) large nonzero small in
    grind (arith, s)

-- the answer by what each of its calls gave
pub divided_is : (a b : Num) (s : ℕ) (y z : ℤ) (r : Result Num NumFault) → 0 < unsigned_abs b.coef → s ≡ max a.scale b.scale
    → y ≡ a.coef *ℤ pos (10 ^ (s + b.scale - a.scale)) → z ≡ int_div y b.coef → r ≡ checked (record { coef = z; scale = s }) → r ≡ divided a b
divided_is a b s y z r p e f g h = grind (arith, e, f, g, h)
