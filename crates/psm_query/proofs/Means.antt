-- The mean of numbers has no more digits than they.
use Rattle.std.proofs.Common.{◌≡◌, ℕ, ◌*◌, ◌/◌, ◌<◌, ◌≤◌, ℤ, pos, unsigned_abs, int_div, arith}
use Rattle.std.proofs.Math.Nat.{div-le_of_le-mul}
use Rattle.psm_num.proofs.Quotients.{abs-int_div}

pub mean_small : (a : ℤ) (n : ℕ) → unsigned_abs a ≤ n * 999999999999999999 → unsigned_abs (int_div a (pos n)) < 1000000000000000000
mean_small a n h =
    let size : unsigned_abs (int_div a (pos n)) ≡ unsigned_abs a / n = abs-int_div a (pos n) in
    let most : unsigned_abs a / n ≤ 999999999999999999 = div-le_of_le-mul n h in
    omega (arith, size, most)
