-- Arithmetic on exact numbers (ISO/IEC 9075:1992, 6.12), as formulas over unbounded whole numbers.
use Rattle.std.specs.Prelude.{ℕ, ℤ, pos, ◌+◌, ◌-◌, ◌^◌, ◌+ℤ◌, ◌-ℤ◌, ◌*ℤ◌, max, nat_lt, nat_le, unsigned_abs, int_div, neg_ℤ, Result, Err, if◌then◌else◌}
use Rattle.psm_num.specs.declared.fault.NumFault.{NumFault}
use Rattle.psm_num.specs.declared.fault.NumFault.TheVariants.{Zero}
use Rattle.psm_num.specs.Num.{Num, checked}

-- the coefficient of a at a scale that isn't below its own
abbrev pub coef_at : Num → ℕ → ℤ
coef_at a s = a.coef *ℤ pos (10 ^ (s - a.scale))

-- a + b, at the larger scale
abbrev pub total : Num → Num → Num
total a b = let s = max a.scale b.scale in record { coef = coef_at a s +ℤ coef_at b s; scale = s }

-- a - b, at the larger scale
abbrev pub difference : Num → Num → Num
difference a b = let s = max a.scale b.scale in record { coef = coef_at a s -ℤ coef_at b s; scale = s }

-- a * b, at the sum of the scales
abbrev pub product : Num → Num → Num
product a b = record { coef = a.coef *ℤ b.coef; scale = a.scale + b.scale }

-- a / b at the larger scale, cut toward zero, for a divisor that isn't zero
abbrev pub quotient : Num → Num → Num
quotient a b = let s = max a.scale b.scale in
    record { coef = int_div (a.coef *ℤ pos (10 ^ (s + b.scale - a.scale))) b.coef; scale = s }

-- the quotient, or why there is none: a zero divisor before a number out of range
abbrev pub divided : Num → Num → Result Num NumFault
divided a b = if nat_lt 0 (unsigned_abs b.coef) then checked (quotient a b) else Err Zero

-- -a
abbrev pub negated : Num → Num
negated a = record { coef = neg_ℤ a.coef; scale = a.scale }

-- a at another scale, where digits that don't fit are cut off
abbrev pub at_scale : Num → ℕ → Num
at_scale a s = record { coef = if nat_le a.scale s then coef_at a s else int_div a.coef (pos (10 ^ (a.scale - s))); scale = s }
