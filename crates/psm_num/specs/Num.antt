-- Exact numbers (ISO/IEC 9075:1992, 4.4).
use Rattle.std.specs.Prelude.{ℕ, ℤ, Bool, ◌&&◌, nat_le, nat_lt, unsigned_abs, Result, Ok, Err, if◌then◌else◌}
use Rattle.psm_num.specs.declared.fault.NumFault.{NumFault}
use Rattle.psm_num.specs.declared.fault.NumFault.TheVariants.{Range}

-- coef / 10 ^ scale
pub record Num : Type 0 where
  pub coef : ℤ
  pub scale : ℕ

-- at most 18 digits, and at most 18 of them after the point
abbrev pub is_within : Num → Bool
is_within n = nat_le n.scale 18 && nat_lt (unsigned_abs n.coef) 1000000000000000000

-- the number, or out of range where it isn't within those bounds
abbrev pub checked : Num → Result Num NumFault
checked n = if is_within n then Ok n else Err Range
