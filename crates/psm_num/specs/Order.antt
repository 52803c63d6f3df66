-- The order of exact numbers by value (ISO/IEC 9075:1992, 8.2).
use Rattle.std.specs.Prelude.{pos, ◌^◌, ◌*ℤ◌}
use Rattle.std.specs.Ordering.{int_cmp}
use Rattle.std.specs.declared.cmp.Ordering.{Ordering}
use Rattle.psm_num.specs.Num.{Num}

-- the order of a.coef / 10 ^ a.scale and b.coef / 10 ^ b.scale, both sides times 10 ^ (a.scale + b.scale)
abbrev pub order : Num → Num → Ordering
order a b = int_cmp (a.coef *ℤ pos (10 ^ b.scale)) (b.coef *ℤ pos (10 ^ a.scale))
