-- The printed form of a number (ISO/IEC 9075:1992, 6.10).
use Rattle.std.specs.Prelude.{ℕ, ℤ, pos, ◌-◌, ◌/◌, ◌%◌, ◌^◌, List, [], ◌∷◌, ◌++◌, length, replicate, decimal, nat_lt, int_lt, unsigned_abs, if◌then◌else◌}
use Rattle.psm_num.specs.Num.{Num}

-- a minus sign if it is negative
abbrev pub minus_of : ℤ → List ℕ
minus_of z = if int_lt z (pos 0) then 45 ∷ [] else []

-- a number of at most that many digits, filled on the left with zeros
abbrev pub filled : ℕ → ℕ → List ℕ
filled width n = replicate (width - length (decimal n)) 48 ++ decimal n

-- the point and exactly as many digits as the scale, and nothing at scale 0
abbrev pub decimals_of : ℕ → ℕ → List ℕ
decimals_of scale n = if nat_lt 0 scale then 46 ∷ filled scale n else []

-- the sign, at least one digit, and the decimals
abbrev pub printed : Num → List ℕ
printed n = let size = unsigned_abs n.coef in
    minus_of n.coef ++ decimal (size / 10 ^ n.scale) ++ decimals_of n.scale (size % 10 ^ n.scale)
