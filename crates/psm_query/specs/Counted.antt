-- A sum, and of how many numbers it is.
use Rattle.std.specs.Prelude.{ℕ}
use Rattle.psm_num.specs.Num.{Num}

pub record Counted : Type 0 where
  pub sum : Num
  pub count : ℕ
