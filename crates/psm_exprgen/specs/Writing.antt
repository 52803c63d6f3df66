-- Lines and queries that are written after others.
use Rattle.std.specs.Prelude.{◌≡◌, List, ◌++◌}
use Rattle.psm_code.specs.declared.code.RawRoutine.{RawRoutine}
use Rattle.psm_exprgen.specs.Written.{Written}

-- a list that begins with another one
pub record BeginsWith {A : Type 0} (xs ys : List A) : Type 0 where
  pub more : List A
  pub is : ys ≡ xs ++ more

-- the lines and the queries are those that there were and more
pub record Grows (w v : Written) : Type 0 where
  pub lines : BeginsWith w.lines v.lines
  pub queries : BeginsWith w.queries v.queries

-- the lines and the queries of a routine begin with those that are written
pub record Begins (w : Written) (r : RawRoutine) : Type 0 where
  pub lines : BeginsWith w.lines r.lines
  pub queries : BeginsWith w.queries r.queries
