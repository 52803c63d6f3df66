-- A map: its pairs in runs, all of them in order, and whether it has memory for one more.
use Rattle.std.specs.Prelude.{Bool, List}
use Rattle.psm_table.specs.declared.map.Pair.{Pair}

pub record Mapped (V : Type 0) : Type 0 where
  pub runs : List (List (Pair V))
  pub pairs : List (Pair V)
  pub ready : Bool
