-- Copies of tables for marks.
use Rattle.std.specs.Prelude.{ℕ, List, replicate}
use Rattle.std.specs.List.{flat_map}
use Rattle.psm_table.specs.Table.{Contents}

-- a copy, and for how many marks it stands
pub record Shared : Type 0 where
  pub tables : List Contents
  pub marks : ℕ

-- for each mark, outermost first, the copy that stands for it
abbrev pub copies_of : List Shared → List (List Contents)
copies_of groups = flat_map (λ g. replicate g.marks g.tables) groups
