-- The places of columns in their table. The number 0 stands for what isn't there.
use Rattle.std.specs.Prelude.{ℕ, suc, Option, Some, None, List, [], ◌∷◌, map}
use Rattle.psm_value.specs.declared.sqltype.SqlType.{SqlType}
use Rattle.psm_scope.specs.Lookup.{index_named}
use Rattle.psm_tree.specs.Names.{Names}
use Rattle.psm_tree.specs.declared.name.Identifier.{Identifier}
use Rattle.psm_rules.specs.StatementFaults.{several}
use Rattle.psm_rules.specs.CheckerScope.{Columns}

abbrev pub place_in : Option (ℕ × Option SqlType) → ℕ
place_in None = 0
place_in (Some c) = c.0

-- a column of a table by its place
abbrev pub column_of : Columns → Identifier → ℕ
column_of columns n = place_in (index_named 0 n.name columns)

-- each column, where none is named
abbrev pub all_places : ℕ → Columns → List ℕ
all_places i [] = []
all_places i (c ∷ columns) = i ∷ all_places (suc i) columns

abbrev pub inserted : Columns → Option Names → List ℕ
inserted columns None = all_places 0 columns
inserted columns (Some names) = map (column_of columns) (several names)
