-- The tables of the rows: a name and a size, which are the key, and a code.
use Rattle.std.specs.Prelude.{◌≡◌, ◌≢◌, List, [], ◌∷◌, length, All}
use Rattle.psm_value.specs.declared.datum.Datum.{Datum}
use Rattle.psm_value.specs.declared.datum.Datum.TheVariants.{Null}
use Rattle.psm_value.specs.declared.sqltype.SqlType.TheVariants.{VarChar, Numeric, Integer}
use Rattle.psm_table.specs.declared.definition.TableDef.{TableDef}
use Rattle.psm_table.specs.Definition.{AreOfFamilies, kinds_of}
use Rattle.psm_table.specs.Key.{values_at}

-- a table of such rows
pub record IsPartsTable (def : TableDef) : Type 0 where
  pub key : def.key ≡ 0 ∷ 1 ∷ []
  pub kinds : kinds_of def.columns ≡ VarChar 10 ∷ Numeric 5 2 ∷ Integer ∷ []

-- a row of such a table
pub record IsPartsRow (row : List Datum) : Type 0 where
  pub long : length row ≡ 3
  pub families : AreOfFamilies (VarChar 10 ∷ Numeric 5 2 ∷ Integer ∷ []) row
  pub filled : All (λ d. d ≢ Null) (values_at (0 ∷ 1 ∷ []) row)

-- a key of such a table
abbrev pub IsPartsKey : List Datum → Type 0
IsPartsKey key = length key ≡ 2
