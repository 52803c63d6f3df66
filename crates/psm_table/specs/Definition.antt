-- Definitions of tables, and the rows that fit them (ISO/IEC 9075:1992, 11.3 and 11.7).
use Rattle.std.specs.Prelude.{◌≡◌, ◌≢◌, ◌<◌, List, length, map, All, AllPairs}
use Rattle.std.specs.List.{zip}
use Rattle.psm_value.specs.declared.datum.Datum.{Datum}
use Rattle.psm_value.specs.declared.datum.Datum.TheVariants.{Null}
use Rattle.psm_value.specs.declared.sqltype.SqlType.{SqlType}
use Rattle.psm_value.specs.SqlType.{IsOfFamily, IsType}
use Rattle.psm_table.specs.declared.definition.Column.{Column}
use Rattle.psm_table.specs.declared.definition.TableDef.{TableDef}
use Rattle.psm_table.specs.Key.{values_at}

-- the types of the columns
abbrev pub kinds_of : List Column → List SqlType
kinds_of columns = map (λ c. c.kind) columns

-- the columns have types that there are, and the one key is a list of some columns that exist, and of no column twice
pub record IsDefinition (def : TableDef) : Type 0 where
  pub types : All IsType (kinds_of def.columns)
  pub some : 0 < length def.key
  pub exist : All (λ c. c < length def.columns) def.key
  pub distinct : AllPairs (λ a b. a ≢ b) def.key

-- each value is null or of its type's family
abbrev pub AreOfFamilies : List SqlType → List Datum → Type 0
AreOfFamilies kinds row = All (λ p. IsOfFamily p.0 p.1) (zip kinds row)

-- a row has one value for each column
abbrev pub HasColumns : TableDef → List Datum → Type 0
HasColumns def row = length row ≡ length def.columns

-- a row has one value for each column, of its family, and no null in the key
pub record IsRow (def : TableDef) (row : List Datum) : Type 0 where
  pub long : HasColumns def row
  pub families : AreOfFamilies (kinds_of def.columns) row
  pub filled : All (λ d. d ≢ Null) (values_at def.key row)

-- a key has one value for each column of the key
abbrev pub IsKey : TableDef → List Datum → Type 0
IsKey def key = length key ≡ length def.key
