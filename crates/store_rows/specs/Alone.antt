-- A table that stands alone, and the row that was taken out of it last.
use Rattle.std.specs.Prelude.{List, Option, IfSome}
use Rattle.psm_value.specs.declared.datum.Datum.{Datum}
use Rattle.psm_table.specs.Definition.{IsRow}
use Rattle.psm_table.specs.State.{State, KeepsRow}
use Rattle.store_rows.specs.Parts.{IsPartsTable}

-- a table of parts, which keeps the row
pub record IsAlone (s : State) (left : Option (List Datum)) : Type 0 where
  pub parts : IsPartsTable s.contents.def
  pub kept : IfSome left (λ row. KeepsRow s row)
  pub fits : IfSome left (λ row. IsRow s.contents.def row)
