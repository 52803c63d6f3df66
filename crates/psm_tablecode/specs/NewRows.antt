-- The rows of INSERT (ISO/IEC 9075:1992, 13.8): values for some columns, and the DEFAULTs of the others.
use Rattle.std.specs.Prelude.{ℕ, suc, List, [], ◌∷◌, nat_eq, if◌then◌else◌}
use Rattle.psm_value.specs.declared.datum.Datum.{Datum}
use Rattle.psm_table.specs.declared.definition.Column.{Column}
use Rattle.psm_table.specs.declared.definition.TableDef.{TableDef}

-- the value for the column at an index, or its DEFAULT
abbrev pub value_for : ℕ → List ℕ → List Datum → Datum → Datum
value_for index [] ds default = default
value_for index (c ∷ cs) [] default = default
value_for index (c ∷ cs) (d ∷ ds) default = if nat_eq c index then d else value_for index cs ds default

-- the row of a table in which some columns, by their indexes, have these values; its columns are counted from an index
abbrev pub row_from : ℕ → List Column → List ℕ → List Datum → List Datum
row_from index [] columns ds = []
row_from index (c ∷ cs) columns ds = value_for index columns ds c.default ∷ row_from (suc index) cs columns ds

abbrev pub new_row : TableDef → List ℕ → List Datum → List Datum
new_row def columns ds = row_from 0 def.columns columns ds
