-- The table of a row expression as it is kept.
use Rattle.std.specs.Prelude.{Option, Some, None, List, []}
use Rattle.std.specs.Option.{option_copied}
use Rattle.psm_value.specs.declared.sqltype.SqlType.{SqlType}
use Rattle.psm_scope.specs.declared.known.Variable.{Variable as KnownVariable}
use Rattle.psm_scope.specs.declared.row.Meant.{Meant}
use Rattle.psm_scope.specs.declared.row.Meant.TheVariants as meant
use Rattle.psm_scope.specs.declared.row.RowTable.{RowTable as KeptRow}
use Rattle.psm_scope.specs.Scopes.{Spelling}
use Rattle.psm_scope.specs.Lookup.{Meaning, Column, Variable, RowTable}

-- a table that isn't known has no columns
abbrev pub columns_known : Option (List (Spelling × Option SqlType)) → List (Spelling × Option SqlType)
columns_known None = []
columns_known (Some cs) = cs

abbrev pub row_table : KeptRow → RowTable (Option SqlType)
row_table r = record { name = r.name.now; alias = option_copied r.alias; columns = columns_known (option_copied r.columns) }

abbrev pub meaning_of : Meant → Meaning KnownVariable (Option SqlType)
meaning_of (meant.Column number kind) = Column number kind
meaning_of (meant.Variable known) = Variable known
