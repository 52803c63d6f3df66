-- The values of a key.
use Rattle.std.specs.Prelude.{List}
use Rattle.psm_value.specs.declared.datum.Datum.{Datum}
use Rattle.psm_table.specs.declared.key.Parts.{Parts}
use Rattle.psm_table.specs.declared.key.Parts.TheVariants.{One, Many}

-- the values of the parts that a key is kept as
abbrev pub values_of : Parts → List Datum
values_of (One value) = value
values_of (Many values) = values.items
