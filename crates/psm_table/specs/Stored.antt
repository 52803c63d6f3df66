-- The values of a pair's key.
use Rattle.std.specs.Prelude.{List, [], ◌∷◌}
use Rattle.psm_value.specs.declared.datum.Datum.{Datum}
use Rattle.psm_value.specs.declared.datum.Datum.TheVariants.{Num}
use Rattle.psm_table.specs.declared.stored.StoredParts.{StoredParts}
use Rattle.psm_table.specs.declared.stored.StoredParts.TheVariants.{One, Numbers, Many}

-- the values of the parts that it is kept as
abbrev pub stored_values : StoredParts → List Datum
stored_values (One value) = value ∷ []
stored_values (Numbers first second) = Num first ∷ Num second ∷ []
stored_values (Many values) = values.items
