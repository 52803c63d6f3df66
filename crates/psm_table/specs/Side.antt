-- The sides of comparisons.
use Rattle.psm_value.specs.declared.datum.Datum.{Datum}
use Rattle.psm_value.specs.declared.datum.Datum.TheVariants.{Num}
use Rattle.psm_table.specs.declared.probe.Side.{Side}
use Rattle.psm_table.specs.declared.probe.Side.TheVariants.{Number, Value}

-- the value that is compared
abbrev pub side_value : Side → Datum
side_value (Number n) = Num n.now
side_value (Value value) = value.now
