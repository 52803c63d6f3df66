-- The values among operands.
use Rattle.std.specs.Prelude.{List, [], ◌∷◌}
use Rattle.psm_value.specs.declared.datum.Datum.{Datum}
use Rattle.psm_exprcode.specs.declared.operand.Operand.{Operand}
use Rattle.psm_exprcode.specs.declared.operand.Operand.TheVariants.{Value, Truth}

-- the values of the operands that are values, in order
abbrev pub data_in : List Operand → List Datum
data_in [] = []
data_in (Value a ∷ os) = a ∷ data_in os
data_in (Truth t ∷ os) = data_in os
