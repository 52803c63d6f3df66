-- The type that stands for a declared one is within bounds, also where that is at fault.
use Rattle.std.specs.Prelude.{Option, Some, None}
use Rattle.std.specs.Option.{IfSome}
use Rattle.psm_value.specs.SqlType.{IsType}
use Rattle.psm_value.specs.declared.sqltype.SqlType.{SqlType}
use Rattle.psm_tree.specs.declared.types.DataType.{DataType}
use Rattle.psm_rules.specs.Types.{type_of}
use Rattle.psm_rules.proofs.Bounds.{type_within}
use Rattle.psm_resolve_expr.specs.Exprs.{type_known}

pub known_within : (t : DataType) → IsType (type_known (type_of t))
known_within t = by (type_of t) (type_within t)
  where
    by : (o : Option SqlType) → IfSome o IsType → IsType (type_known o)
    by None h = tt
    by (Some s) h = h
