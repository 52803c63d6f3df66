-- Which row expression an expression is, as far as it is known.
use Rattle.psm_resolved.specs.RowType as row_types
use Rattle.psm_exprgen.specs.declared.row_types.RowType.{RowType}
use Rattle.psm_exprgen.specs.declared.row_types.RowType.TheVariants.{Wrong, Untyped, Of}

abbrev pub seen : RowType → row_types.RowType
seen Wrong = row_types.Wrong
seen Untyped = row_types.Untyped
seen (Of k) = row_types.Of k
