-- What the check of lines knows of the kinds of columns and variables.
use Rattle.std.specs.Prelude.{Bool}
use Rattle.psm_exprcode.specs.declared.checking.Kinds.{Kinds}
use Rattle.psm_exprcode.specs.declared.checking.Kinds.TheVariants.{Any, Of}
use Rattle.psm_exprcode.specs.declared.op.Letter.{Letter}
use Rattle.psm_exprcode.specs.declared.op.Op.{Op}
use Rattle.psm_exprcode.specs.WellFormed.{of_any_kind, is_of_kind}

abbrev pub allowed : Kinds → Op → Letter → Bool
allowed Any = of_any_kind
allowed (Of columns variables) = is_of_kind columns.now variables.now
