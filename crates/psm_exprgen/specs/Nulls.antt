-- The code of NULL as a value of a letter. Of a truth value there is none, and the test whether NULL is null stands for it.
use Rattle.std.specs.Prelude.{List, [], ◌∷◌}
use Rattle.psm_value.specs.declared.datum.Datum.TheVariants as data_of
use Rattle.psm_exprcode.specs.declared.op.Letter.{Letter}
use Rattle.psm_exprcode.specs.declared.op.Letter.TheVariants.{N, T, B}
use Rattle.psm_exprcode.specs.declared.op.Line.{Line}
use Rattle.psm_exprcode.specs.declared.op.Op.TheVariants as op

abbrev pub null_lines : Letter → List Line
null_lines N = record { stack = []; op = op.Constant N data_of.Null } ∷ []
null_lines T = record { stack = []; op = op.Constant T data_of.Null } ∷ []
null_lines B = record { stack = []; op = op.Constant N data_of.Null } ∷ record { stack = N ∷ []; op = op.IsNull } ∷ []
