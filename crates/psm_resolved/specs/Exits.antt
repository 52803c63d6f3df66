-- How the code of CASE and of COALESCE reaches its end.
use Rattle.std.specs.Prelude.{ℕ}
use Rattle.psm_exprcode.specs.declared.op.Op.{Op}
use Rattle.psm_exprcode.specs.declared.op.Op.TheVariants as op
use Rattle.psm_resolved.specs.declared.writer.Exit.{Exit}
use Rattle.psm_resolved.specs.declared.writer.Exit.TheVariants.{Always, UnlessNull}

abbrev pub exit_op : Exit → ℕ → Op
exit_op Always e = op.Jump e
exit_op UnlessNull e = op.JumpUnlessNull e
