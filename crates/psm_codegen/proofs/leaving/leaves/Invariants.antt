use Rattle.std.proofs.Common.{◌≡◌, drop}
use Rattle.psm_codegen.specs.FunctionBuilder.{leaves}
use Rattle.psm_codegen.proofs.leaving.leaves.Given as goal

abbrev pub invariant-loop-other : goal.invariant-loop-other
invariant-loop-other l = leaves l.enclosing l.level l.context l.fn.out ≡ leaves (drop l.other-index l.enclosing) l.level l.current l.out
