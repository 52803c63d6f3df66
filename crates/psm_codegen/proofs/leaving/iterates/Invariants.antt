use Rattle.std.proofs.Common.{◌≡◌, drop}
use Rattle.psm_codegen.specs.FunctionBuilder.{iterates}
use Rattle.psm_codegen.proofs.leaving.iterates.Given as goal

abbrev pub invariant-loop-other : goal.invariant-loop-other
invariant-loop-other l = iterates l.enclosing l.level l.context l.fn.out ≡ iterates (drop l.other-index l.enclosing) l.level l.current l.out
