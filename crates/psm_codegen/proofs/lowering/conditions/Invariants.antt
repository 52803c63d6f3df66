use Rattle.std.proofs.Common.{◌≡◌, ◌++◌, drop, map}
use Rattle.psm_cond.specs.declared.handlers.Declared.TheVariants as declares
use Rattle.psm_codegen.proofs.lowering.conditions.Given as goal

abbrev pub invariant-loop-name : goal.invariant-loop-name
invariant-loop-name l = map (λ name. declares.Named name) l.names ≡ l.all.items ++ map (λ name. declares.Named name) (drop l.name-index l.name-items)
