use Rattle.std.proofs.Common.{◌≡◌, ◌++◌, drop, map}
use Rattle.psm_rules.specs.FileFaults.{kind_of}
use Rattle.psm_symbols.proofs.parameters.kinds_of.Given as goal

abbrev pub invariant-loop-parameter : goal.invariant-loop-parameter
invariant-loop-parameter l = l.kinds.items ++ map (λ p. kind_of p.kind.form) (drop l.parameter-index l.parameters) ≡ map (λ p. kind_of p.kind.form) l.parameters
