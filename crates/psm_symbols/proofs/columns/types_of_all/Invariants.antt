use Rattle.std.proofs.Common.{◌≡◌, ◌++◌, drop, map}
use Rattle.psm_symbols.proofs.columns.types_of_all.Given as goal

abbrev pub invariant-loop-number : goal.invariant-loop-number
invariant-loop-number l = l.kinds.items ++ map (λ p. p.1) (drop l.number l.columns) ≡ map (λ p. p.1) l.columns
