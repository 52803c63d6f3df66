use Rattle.std.proofs.Common.{◌≡◌, ◌++◌, drop, map}
use Rattle.psm_codegen.proofs.steps.numbers.Given as goal

abbrev pub invariant-loop-x : goal.invariant-loop-x
invariant-loop-x l = map (λ x. x.number) l.list ≡ l.numbers.items ++ map (λ x. x.number) (drop l.x-index l.x-items)
