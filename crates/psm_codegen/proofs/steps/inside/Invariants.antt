use Rattle.std.proofs.Common.{◌≡◌, ◌∷◌, take}
use Rattle.psm_codegen.proofs.steps.inside.Given as goal

abbrev pub invariant-loop-more : goal.invariant-loop-more
invariant-loop-more l = l.all.items ≡ l.fn.other ∷ take l.more-index l.enclosing
