use Rattle.std.proofs.Common.{◌≡◌, ◌++◌, drop}
use Rattle.std.specs.List.{flat_map}
use Rattle.psm_object.specs.Plans.{set_lines}
use Rattle.psm_object.specs.Words.{text}
use Rattle.psm_object.proofs.plans.put_sets.Given as goal

abbrev pub invariant-loop-set : goal.invariant-loop-set
invariant-loop-set l = l.out.items ++ text (flat_map set_lines (drop l.set-index l.sets)) ≡ l.fn.out.items ++ text (flat_map set_lines l.sets)
