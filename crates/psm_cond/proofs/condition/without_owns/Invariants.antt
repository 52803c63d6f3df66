use Rattle.std.proofs.Common.{◌≡◌, map, take, drop, ◌++◌}
use Rattle.psm_cond.specs.Entry.{without_own}
use Rattle.psm_cond.proofs.condition.without_owns.Given as goal

abbrev pub invariant-loop-entry : goal.invariant-loop-entry
invariant-loop-entry l = l.entry-items ≡ map without_own (take l.entry-index l.initial.entry-items) ++ drop l.entry-index l.initial.entry-items
