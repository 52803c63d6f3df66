use Rattle.std.proofs.Common.{◌≡◌, take}
use Rattle.std.specs.Prelude.{map}
use Rattle.psm_exprcode.specs.declared.aggregate.Aggregate.{Aggregate}
use Rattle.psm_query.specs.Ends.{beginning_tally}
use Rattle.psm_query.proofs.ends.tallies_from_ends.Given as goal

abbrev pub invariant-loop-set : goal.invariant-loop-set
invariant-loop-set l = l.tallies.items ≡ map (λ (a : Aggregate). beginning_tally l.table.contents.def.key l.beginning l.table.contents.rows a.function) (take l.set-index l.sets)
