use Rattle.std.proofs.Common.{◌≡◌, ◌++◌, drop}
use Rattle.std.specs.List.{flat_map}
use Rattle.psm_object.specs.Queries.{aggregate_lines}
use Rattle.psm_object.specs.Words.{text}
use Rattle.psm_object.proofs.queries.put_aggregates.Given as goal

abbrev pub invariant-loop-aggregate : goal.invariant-loop-aggregate
invariant-loop-aggregate l = l.out.items ++ text (flat_map aggregate_lines (drop l.aggregate-index l.aggregates)) ≡ l.fn.out.items ++ text (flat_map aggregate_lines l.aggregates)
