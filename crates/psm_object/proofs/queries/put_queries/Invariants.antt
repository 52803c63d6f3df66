use Rattle.std.proofs.Common.{◌≡◌, ◌++◌, drop}
use Rattle.std.specs.List.{flat_map}
use Rattle.psm_object.specs.Queries.{query_lines}
use Rattle.psm_object.specs.Words.{text}
use Rattle.psm_object.proofs.queries.put_queries.Given as goal

abbrev pub invariant-loop-query : goal.invariant-loop-query
invariant-loop-query l = l.out.items ++ text (flat_map query_lines (drop l.query-index l.queries)) ≡ l.fn.out.items ++ text (flat_map query_lines l.queries)
