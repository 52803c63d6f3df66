use Rattle.std.proofs.Common.{◌≡◌, drop}
use Rattle.psm_table.specs.Evaluator.{test_of}
use Rattle.psm_tablecode.specs.Asked.{rows_of}
use Rattle.psm_tablecode.specs.Codes.{over}
use Rattle.psm_tablecode.specs.RemainingRows.{rows_coming}
use Rattle.psm_query.specs.Gathered.{nothing, AreUpTo}
use Rattle.psm_tablecode.specs.Rows.{values_for}
use Rattle.psm_query.proofs.WalkLaws.{Goes}
use Rattle.psm_query.proofs.gathering.Gathering.of_walk.Given as goal

abbrev pub invariant-loop-at : goal.invariant-loop-at
invariant-loop-at l = record {
  left : drop l.at (rows_of l.table.contents l.walk) ≡ rows_coming l.coming;
  so_far : Goes l.query.items (nothing l.query.items) (test_of (over l.vars) l.query.test) (values_for l.vars l.query.items) (rows_of l.table.contents l.walk) l.at l.gathering;
  counts : AreUpTo l.at l.gathering.tallies;
}
