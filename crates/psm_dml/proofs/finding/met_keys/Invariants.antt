use Rattle.std.proofs.Common.{◌≡◌, ◌≤◌, drop, length}
use Rattle.std.specs.Prelude.{All}
use Rattle.std.specs.Option.{option_copied}
use Rattle.psm_table.specs.Definition.{IsKey}
use Rattle.psm_table.specs.Evaluator.{test_of}
use Rattle.psm_tablecode.specs.Asked.{rows_of}
use Rattle.psm_tablecode.specs.Codes.{over}
use Rattle.psm_tablecode.specs.RemainingRows.{rows_coming}
use Rattle.psm_dml.specs.Collected.{key_in}
use Rattle.psm_dml.proofs.Walked.{Walks}
use Rattle.psm_dml.proofs.finding.met_keys.Given as goal

abbrev pub invariant-loop-at : goal.invariant-loop-at
invariant-loop-at l = record {
  left : drop l.at (rows_of l.table.contents l.walk) ≡ rows_coming l.coming;
  so_far : Walks (test_of (over l.vars) (option_copied l.test)) (key_in l.table.contents.def.key) (rows_of l.table.contents l.walk) l.at l.keys.items;
  fit : All (IsKey l.table.contents.def) l.keys.items;
  counts : length l.keys.items ≤ l.at;
}
