use Rattle.std.proofs.Common.{◌≡◌, length}
use Rattle.std.specs.Prelude.{All}
use Rattle.std.specs.List.{list_all}
use Rattle.psm_table.specs.Key.{AreColumnsOf}
use Rattle.psm_table.specs.Keyed.{is_referred}
use Rattle.psm_row_changes.proofs.lookups.all_refer.Given as goal

abbrev pub invariant-rows : goal.invariant-rows
invariant-rows l = record {
  same : list_all (is_referred l.key.columns l.key.target l.table.contents.rows) l.initial.rows ≡ list_all (is_referred l.key.columns l.key.target l.table.contents.rows) l.rows;
  columns : All (λ row. AreColumnsOf row l.key.columns) l.rows;
}

abbrev pub decreases-rows : goal.decreases-rows
decreases-rows l = length l.rows
