use Rattle.std.proofs.Common.{◌≡◌, take, true}
use Rattle.std.specs.List.{list_all}
use Rattle.std.specs.Option.{option_copied}
use Rattle.psm_table.specs.Keyed.{rows_in}
use Rattle.psm_row_changes.specs.KeyTests.{refers_early}
use Rattle.psm_row_changes.proofs.lookups.refer_early.Given as goal

abbrev pub invariant-loop-key : goal.invariant-loop-key
invariant-loop-key g l = list_all (refers_early (rows_in (g.S.Store.tables l.store)) l.t (option_copied l.own) l.rows) (take l.key-index l.constraints) ≡ true
