use Rattle.std.proofs.Common.{◌≡◌}
use Rattle.psm_store.specs.Marks.{defs_of, AnyMark, Keeps}
use Rattle.psm_store.specs.RowCalls.{changed_at}
use Rattle.psm_row_changes.specs.Rows.{with_rows}
use Rattle.psm_row_changes.proofs.changing.change_each.Given as goal

abbrev pub invariant-loop-row : goal.invariant-loop-row
invariant-loop-row g l = record {
  tables : g.S.Store.tables l.store ≡ changed_at (with_rows l.yielded) (g.S.Store.tables l.initial.store) l.t;
  defs : defs_of (g.S.Store.tables l.store) ≡ defs_of (g.S.Store.tables l.initial.store);
  marks : g.S.Store.marks l.store ≡ g.S.Store.marks l.initial.store;
  keeps : Keeps AnyMark (g.S.Store.holds l.initial.store) (g.S.Store.at l.initial.store) (g.S.Store.holds l.store) (g.S.Store.at l.store);
}
