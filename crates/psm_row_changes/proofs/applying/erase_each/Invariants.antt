use Rattle.std.proofs.Common.{◌≡◌, take}
use Rattle.psm_store.specs.Marks.{defs_of, AnyMark, Keeps}
use Rattle.psm_store.specs.RowCalls.{changed_at}
use Rattle.psm_row_changes.specs.Rows.{without_keys}
use Rattle.psm_row_changes.proofs.applying.erase_each.Given as goal

abbrev pub invariant-loop-key : goal.invariant-loop-key
invariant-loop-key g l = record {
  tables : g.S.Store.tables l.store ≡ changed_at (without_keys (take l.key-index l.keys)) (g.S.Store.tables l.initial.store) l.t;
  defs : defs_of (g.S.Store.tables l.store) ≡ defs_of (g.S.Store.tables l.initial.store);
  marks : g.S.Store.marks l.store ≡ g.S.Store.marks l.initial.store;
  keeps : Keeps AnyMark (g.S.Store.holds l.initial.store) (g.S.Store.at l.initial.store) (g.S.Store.holds l.store) (g.S.Store.at l.store);
}
