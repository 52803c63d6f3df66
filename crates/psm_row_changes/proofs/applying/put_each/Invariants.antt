use Rattle.std.proofs.Common.{◌≡◌, true}
use Rattle.std.specs.Prelude.{IfSome, slice_get}
use Rattle.psm_store.specs.Marks.{defs_of, AnyMark, Keeps}
use Rattle.psm_store.specs.RowCalls.{changed_at}
use Rattle.psm_row_changes.specs.Rows.{fit_in, with_rows}
use Rattle.psm_row_changes.proofs.applying.put_each.Given as goal

abbrev pub invariant-loop-row : goal.invariant-loop-row
invariant-loop-row g l = record {
  tables : g.S.Store.tables l.store ≡ changed_at (with_rows l.yielded) (g.S.Store.tables l.initial.store) l.t;
  fit : IfSome (slice_get (g.S.Store.tables l.initial.store) l.t) (λ c. fit_in l.yielded c ≡ true);
  defs : defs_of (g.S.Store.tables l.store) ≡ defs_of (g.S.Store.tables l.initial.store);
  marks : g.S.Store.marks l.store ≡ g.S.Store.marks l.initial.store;
  keeps : Keeps AnyMark (g.S.Store.holds l.initial.store) (g.S.Store.at l.initial.store) (g.S.Store.holds l.store) (g.S.Store.at l.store);
}
