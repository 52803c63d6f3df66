use Rattle.std.proofs.Common.{◌≡◌, ℕ, ◌<◌, length}
use Rattle.psm_table.specs.Held.{entries_of}
use Rattle.psm_table.specs.Index.{IsPrepared}
use Rattle.psm_table.proofs.Entered.{At}
use Rattle.psm_table.proofs.index.prepare_all.Given as goal

abbrev pub invariant-loop-i : goal.invariant-loop-i
invariant-loop-i l = record {
  lists : length l.indexes.items ≡ length l.initial.indexes.items;
  same : entries_of l.indexes.items ≡ entries_of l.initial.indexes.items;
  count : length l.entries.items ≡ l.i;
  each : (k : ℕ) → k < l.i → At (λ columns m o. IsPrepared columns l.def.key l.row m o) l.lists l.indexes.items l.entries.items k;
}
