use Rattle.std.proofs.Common.{◌≡◌, ℕ, ◌<◌, ◌≤◌, List, length, get_or}
use Rattle.psm_value.specs.declared.datum.Datum.{Datum}
use Rattle.psm_table.specs.Held.{entries_of, live_rows}
use Rattle.psm_table.specs.Index.{AreEntered}
use Rattle.psm_table.proofs.index.settle_entries.Given as goal

abbrev pub invariant-loop-i : goal.invariant-loop-i
invariant-loop-i l =
    (length l.indexes.items ≡ length l.initial.indexes.items) × AreEntered l.def l.lists (live_rows l.rows.pairs) (entries_of l.indexes.items)
    × ((k : ℕ) (d : List (List Datum)) → k < l.i → length (get_or (entries_of l.indexes.items) k d) ≤ length (live_rows l.rows.pairs))
