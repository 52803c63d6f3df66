use Rattle.std.proofs.Common.{◌≡◌, ℕ, ◌<◌, ◌≤◌, List, length, get_or}
use Rattle.std.specs.Prelude.{Option}
use Rattle.psm_value.specs.declared.datum.Datum.{Datum}
use Rattle.psm_table.specs.Index.{IsPut}
use Rattle.psm_table.specs.Mapped.{Mapped}
use Rattle.psm_table.proofs.Entered.{At}
use Rattle.psm_table.proofs.index.put_all.Given as goal

abbrev pub invariant-loop-i : goal.invariant-loop-i
invariant-loop-i l = record {
  lists : length l.indexes.items ≡ length l.initial.indexes.items;
  count : length l.entries.items ≡ length l.initial.entries.items;
  put : (k : ℕ) → k < l.i → At IsPut l.initial.indexes.items l.indexes.items l.initial.entries.items k;
  later : (k : ℕ) (m : Mapped (Unit {0})) → l.i ≤ k → get_or l.indexes.items k m ≡ get_or l.initial.indexes.items k m;
  left : (k : ℕ) (o : Option (List Datum)) → l.i ≤ k → get_or l.entries.items k o ≡ get_or l.initial.entries.items k o;
}
