-- Entries as the journal keeps them.
use Rattle.std.specs.Prelude.{[], ◌∷◌}
use Rattle.psm_value.specs.declared.datum.Datum.TheVariants.{Null, Num, Text}
use Rattle.psm_undostore.specs.declared.entry.Change.TheVariants.{Inserted, Erased, Changed}
use Rattle.psm_undostore.specs.declared.entry.Entry.{Entry}
use Rattle.psm_undostore.specs.declared.packed.Kept.{Kept}
use Rattle.psm_undostore.specs.declared.packed.Kept.TheVariants as kept

-- the entry
abbrev pub entry_of : Kept → Entry
entry_of (kept.InsertedNull t) = record { table = t; change = Inserted (Null ∷ []) }
entry_of (kept.InsertedNumber t number) = record { table = t; change = Inserted (Num number ∷ []) }
entry_of (kept.InsertedText t text) = record { table = t; change = Inserted (Text text ∷ []) }
entry_of (kept.InsertedValues t values) = record { table = t; change = Inserted values.items }
entry_of (kept.Erased t row) = record { table = t; change = Erased row }
entry_of (kept.Changed t row) = record { table = t; change = Changed row }
