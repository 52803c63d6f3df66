use Rattle.std.proofs.Common.{◌≡◌}
use Rattle.std.specs.Prelude.{All}
use Rattle.psm_table.specs.State.{IsTidy}
use Rattle.psm_store.specs.Kept.{contents_of}
use Rattle.psm_store.proofs.indexes.index_keys.Given as goal

abbrev pub invariant-loop-key : goal.invariant-loop-key
invariant-loop-key l = (contents_of l.tables.items ≡ contents_of l.initial.tables.items) × (All IsTidy l.initial.tables.items → All IsTidy l.tables.items)
