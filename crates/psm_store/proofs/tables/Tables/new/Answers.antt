use Rattle.std.proofs.Common.{subst, sym}
use Rattle.psm_store.specs.Kept.{AreEmpty}
use Rattle.psm_store.proofs.Indexed.{empty-tables}
use Rattle.psm_store.proofs.tables.Tables.new.Goals as goal

pub index_keys-requires : goal.index_keys-requires
index_keys-requires c = record { empty = subst AreEmpty (sym c.loop-def.invariant) (empty-tables c.loop-def.yielded) }
