use Rattle.std.proofs.Common.{sym, subst}
use Rattle.psm_table.specs.Keyed.{defs_in, IsKeyOf}
use Rattle.psm_row_changes.proofs.lookups.refer_early.Goals as goal

pub refer_by-requires-clause-key : goal.refer_by-requires-clause-key
refer_by-requires-clause-key g c = subst (IsKeyOf (defs_in (g.S.Store.tables c.args.store.now))) (sym c.key-item.is) (c.requires.constraints c.loop-key.key-index c.key-item.result c.loop-key-test.true)
