use Rattle.std.proofs.Common.{sym, subst}
use Rattle.psm_table.specs.Keyed.{defs_in, IsKeyOf}
use Rattle.psm_row_changes.specs.KeyTests.{IsSought}
use Rattle.psm_row_changes.proofs.Matching.{matched_more}
use Rattle.psm_row_changes.proofs.seeking.seek.Goals as goal

pub sought_by-requires-clause-key : goal.sought_by-requires-clause-key
sought_by-requires-clause-key g c = subst (IsKeyOf (defs_in (g.S.Store.tables c.args.store.now))) (sym c.key-item.is) (c.requires.constraints c.loop-key.key-index c.key-item.result c.loop-key-test.true)

pub loop-key-preserved : goal.loop-key-preserved
loop-key-preserved g c =
    matched_more (IsSought (g.S.Store.tables c.args.store.now) c.args.t c.args.keys.now c.args.rows.now) c.args.constraints.now c.loop-key.sought.items c.push.new.self.items c.loop-key.key-index c.key-item.result c.in_ok-sought_by.field-0
    c.loop-key-test.true c.key-item.is c.loop-key.invariant c.in_ok-sought_by.ensures c.in_ok-push.ensures.items
