use Rattle.std.proofs.Common.{sym, subst, arith}
use Rattle.psm_table.specs.Keyed.{defs_in, rows_in, IsKeyOf}
use Rattle.psm_row_changes.specs.KeyTests.{IsDecided}
use Rattle.psm_row_changes.proofs.Matching.{matched-at, matched-length}
use Rattle.psm_row_changes.proofs.lookups.hold_late.Goals as goal

pub bounds-sought-at : goal.bounds-sought-at
bounds-sought-at g c = omega (arith, c.loop-at-test.true, matched-length (IsDecided c.args.t c.args.adds (rows_in (g.S.Store.tables c.args.store.now))) c.args.constraints.now c.args.sought.now c.requires.sought)

pub holds_by-requires-clause-key : goal.holds_by-requires-clause-key
holds_by-requires-clause-key g c =
    subst (IsKeyOf (defs_in (g.S.Store.tables c.args.store.now))) (sym c.index-constraints-at.is) (c.requires.constraints c.loop-at.at c.index-constraints-at.result c.loop-at-test.true)

pub holds_by-requires-clause-sought : goal.holds_by-requires-clause-sought
holds_by-requires-clause-sought g c =
    matched-at (IsDecided c.args.t c.args.adds (rows_in (g.S.Store.tables c.args.store.now))) c.args.constraints.now c.args.sought.now c.loop-at.at c.index-constraints-at.result c.index-sought-at.result
    c.requires.sought c.loop-at-test.true c.index-constraints-at.is c.index-sought-at.is
