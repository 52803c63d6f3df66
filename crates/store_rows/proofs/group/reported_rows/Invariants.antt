use Rattle.store_rows.specs.Alone.{IsAlone}
use Rattle.store_rows.specs.Bench.{IsBench}
use Rattle.store_rows.proofs.group.reported_rows.Given as goal

abbrev pub invariant-rows : goal.invariant-rows
invariant-rows g l =
    IsAlone l.alone.table l.alone.left
    × IsBench (g.S.Store.tables l.copies.store) (g.S.Store.marks l.copies.store) (g.S.Store.holds l.copies.store) l.copies.marks.items
    × IsBench (g.T.Store.tables l.journal.store) (g.T.Store.marks l.journal.store) (g.T.Store.holds l.journal.store) l.journal.marks.items
