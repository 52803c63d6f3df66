use Rattle.store_rows.specs.Bench.{IsBench}
use Rattle.store_rows.proofs.bench.Bench.fill.Given as goal

abbrev pub invariant-fill : goal.invariant-fill
invariant-fill g l = IsBench (g.S.Store.tables l.self.store) (g.S.Store.marks l.self.store) (g.S.Store.holds l.self.store) l.self.marks.items
