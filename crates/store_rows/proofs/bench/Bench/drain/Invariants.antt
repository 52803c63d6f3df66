use Rattle.store_rows.specs.Bench.{IsBench}
use Rattle.store_rows.proofs.bench.Bench.drain.Given as goal

abbrev pub invariant-drain : goal.invariant-drain
invariant-drain g l = IsBench (g.S.Store.tables l.self.store) (g.S.Store.marks l.self.store) (g.S.Store.holds l.self.store) l.self.marks.items
