use Rattle.std.proofs.Common.{sym, subst}
use Rattle.store_rows.specs.Bench.{IsBench}
use Rattle.store_rows.proofs.Benches.{opened}
use Rattle.store_rows.proofs.bench.Bench.mark.Goals as goal

pub returns-in-Ok : goal.returns-in-Ok
returns-in-Ok g c =
    subst (IsBench (g.S.Store.tables c.mark.new.self) (g.S.Store.marks c.mark.new.self) (g.S.Store.holds c.mark.new.self)) (sym c.in-Ok.ensures.items) (
    opened (g.S.Store.tables c.args.self.now.store) (g.S.Store.tables c.mark.new.self) (g.S.Store.marks c.args.self.now.store) (g.S.Store.marks c.mark.new.self)
    (g.S.Store.holds c.args.self.now.store) (g.S.Store.holds c.mark.new.self) (g.S.Store.at c.args.self.now.store) (g.S.Store.at c.mark.new.self)
    c.args.self.now.marks.items c.in_ok-mark.mark c.requires.bench c.in_ok-mark.ensures.tables c.in_ok-mark.ensures.marks c.in_ok-mark.ensures.mark c.in_ok-mark.ensures.keeps
    )
