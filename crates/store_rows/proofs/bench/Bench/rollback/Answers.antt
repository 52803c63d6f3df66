use Rattle.std.proofs.Common.{◌∙◌, ap, arith, sym, subst, Some}
use Rattle.std.proofs.lemmas.Option.{slice_get-get_or}
use Rattle.store_rows.specs.Bench.{IsBench}
use Rattle.store_rows.proofs.Benches.{rolled}
use Rattle.store_rows.proofs.bench.Bench.rollback.Goals as goal

pub returns : goal.returns
returns g c =
    subst (IsBench (g.S.Store.tables c.rollback.new.self) (g.S.Store.marks c.rollback.new.self) (g.S.Store.holds c.rollback.new.self)) (sym c.truncate.ensures.items) (
    rolled (g.S.Store.tables c.args.self.now.store) (g.S.Store.tables c.rollback.new.self) (g.S.Store.marks c.args.self.now.store) (g.S.Store.marks c.rollback.new.self)
    (g.S.Store.holds c.args.self.now.store) (g.S.Store.holds c.rollback.new.self) (g.S.Store.at c.args.self.now.store) (g.S.Store.at c.rollback.new.self)
    c.args.self.now.marks.items c.args.depth c.index.result.now c.requires.bench
    (slice_get-get_or c.args.self.now.marks.items c.args.depth c.index.result.now (omega (arith, c.if-place-len.false, c.len.ensures)) ∙ ap Some (sym c.index.ensures))
    c.rollback.ensures.defs c.rollback.ensures.marks c.rollback.ensures.held c.rollback.ensures.keeps
    )
