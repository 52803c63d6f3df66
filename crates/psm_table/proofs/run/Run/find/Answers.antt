use Rattle.std.proofs.Common.{◌≡◌, ap, sym, subst, ◌∙◌, arith, get_or, ◌+◌, ◌-◌, ◌/◌}
use Rattle.psm_table.specs.Key.{key_order}
use Rattle.psm_table.specs.Map.{AreAscending}
use Rattle.psm_table.specs.PairPosition.{probe_key}
use Rattle.psm_table.proofs.Searches.{between_less, between_greater, is_at, is_gap}
use Rattle.psm_table.proofs.run.Run.find.Goals as goal

pub loop-low-preserved-in-Less : goal.loop-low-preserved-in-Less
loop-low-preserved-in-Less g c =
    let same : c.self.inside.pairs.items ≡ c.args.self.now = c.self.view_is in
    between_less (probe_key c.args.probe) c.args.self.now (subst AreAscending same c.self.invariant.0) c.loop-low.low c.loop-low.high
    (c.loop-low.low + (c.loop-low.high - c.loop-low.low) / 2) c.index.result.now c.loop-low.invariant (omega arith) (omega arith)
    (subst (λ l. c.index.result.now ≡ get_or l (c.loop-low.low + (c.loop-low.high - c.loop-low.low) / 2) c.index.result.now) same c.index.ensures)
    (ap (key_order c.index.result.now.key) (sym c.narrowed-sought.ensures.key) ∙ sym c.in-Less.ensures)

pub loop-low-preserved : goal.loop-low-preserved
loop-low-preserved g c =
    let same : c.self.inside.pairs.items ≡ c.args.self.now = c.self.view_is in
    between_greater (probe_key c.args.probe) c.args.self.now (subst AreAscending same c.self.invariant.0) c.loop-low.low c.loop-low.high
    (c.loop-low.low + (c.loop-low.high - c.loop-low.low) / 2) c.index.result.now c.loop-low.invariant (omega arith) (omega arith)
    (subst (λ l. c.index.result.now ≡ get_or l (c.loop-low.low + (c.loop-low.high - c.loop-low.low) / 2) c.index.result.now) same c.index.ensures)
    (ap (key_order c.index.result.now.key) (sym c.narrowed-sought.ensures.key) ∙ sym c.in-Greater.ensures)

pub returns-in-Equal-clause-found : goal.returns-in-Equal-clause-found
returns-in-Equal-clause-found g c =
    let same : c.self.inside.pairs.items ≡ c.args.self.now = c.self.view_is in
    is_at (probe_key c.args.probe) c.args.self.now (subst AreAscending same c.self.invariant.0)
    (c.loop-low.low + (c.loop-low.high - c.loop-low.low) / 2) c.index.result.now (omega (arith, c.loop-low.invariant.bound))
    (subst (λ l. c.index.result.now ≡ get_or l (c.loop-low.low + (c.loop-low.high - c.loop-low.low) / 2) c.index.result.now) same c.index.ensures)
    (ap (key_order c.index.result.now.key) (sym c.narrowed-sought.ensures.key) ∙ sym c.in-Equal.ensures)

pub returns-clause-absent : goal.returns-clause-absent
returns-clause-absent g c =
    let same : c.self.inside.pairs.items ≡ c.args.self.now = c.self.view_is in
    is_gap (probe_key c.args.probe) c.args.self.now (subst AreAscending same c.self.invariant.0) c.loop-low.low c.loop-low.high
    c.loop-low.invariant c.loop-low-test.false
