use Rattle.std.proofs.Common.{◌≡◌, ap, sym, subst, rules}
use Rattle.psm_table.specs.declared.map.Pair.{Pair}
use Rattle.psm_table.specs.Map.{with_pair, AreAscending}
use Rattle.psm_table.specs.Mapped.{Mapped}
use Rattle.psm_table.specs.Runs.{joined}
use Rattle.psm_table.proofs.Pairs.{ascending-with_pair}
use Rattle.psm_table.proofs.map.OrderedMap.insert.Goals as goal

pub invariant_of-self-in-Some-2 : goal.invariant_of-self-in-Some-2
invariant_of-self-in-Some-2 g c =
    let p : Pair g.row.V.Denot = record { key = c.args.key; value = c.args.value } in
    (subst AreAscending (sym c.put.ensures.pairs) (ascending-with_pair p (joined c.self.inside.runs.items) c.self.invariant.0), c.put.ensures.runs, c.put.ensures.empty, λ e. cc)

pub returns-in-Some-clause-ordered : goal.returns-in-Some-clause-ordered
returns-in-Some-clause-ordered g c =
    let p : Pair g.row.V.Denot = record { key = c.args.key; value = c.args.value } in
    let e : c.match-self-put.self.pairs ≡ with_pair p c.args.self.now.pairs = search rules in
    let same : joined c.self.inside.runs.items ≡ c.args.self.now.pairs = ap (λ (m : Mapped g.row.V.Denot). m.pairs) c.self.view_is in
    subst AreAscending (sym e) (ascending-with_pair p c.args.self.now.pairs (subst AreAscending same c.self.invariant.0))
