use Rattle.std.proofs.Common.{◌≡◌, ◌++◌, ◌∙◌, ap, sym, subst, arith, take, drop}
use Rattle.std.specs.Prelude.{filter}
use Rattle.std.proofs.lemmas.List.Kept.{AllPairs-filter}
use Rattle.psm_table.specs.Map.{AreAscending}
use Rattle.psm_table.specs.Runs.{head_of}
use Rattle.psm_table.proofs.Pairs.{Rises}
use Rattle.psm_table.proofs.run.Run.retain.Goals as goal

pub invariant_of-self : goal.invariant_of-self
invariant_of-self g c =
    let none : c.loop-left.left ≡ 0 = omega (arith, c.loop-left-test.false) in
    let kept : c.loop-left.self-inside.pairs.items ≡ filter (g.T.Test.passes c.args.test.now) c.self.inside.pairs.items =
    subst (λ n. c.loop-left.self-inside.pairs.items ≡ take n c.self.inside.pairs.items ++ filter (g.T.Test.passes c.args.test.now) (drop n c.self.inside.pairs.items)) none c.loop-left.invariant.1 in
    (subst AreAscending (sym kept) (AllPairs-filter Rises (g.T.Test.passes c.args.test.now) c.self.inside.pairs.items c.self.invariant.0), c.loop-left.invariant.2, c.loop-left.invariant.3, c.head_of-self-inside.ensures ∙ ap head_of c.as_slice.ensures.value)
