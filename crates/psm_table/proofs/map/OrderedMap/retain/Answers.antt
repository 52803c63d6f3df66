use Rattle.std.proofs.Common.{◌≡◌, ◌-◌, suc, sym, subst, ◌∙◌, arith, drop, true, false}
use Rattle.std.specs.Prelude.{filter}
use Rattle.std.proofs.lemmas.List.Kept.{AllPairs-filter}
use Rattle.psm_table.specs.Map.{AreAscending}
use Rattle.psm_table.specs.Runs.{joined}
use Rattle.psm_table.proofs.Joined.{retained, taken}
use Rattle.psm_table.proofs.Pairs.{Rises}
use Rattle.psm_table.proofs.map.OrderedMap.retain.Goals as goal

pub loop-left-preserved : goal.loop-left-preserved
loop-left-preserved g c =
    let same : c.loop-left.left ≡ suc (c.loop-left.left - 1) = omega (arith, c.loop-left-test.true) in (
      c.retain_at.ensures.inside,
      omega (arith, c.loop-left.invariant.1),
      taken c.loop-left.self-inside.runs.items c.self.inside.runs.items c.retain_at.new.runs.items c.loop-left.left (c.loop-left.left - 1) same c.loop-left.invariant.2 c.retain_at.ensures.before,
      retained (g.T.Test.passes c.args.test) c.loop-left.self-inside.runs.items c.self.inside.runs.items c.retain_at.new.runs.items c.loop-left.left (c.loop-left.left - 1) same
          c.loop-left.invariant.2 c.loop-left.invariant.3 c.loop-left.invariant.1 c.retain_at.ensures.pairs,
      c.retain_at.ensures.runs,
      c.loop-left.invariant.5,
      c.loop-left.invariant.6,
    )

pub invariant_of-self : goal.invariant_of-self
invariant_of-self g c =
    let none : c.loop-left.left ≡ 0 = omega (arith, c.loop-left-test.false) in
    let kept : joined c.loop-left.self-inside.runs.items ≡ filter (g.T.Test.passes c.args.test) (joined c.self.inside.runs.items) =
    subst (λ n. joined (drop n c.loop-left.self-inside.runs.items) ≡ filter (g.T.Test.passes c.args.test) (joined (drop n c.self.inside.runs.items))) none c.loop-left.invariant.3 in (
      subst AreAscending (sym kept) (AllPairs-filter Rises (g.T.Test.passes c.args.test) (joined c.self.inside.runs.items) c.self.invariant.0),
      c.loop-left.invariant.4,
      c.loop-left.invariant.5,
      λ e. absurd (let f : true ≡ false = sym e ∙ c.loop-left.invariant.6 in cc),
    )

pub returns-clause-ordered : goal.returns-clause-ordered
returns-clause-ordered g c =
    let none : c.loop-left.left ≡ 0 = omega (arith, c.loop-left-test.false) in
    let kept : joined c.loop-left.self-inside.runs.items ≡ filter (g.T.Test.passes c.args.test) (joined c.self.inside.runs.items) =
    subst (λ n. joined (drop n c.loop-left.self-inside.runs.items) ≡ filter (g.T.Test.passes c.args.test) (joined (drop n c.self.inside.runs.items))) none c.loop-left.invariant.3 in
    subst AreAscending (sym kept) (AllPairs-filter Rises (g.T.Test.passes c.args.test) (joined c.self.inside.runs.items) c.self.invariant.0)
