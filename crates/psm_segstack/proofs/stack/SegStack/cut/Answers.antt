use Rattle.std.proofs.Common.{◌∙◌, arith, sym}
use Rattle.std.proofs.lemmas.List.{take_all}
use Rattle.psm_segstack.proofs.Stacks.{Shortened, counted, shortened}
use Rattle.psm_segstack.proofs.stack.SegStack.cut.Goals as goal

pub loop-self-preserved-in-loop-self : goal.loop-self-preserved-in-loop-self
loop-self-preserved-in-loop-self g c =
    let s : Shortened c.args.len c.loop-self.self c.pop.new.self =
    shortened c.args.len c.loop-self.self c.pop.new.self c.pop.result c.pop.ensures.items c.pop.ensures.spare c.pop.ensures.none
    (omega (arith, c.loop-self-test.true, counted c.self.inside.segments.items c.self.inside.len c.loop-self.self c.self.invariant.0 c.self.view_is)) in
    (s.kept ∙ c.loop-self.invariant.0, s.room ∙ c.loop-self.invariant.1)

pub loop-self-smaller : goal.loop-self-smaller
loop-self-smaller g c =
    let s : Shortened c.args.len c.loop-self.self c.pop.new.self =
    shortened c.args.len c.loop-self.self c.pop.new.self c.pop.result c.pop.ensures.items c.pop.ensures.spare c.pop.ensures.none
    (omega (arith, c.loop-self-test.true, counted c.self.inside.segments.items c.self.inside.len c.loop-self.self c.self.invariant.0 c.self.view_is)) in
    s.shorter

pub returns-clause-items : goal.returns-clause-items
returns-clause-items g c =
    sym (take_all c.args.len c.loop-self.self.items
    (omega (arith, c.loop-self-test.false, counted c.self.inside.segments.items c.self.inside.len c.loop-self.self c.self.invariant.0 c.self.view_is)))
    ∙ c.loop-self.invariant.0
