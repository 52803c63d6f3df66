use Rattle.std.proofs.Common.{◌∙◌, sym, arith}
use Rattle.psm_segstack.proofs.Stacks.{got, got_none, item_within}
use Rattle.psm_segstack.proofs.stack.SegStack.get.Goals as goal

pub returns-then-at-self : goal.returns-then-at-self
returns-then-at-self g c =
    sym (got_none c.self.inside.segments.items c.self.inside.len c.args.at c.args.self.now c.self.invariant.0 c.self.view_is (omega (arith, c.if-at-self.true)))

pub index-requires : goal.index-requires
index-requires g c =
    omega (arith, item_within c.self.inside.segments.items c.self.inside.len c.args.at c.self.invariant.0 (omega (arith, c.if-at-self.false)), c.self.inside.segments.ok.0)

pub returns : goal.returns
returns g c =
    c.get.ensures
    ∙ got c.self.inside.segments.items c.self.inside.len c.args.at c.args.self.now c.index.result.now c.self.invariant.0 c.self.view_is
    (omega (arith, c.if-at-self.false)) c.index.ensures
