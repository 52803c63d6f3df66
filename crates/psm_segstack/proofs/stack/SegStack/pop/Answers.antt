use Rattle.std.proofs.Common.{◌-◌, ◌/◌, arith}
use Rattle.std.proofs.lemmas.List.{length-set}
use Rattle.psm_segstack.proofs.Stacks.{Popped, popped, item_within, nothing}
use Rattle.psm_segstack.proofs.stack.SegStack.pop.Goals as goal

pub returns-then-self-eq0-clause-none : goal.returns-then-self-eq0-clause-none
returns-then-self-eq0-clause-none g c =
    nothing c.self.inside.segments.items c.self.inside.len c.args.self.now c.self.invariant.0 c.self.view_is (omega (arith, c.if-self-eq0.true))

pub index_mut-requires : goal.index_mut-requires
index_mut-requires g c =
    omega (arith, item_within c.self.inside.segments.items c.self.inside.len (c.self.inside.len - 1) c.self.invariant.0 (omega (arith, c.if-self-eq0.false)), c.self.inside.segments.ok.0)

pub invariant_of-self : goal.invariant_of-self
invariant_of-self g c =
    let p : Popped c.self.inside.segments.items (c.self.inside.len - 1) c.args.self.now c.pop.new.self c.pop.result =
    popped c.self.inside.segments.items c.self.inside.len (c.self.inside.len - 1) c.args.self.now c.index_mut.result.now c.pop.new.self c.pop.result c.self.invariant.0 c.self.view_is
    (omega (arith, c.if-self-eq0.false)) c.index_mut.ensures.value c.pop.ensures.items c.pop.ensures.none in (
      p.filled,
      omega (arith, c.self.invariant.1, length-set c.self.inside.segments.items ((c.self.inside.len - 1) / 1024) c.pop.new.self),
    )

pub returns-clause-items : goal.returns-clause-items
returns-clause-items g c =
    let p : Popped c.self.inside.segments.items (c.self.inside.len - 1) c.args.self.now c.pop.new.self c.pop.result =
    popped c.self.inside.segments.items c.self.inside.len (c.self.inside.len - 1) c.args.self.now c.index_mut.result.now c.pop.new.self c.pop.result c.self.invariant.0 c.self.view_is
    (omega (arith, c.if-self-eq0.false)) c.index_mut.ensures.value c.pop.ensures.items c.pop.ensures.none in
    p.items

pub returns-clause-spare : goal.returns-clause-spare
returns-clause-spare g c =
    let p : Popped c.self.inside.segments.items (c.self.inside.len - 1) c.args.self.now c.pop.new.self c.pop.result =
    popped c.self.inside.segments.items c.self.inside.len (c.self.inside.len - 1) c.args.self.now c.index_mut.result.now c.pop.new.self c.pop.result c.self.invariant.0 c.self.view_is
    (omega (arith, c.if-self-eq0.false)) c.index_mut.ensures.value c.pop.ensures.items c.pop.ensures.none in
    p.spare
