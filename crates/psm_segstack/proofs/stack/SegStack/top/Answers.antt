use Rattle.std.proofs.Common.{◌∙◌, ◌-◌, ap, sym, arith, length}
use Rattle.std.specs.Prelude.{slice_get}
use Rattle.psm_segstack.proofs.Stacks.{counted, got_none}
use Rattle.psm_segstack.proofs.stack.SegStack.top.Goals as goal

pub returns-then-self-eq0 : goal.returns-then-self-eq0
returns-then-self-eq0 g c =
    sym (got_none c.self.inside.segments.items c.self.inside.len (length c.args.self.now.items - 1) c.args.self.now c.self.invariant.0 c.self.view_is (omega (arith, c.if-self-eq0.true)))

pub returns : goal.returns
returns g c =
    c.get.ensures
    ∙ ap (λ n. slice_get c.args.self.now.items (n - 1)) (counted c.self.inside.segments.items c.self.inside.len c.args.self.now c.self.invariant.0 c.self.view_is)
