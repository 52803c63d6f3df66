use Rattle.std.proofs.Common.{◌∙◌, ap, sym, length}
use Rattle.psm_segstack.proofs.Filled.{length-joined}
use Rattle.psm_segstack.proofs.stack.SegStack.len.Goals as goal

pub returns : goal.returns
returns g c = sym (length-joined c.self.inside.segments.items c.self.inside.len c.self.invariant.0) ∙ ap (λ s. length s.items) c.self.view_is
