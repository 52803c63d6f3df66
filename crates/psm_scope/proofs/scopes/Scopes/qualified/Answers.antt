use Rattle.std.proofs.Common.{◌∙◌, ap}
use Rattle.psm_scope.specs.Lookup.{named_among, variables_called}
use Rattle.std.proofs.Common.{drop, ◌+◌}
use Rattle.psm_scope.proofs.Inward.{called_here, called_outer}
use Rattle.psm_scope.proofs.scopes.Scopes.qualified.Goals as goal

pub returns-then-is_called : goal.returns-then-is_called
returns-then-is_called g c =
    c.variable.ensures
    ∙ ap (named_among c.args.name.now)
    (called_here c.args.self.now c.loop-depth.depth c.at-scope.result.now c.at-scope.ensures c.loop-depth.sees c.args.qualifier.now c.if-is_called.ensures
    ∙ c.loop-depth.invariant)

pub loop-depth-preserved : goal.loop-depth-preserved
loop-depth-preserved g c =
    ap (λ sees. variables_called sees c.args.qualifier.now (drop (c.loop-depth.depth + 1) c.args.self.now)) c.sees_past-sees.ensures
    ∙ called_outer c.args.self.now c.loop-depth.depth c.at-scope.result.now c.at-scope.ensures c.loop-depth.sees c.args.qualifier.now c.if-is_called.ensures
    ∙ c.loop-depth.invariant
