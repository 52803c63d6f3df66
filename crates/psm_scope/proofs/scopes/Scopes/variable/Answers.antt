use Rattle.std.proofs.Common.{◌∙◌}
use Rattle.psm_scope.proofs.Inward.{variable_found, variable_outer}
use Rattle.psm_scope.proofs.scopes.Scopes.variable.Goals as goal

pub returns-in-Some : goal.returns-in-Some
returns-in-Some g c =
    variable_found c.args.self.now c.loop-depth.depth c.at.result.now c.at.ensures c.args.name.now c.in-Some.found c.in-Some.ensures ∙ c.loop-depth.invariant

pub loop-depth-preserved : goal.loop-depth-preserved
loop-depth-preserved g c =
    variable_outer c.args.self.now c.loop-depth.depth c.at.result.now c.at.ensures c.args.name.now c.in_default.ensures ∙ c.loop-depth.invariant
