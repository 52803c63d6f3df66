use Rattle.std.proofs.Common.{◌∙◌}
use Rattle.psm_scope.proofs.Inward.{label_found, label_hidden, label_outer}
use Rattle.psm_scope.proofs.scopes.Scopes.label.Goals as goal

pub returns-then-is_action : goal.returns-then-is_action
returns-then-is_action g c =
    label_hidden c.args.self.now c.loop-depth.depth c.at-scope.result.now c.at-scope.ensures c.args.label.now c.if-is_action.ensures ∙ c.loop-depth.invariant

pub returns-in-Some : goal.returns-in-Some
returns-in-Some g c =
    label_found c.args.self.now c.loop-depth.depth c.at-scope.result.now c.at-scope.ensures c.args.label.now c.in-Some.loops c.if-is_action.ensures c.in-Some.ensures
    ∙ c.loop-depth.invariant

pub loop-depth-preserved : goal.loop-depth-preserved
loop-depth-preserved g c =
    label_outer c.args.self.now c.loop-depth.depth c.at-scope.result.now c.at-scope.ensures c.args.label.now c.if-is_action.ensures c.in_default.ensures
    ∙ c.loop-depth.invariant
