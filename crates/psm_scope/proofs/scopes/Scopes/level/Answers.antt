use Rattle.std.proofs.Common.{ap, ◌∙◌}
use Rattle.std.specs.Prelude.{Some}
use Rattle.psm_scope.proofs.Inward.{counted, level_found, level_hidden, level_outer}
use Rattle.psm_scope.proofs.scopes.Scopes.level.Goals as goal

pub returns-then-is_action : goal.returns-then-is_action
returns-then-is_action g c =
    level_hidden c.args.self.now c.loop-depth.depth c.at-scope.result.now c.at-scope.ensures c.args.label.now c.if-is_action.ensures ∙ c.loop-depth.invariant

pub loop-depth-preserved : goal.loop-depth-preserved
loop-depth-preserved g c =
    level_outer c.args.self.now c.loop-depth.depth c.at-scope.result.now c.at-scope.ensures c.args.label.now c.if-is_action.ensures c.in_default.ensures
    ∙ c.loop-depth.invariant

pub returns-in-Some : goal.returns-in-Some
returns-in-Some g c =
    ap Some (counted c.args.self.now c.len.result c.loop-depth.depth c.len.ensures)
    ∙ level_found c.args.self.now c.loop-depth.depth c.at-scope.result.now c.at-scope.ensures c.args.label.now c.in-Some._loops c.if-is_action.ensures c.in-Some.ensures
    ∙ c.loop-depth.invariant
