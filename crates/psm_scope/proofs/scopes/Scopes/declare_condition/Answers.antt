use Rattle.std.proofs.Common.{◌∙◌}
use Rattle.psm_scope.specs.KeptScopes.{the_conditions}
use Rattle.psm_scope.proofs.Inward.{declares_inside}
use Rattle.psm_scope.proofs.scopes.Scopes.declare_condition.Goals as goal

pub returns : goal.returns
returns g c =
    declares_inside the_conditions c.args.name.now (record { number = c.args.number; state = c.args.state }) c.self.inside.scopes.items c.args.self.now c.len-innermost.result
    c.index_mut.result.now c.declare_condition.new.self c.declare_condition.result c.self.view_is c.requires (c.len-innermost.ensures ∙ c.self.inside.scopes.ok.0) c.index_mut.ensures.value c.declare_condition.ensures
