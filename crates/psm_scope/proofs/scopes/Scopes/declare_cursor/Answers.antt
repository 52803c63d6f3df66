use Rattle.std.proofs.Common.{◌∙◌}
use Rattle.psm_scope.specs.KeptScopes.{the_cursors}
use Rattle.psm_scope.proofs.Inward.{declares_inside}
use Rattle.psm_scope.proofs.scopes.Scopes.declare_cursor.Goals as goal

pub returns : goal.returns
returns g c =
    declares_inside the_cursors c.args.name.now c.args.known c.self.inside.scopes.items c.args.self.now c.len-innermost.result
    c.index_mut.result.now c.declare_cursor.new.self c.declare_cursor.result c.self.view_is c.requires (c.len-innermost.ensures ∙ c.self.inside.scopes.ok.0) c.index_mut.ensures.value c.declare_cursor.ensures
