use Rattle.std.proofs.Common.{◌∙◌}
use Rattle.psm_scope.proofs.Named.{get_named}
use Rattle.psm_scope.proofs.names.Names.get.Goals as goal

pub returns : goal.returns
returns g c = get_named c.args.name.now c.self.inside.known.entries c.args.self.now c.self.view_is c.copied.result (c.copied.ensures ∙ c.get.ensures.value)
