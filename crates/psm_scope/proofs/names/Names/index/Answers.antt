use Rattle.std.proofs.Common.{ap, sym}
use Rattle.std.specs.Option.{option_map}
use Rattle.psm_scope.proofs.Named.{index_absent, index_only}
use Rattle.psm_scope.proofs.names.Names.index.Goals as goal

pub returns-in-None : goal.returns-in-None
returns-in-None g c =
    ap (option_map (λ p. p.0)) (index_absent c.args.name.now c.self.inside.known.entries c.args.self.now c.self.view_is c.in-None.ensures.index)

pub returns-in-Some : goal.returns-in-Some
returns-in-Some g c =
    index_only c.args.name.now c.self.inside.known.entries c.args.self.now c.self.view_is c.in-Some.index c.in-Some.ensures.index (sym c.in-Some.ensures.found)
