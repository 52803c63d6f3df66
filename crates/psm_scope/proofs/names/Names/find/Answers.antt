use Rattle.psm_scope.proofs.Named.{index_absent, index_present}
use Rattle.psm_scope.proofs.names.Names.find.Goals as goal

pub returns-in-None : goal.returns-in-None
returns-in-None g c = index_absent c.args.name.now c.self.inside.known.entries c.args.self.now c.self.view_is c.in-None.ensures.index

pub returns-in-Some : goal.returns-in-Some
returns-in-Some g c =
    index_present c.args.name.now c.self.inside.known.entries c.args.self.now c.self.view_is c.in-Some.index c.in-Some.known.now
    c.in-Some.ensures.index c.in-Some.ensures.value
