use Rattle.psm_scope.proofs.Named.{known_there, none_known, index_known, index_within}
use Rattle.psm_scope.proofs.names.Names.lent.Goals as goal

pub at-requires : goal.at-requires
at-requires g c = index_within c.args.name.now c.args.self.now c.in-Some.index c.in-Some.ensures

pub returns-in-Some : goal.returns-in-Some
returns-in-Some g c =
    known_there c.args.name.now c.args.self.now c.in-Some.index c.at.result.now
    (index_known c.args.name.now c.args.self.now c.in-Some.index c.in-Some.ensures c.at.result.now c.at.ensures)

pub returns-in-None : goal.returns-in-None
returns-in-None g c = none_known c.args.name.now c.args.self.now c.in-None.ensures
