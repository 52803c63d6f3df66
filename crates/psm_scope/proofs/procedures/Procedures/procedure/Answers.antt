use Rattle.psm_scope.proofs.Headed.{none_headed, some_headed}
use Rattle.psm_scope.proofs.procedures.Procedures.procedure.Goals as goal

pub returns-in-None : goal.returns-in-None
returns-in-None c = none_headed c.args.name.now c.args.count c.self.inside.known.entries c.args.self.now c.self.view_is c.in-None.ensures.found

pub returns-in-Some-get_index : goal.returns-in-Some-get_index
returns-in-Some-get_index c =
    some_headed c.args.name.now c.args.count c.self.inside.known.entries c.args.self.now c.self.view_is
    c.in-Some.index c.in-Some-get_index.field-0-0.now c.in-Some-get_index.known.now c.in-Some-get_index.ensures.entry c.in-Some.ensures.value
