use Rattle.std.proofs.Common.{ap}
use Rattle.psm_scope.proofs.Grouped.{found_none, found_some}
use Rattle.psm_scope.proofs.signatures.Signatures.group.Goals as goal

pub returns-in-None : goal.returns-in-None
returns-in-None c =
    found_none c.self.inside.functions.items c.self.inside.index.groups.entries c.args.self.now c.call_key-key.result c.args.name.now c.args.count c.self.invariant.1 c.self.view_is
    (ap (λ n. n.now) c.call_key-key.ensures.name) c.call_key-key.ensures.count c.in-None.ensures.found

pub returns-in-Some-get_index : goal.returns-in-Some-get_index
returns-in-Some-get_index c =
    found_some c.self.inside.functions.items c.self.inside.index.groups.entries c.args.self.now c.call_key-key.result c.args.name.now c.args.count c.self.invariant.1 c.self.view_is
    (ap (λ n. n.now) c.call_key-key.ensures.name) c.call_key-key.ensures.count
    c.in-Some.at c.in-Some-get_index.field-0-0.now c.in-Some-get_index.group.now c.in-Some-get_index.ensures.entry c.in-Some.ensures.value
