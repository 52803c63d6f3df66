use Rattle.psm_machine.proofs.Arguments.{passed_in, takes_one}
use Rattle.psm_machine.proofs.calls.passed.Goals as goal

pub returns-in-Some : goal.returns-in-Some
returns-in-Some c = λ m.
    passed_in c.args.parameter.now.mode c.args.parameter.now.kind c.in-Some.value c.args.arguments.now.items c.pop.new.self.items m c.stored.result (takes_one c.args.parameter.now.mode c.in-In.is) c.in-Some.ensures.items (c.stored.ensures m)
