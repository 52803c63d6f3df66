use Rattle.std.proofs.Common.{reverse, arith}
use Rattle.psm_machine.proofs.Arguments.{entered_stops, seen}
use Rattle.psm_machine.proofs.calls.entered.Goals as goal

pub returns-in_err-passed-clause-expected : goal.returns-in_err-passed-clause-expected
returns-in_err-passed-clause-expected c = λ m.
    rw (c.loop-parameter.invariant.expected m)
    (seen _ _ _ c.in_err-passed.field-0.0 c.from_residual.result c.from_residual.ensures.1
    (entered_stops c.args.parameters.now c.loop-parameter.parameter-index c.parameter-item.result c.loop-parameter.values.items (reverse c.loop-parameter.arguments.items) m m c.in_err-passed.field-0.0
    (omega (arith, c.loop-parameter-test.true)) c.parameter-item.is (c.in_err-passed.ensures m)))
