use Rattle.std.proofs.Common.{◌≡◌, ◌++◌, length, ap, sym, ◌∙◌, arith}
use Rattle.std.specs.Prelude.{replicate}
use Rattle.psm_value.specs.declared.datum.Datum.TheVariants.{Null}
use Rattle.psm_machine.proofs.Callings.{filled_is}
use Rattle.psm_machine.proofs.calls.filled.Goals as goal

pub returns : goal.returns
returns c =
    let all : c.loop-kind._kind-index ≡ length c.args.routine.now.variables = omega (arith, c.loop-kind-test.false, c.loop-kind.auto._kind-index-end, ap length c.items-kind-items.ensures) in
    c.loop-kind.invariant ∙ ap (λ n. c.args.parameters.items ++ replicate n Null) all ∙ sym (filled_is c.args.routine.now c.args.parameters.items c.requires)
