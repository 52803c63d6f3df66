use Rattle.std.proofs.Common.{arith}
use Rattle.psm_code.specs.Parts.{given_back}
use Rattle.psm_machine.proofs.Leavings.{given_all, given_most}
use Rattle.psm_machine.proofs.ends.given_back.Goals.{then-loop-at-test+else-at-variables, else-loop-at-test}
use Rattle.psm_machine.proofs.ends.given_back.Goals as goal

pub returns : goal.returns
returns c = elim c.loop-at-test.branch [
  | then-loop-at-test+else-at-variables w ↦
      given_most c.args.parameters.now c.args.variables.now c.loop-at.at c.loop-at.values.items (given_back c.args.parameters.now c.args.variables.now) (omega (arith, w.if-at-variables.false)) c.loop-at.invariant
  | else-loop-at-test w ↦
      given_all c.args.parameters.now c.args.variables.now c.loop-at.at c.loop-at.values.items (given_back c.args.parameters.now c.args.variables.now) (omega (arith, w.loop-at-test.false)) c.loop-at.invariant
]
