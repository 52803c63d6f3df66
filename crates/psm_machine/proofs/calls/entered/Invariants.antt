use Rattle.std.proofs.Common.{◌≡◌, length, reverse, drop}
use Rattle.psm_code.specs.Calling.{entered}
use Rattle.psm_code.specs.State.{Machine}
use Rattle.psm_machine.proofs.Arguments.{entered_with}
use Rattle.psm_machine.proofs.calls.entered.Given as goal

abbrev pub invariant-loop-parameter : goal.invariant-loop-parameter
invariant-loop-parameter l = record {
  expected : (m : Machine) → entered l.parameters (reverse l.initial.arguments.items) m ≡ entered_with l.values.items (drop l.parameter-index l.parameters) (reverse l.arguments.items) m;
  long : length l.values.items ≡ l.parameter-index;
}
