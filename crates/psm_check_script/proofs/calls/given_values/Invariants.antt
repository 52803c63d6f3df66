use Rattle.std.proofs.Common.{◌≡◌, ◌++◌, drop}
use Rattle.psm_check_script.specs.Commands.{given_values}
use Rattle.psm_check_script.proofs.calls.given_values.Given as goal

abbrev pub invariant-loop-argument : goal.invariant-loop-argument
invariant-loop-argument l = l.values.items ++ given_values (drop l.argument-index l.arguments) ≡ given_values l.arguments
