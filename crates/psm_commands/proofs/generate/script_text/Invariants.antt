use Rattle.std.proofs.Common.{◌≡◌}
use Rattle.psm_commands.specs.Generated.{generated_calls}
use Rattle.psm_commands.proofs.generate.script_text.Given as goal

abbrev pub invariant-loop-call : goal.invariant-loop-call
invariant-loop-call l = l.text.items ≡ generated_calls l.call
