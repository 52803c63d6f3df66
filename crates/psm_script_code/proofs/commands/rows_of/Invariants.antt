use Rattle.std.proofs.Common.{◌≡◌}
use Rattle.psm_script_code.proofs.commands.rows_of.Given as goal

abbrev pub invariant-loop-row : goal.invariant-loop-row
invariant-loop-row l = l.made.items ≡ l.yielded
