use Rattle.std.proofs.Common.{◌≡◌, ◌++◌, drop}
use Rattle.psm_session.specs.Pieces.{value_lines}
use Rattle.psm_session.proofs.lines.put_value_lines.Given as goal

abbrev pub invariant-loop-parameter : goal.invariant-loop-parameter
invariant-loop-parameter l = l.out.items ++ value_lines (drop l.parameter-index l.parameters) l.rest ≡ l.fn.out.items ++ value_lines l.parameters l.values
