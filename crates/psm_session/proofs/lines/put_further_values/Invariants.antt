use Rattle.std.proofs.Common.{◌≡◌, ◌++◌, drop}
use Rattle.psm_meaning.specs.Lines.{further_values}
use Rattle.psm_session.proofs.lines.put_further_values.Given as goal

abbrev pub invariant-loop-value : goal.invariant-loop-value
invariant-loop-value l = l.out.items ++ further_values (drop l.value-index l.row) ≡ l.fn.out.items ++ further_values l.row
