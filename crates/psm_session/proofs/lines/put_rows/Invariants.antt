use Rattle.std.proofs.Common.{◌≡◌, ◌++◌, drop}
use Rattle.psm_meaning.specs.Lines.{row_lines}
use Rattle.psm_session.proofs.lines.put_rows.Given as goal

abbrev pub invariant-loop-row : goal.invariant-loop-row
invariant-loop-row l = l.out.items ++ row_lines (drop l.row-index l.rows) ≡ l.fn.out.items ++ row_lines l.rows
