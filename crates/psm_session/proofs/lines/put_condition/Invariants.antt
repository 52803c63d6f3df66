use Rattle.std.proofs.Common.{◌≡◌, ◌++◌, drop}
use Rattle.std.specs.List.{flat_map}
use Rattle.psm_meaning.specs.Lines.{condition_lines, entry_line}
use Rattle.psm_session.proofs.lines.put_condition.Given as goal

abbrev pub invariant-loop-entry : goal.invariant-loop-entry
invariant-loop-entry l = l.out.items ++ flat_map entry_line (drop l.entry-index l.condition.others) ≡ l.fn.out.items ++ condition_lines l.condition
