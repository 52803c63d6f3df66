use Rattle.std.proofs.Common.{◌-◌}
use Rattle.psm_tree.specs.FileGrammar.{next_row}
use Rattle.psm_tree.specs.Readers.{Repeating}
use Rattle.psm_parse_file.proofs.insert.next_rows.Given as goal

abbrev pub invariant-loop-turn : goal.invariant-loop-turn
invariant-loop-turn l = Repeating l.levels next_row l.initial.tokens.rest.now l.rows.items (l._turn-end - l._turn) l.tokens.rest.now
