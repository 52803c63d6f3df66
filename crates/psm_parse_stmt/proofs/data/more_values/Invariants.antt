use Rattle.std.proofs.Common.{◌-◌}
use Rattle.psm_tree.specs.StatementGrammar.{next_values}
use Rattle.psm_tree.specs.Readers.{Repeating}
use Rattle.psm_parse_stmt.proofs.data.more_values.Given as goal

abbrev pub invariant-loop-turn : goal.invariant-loop-turn
invariant-loop-turn l = Repeating l.levels next_values l.initial.tokens.rest.now l.rows.items (l._turn-end - l._turn) l.tokens.rest.now
