use Rattle.std.proofs.Common.{◌-◌}
use Rattle.psm_tree.specs.StatementGrammar.{next_column_order}
use Rattle.psm_tree.specs.Readers.{Repeating}
use Rattle.psm_parse_stmt.proofs.parts.next_column_orders.Given as goal

abbrev pub invariant-loop-turn : goal.invariant-loop-turn
invariant-loop-turn l = Repeating l.levels next_column_order l.initial.tokens.rest.now l.columns.items (l._turn-end - l._turn) l.tokens.rest.now
