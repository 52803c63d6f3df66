use Rattle.std.proofs.Common.{◌-◌}
use Rattle.psm_tree.specs.StatementGrammar.{next_handler_value}
use Rattle.psm_tree.specs.Readers.{Repeating}
use Rattle.psm_parse_stmt.proofs.declaration.next_handler_values.Given as goal

abbrev pub invariant-loop-turn : goal.invariant-loop-turn
invariant-loop-turn l = Repeating l.levels next_handler_value l.initial.tokens.rest.now l.values.items (l._turn-end - l._turn) l.tokens.rest.now
