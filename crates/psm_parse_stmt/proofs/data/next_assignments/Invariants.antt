use Rattle.std.proofs.Common.{◌-◌}
use Rattle.psm_tree.specs.StatementGrammar.{next_assignment}
use Rattle.psm_tree.specs.Readers.{Repeating}
use Rattle.psm_parse_stmt.proofs.data.next_assignments.Given as goal

abbrev pub invariant-loop-turn : goal.invariant-loop-turn
invariant-loop-turn l = Repeating l.levels next_assignment l.initial.tokens.rest.now l.assignments.items (l._turn-end - l._turn) l.tokens.rest.now
