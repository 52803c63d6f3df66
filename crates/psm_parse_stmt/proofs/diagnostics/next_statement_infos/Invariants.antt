use Rattle.std.proofs.Common.{◌-◌}
use Rattle.psm_tree.specs.StatementGrammar.{next_statement_info}
use Rattle.psm_tree.specs.Readers.{Repeating}
use Rattle.psm_parse_stmt.proofs.diagnostics.next_statement_infos.Given as goal

abbrev pub invariant-loop-turn : goal.invariant-loop-turn
invariant-loop-turn l = Repeating l.levels next_statement_info l.initial.tokens.rest.now l.informations.items (l._turn-end - l._turn) l.tokens.rest.now
