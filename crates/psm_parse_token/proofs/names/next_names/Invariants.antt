use Rattle.std.proofs.Common.{◌-◌}
use Rattle.psm_tree.specs.ExprGrammar.{next_name}
use Rattle.psm_tree.specs.Readers.{Repeating}
use Rattle.psm_parse_token.proofs.names.next_names.Given as goal

abbrev pub invariant-loop-turn : goal.invariant-loop-turn
invariant-loop-turn l = Repeating l.levels next_name l.initial.tokens.rest.now l.names.items (l._turn-end - l._turn) l.tokens.rest.now
