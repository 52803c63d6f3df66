use Rattle.std.proofs.Common.{◌-◌}
use Rattle.psm_tree.specs.ExprGrammar.{next_target}
use Rattle.psm_tree.specs.Readers.{Repeating}
use Rattle.psm_parse_token.proofs.names.next_targets.Given as goal

abbrev pub invariant-loop-turn : goal.invariant-loop-turn
invariant-loop-turn l = Repeating l.levels next_target l.initial.tokens.rest.now l.targets.items (l._turn-end - l._turn) l.tokens.rest.now
