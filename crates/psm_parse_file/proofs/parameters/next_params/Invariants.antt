use Rattle.std.proofs.Common.{◌-◌}
use Rattle.psm_tree.specs.FileGrammar.{next_param}
use Rattle.psm_tree.specs.Readers.{Repeating}
use Rattle.psm_parse_file.proofs.parameters.next_params.Given as goal

abbrev pub invariant-loop-turn : goal.invariant-loop-turn
invariant-loop-turn l = Repeating l.levels next_param l.initial.tokens.rest.now l.parameters.items (l._turn-end - l._turn) l.tokens.rest.now
