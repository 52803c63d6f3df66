use Rattle.std.proofs.Common.{◌-◌}
use Rattle.psm_tree.specs.FileGrammar.{next_element}
use Rattle.psm_tree.specs.Readers.{Repeating}
use Rattle.psm_parse_file.proofs.table.next_elements.Given as goal

abbrev pub invariant-loop-turn : goal.invariant-loop-turn
invariant-loop-turn l = Repeating l.levels next_element l.initial.tokens.rest.now l.elements.items (l._turn-end - l._turn) l.tokens.rest.now
