use Rattle.std.proofs.Common.{◌-◌}
use Rattle.psm_tree.specs.FileGrammar.{characteristic}
use Rattle.psm_tree.specs.Readers.{Repeating}
use Rattle.psm_parse_file.proofs.characteristics.characteristic_list.Given as goal

abbrev pub invariant-loop-turn : goal.invariant-loop-turn
invariant-loop-turn l = Repeating l.levels characteristic l.initial.tokens.rest.now l.characteristics.items (l._turn-end - l._turn) l.tokens.rest.now
