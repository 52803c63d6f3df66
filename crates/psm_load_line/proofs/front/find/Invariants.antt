use Rattle.std.proofs.Common.{◌≡◌, map}
use Rattle.psm_load_line.specs.Readers.{chosen}
use Rattle.psm_load_line.proofs.Entries.{left, shown}
use Rattle.psm_load_line.proofs.front.find.Given as goal

abbrev pub invariant-loop-name : goal.invariant-loop-name
invariant-loop-name g l = chosen (map shown l.entries) l.word ≡ left l.entries l.word l.name-index
