use Rattle.std.proofs.Common.{◌≡◌, [], drop}
use Rattle.psm_words.specs.Reading.{letters_on}
use Rattle.psm_words.proofs.stacks.letters.Given as goal

abbrev pub invariant-loop-at : goal.invariant-loop-at
invariant-loop-at l = letters_on l.letters.items (drop l.at l.text) ≡ letters_on [] l.text
