use Rattle.std.proofs.Common.{◌≡◌, ◌++◌, map, take}
use Rattle.psm_words.specs.Words.{letter_byte}
use Rattle.psm_words.proofs.stacks.put_each.Given as goal

abbrev pub invariant-loop-letter : goal.invariant-loop-letter
invariant-loop-letter l = l.out.items ≡ l.initial.out.items ++ map letter_byte (take l.letter-index l.letters)
