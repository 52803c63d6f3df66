use Rattle.std.proofs.Common.{take}
use Rattle.psm_exprcode.proofs.Sharing.{Putting}
use Rattle.psm_exprcode.proofs.stacks.Stacks.put_all.Given as goal

abbrev pub invariant-loop-letter : goal.invariant-loop-letter
invariant-loop-letter l = Putting l.initial.self l.self l.below l.number (take l.letter-index l.letters)
