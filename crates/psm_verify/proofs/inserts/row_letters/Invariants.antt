use Rattle.std.proofs.Common.{◌≡◌, length}
use Rattle.psm_code.specs.Instructions.{letters_at}
use Rattle.psm_verify.specs.Moves.{prepend}
use Rattle.psm_verify.proofs.inserts.row_letters.Given as goal

abbrev pub invariant-loop-column : goal.invariant-loop-column
invariant-loop-column l = prepend l.row.items (letters_at l.letters l.rest) ≡ letters_at l.letters l.columns

abbrev pub decreases-loop-column : goal.decreases-loop-column
decreases-loop-column l = length l.rest
