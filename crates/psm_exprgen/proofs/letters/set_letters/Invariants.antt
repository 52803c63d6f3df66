use Rattle.std.proofs.Common.{◌≡◌, take, map}
use Rattle.psm_exprgen.specs.Queries.{letter_of_item}
use Rattle.psm_exprgen.proofs.letters.set_letters.Given as goal

abbrev pub invariant-loop-item : goal.invariant-loop-item
invariant-loop-item l = l.letters.items ≡ map (letter_of_item l.columns l.variables) (take l.item-index l.item-items)
