use Rattle.std.proofs.Common.{◌≡◌, ◌≤◌, ◌++◌, length, drop}
use Rattle.psm_exprcode.specs.Stacks.{Extends}
use Rattle.psm_exprcode.specs.Writing.{letters_now}
use Rattle.psm_exprcode.proofs.letter_stack.LetterStack.put_all.Given as goal

abbrev pub invariant-loop-left : goal.invariant-loop-left
invariant-loop-left l =
    (l.left ≤ length l.letters) × Extends l.initial.self.stacks l.self.stacks × (letters_now l.self ≡ drop l.left l.letters ++ letters_now l.initial.self)

abbrev pub decreases-loop-left : goal.decreases-loop-left
decreases-loop-left l = l.left
