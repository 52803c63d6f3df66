-- Another operation at a line.
use Rattle.std.proofs.Common.{◌≡◌, ℕ, zero, suc, ◌<◌, ◌≤◌, List, [], ◌∷◌, length, get_or, set, refl, ap, arith}
use Rattle.std.proofs.lemmas.List.Elements.{All-set}
use Rattle.psm_exprcode.specs.declared.op.Letter.{Letter}
use Rattle.psm_exprcode.specs.declared.op.Op.{Op}
use Rattle.psm_exprcode.specs.declared.raw.NumberedLine.{NumberedLine}
use Rattle.psm_exprcode.specs.Numbered.{lines_of, line_of, with_op_at, AreStatedIn}
use Rattle.psm_exprcode.proofs.Sharing.{stated_there}

pub lines_set : (stacks : List (List Letter)) (lines : List NumberedLine) (at : ℕ) (o : Op) (l : NumberedLine) → at < length lines → l ≡ get_or lines at l
    → lines_of stacks (set lines at (record { stack = l.stack; op = o })) ≡ with_op_at (lines_of stacks lines) at o
lines_set stacks [] at o l h e = absurd (omega (arith, h))
lines_set stacks (x ∷ lines) zero o l h e = ap (λ y. line_of stacks (record { stack = y.stack; op = o }) ∷ lines_of stacks lines) e
lines_set stacks (x ∷ lines) (suc at) o l h e = ap (λ ls. line_of stacks x ∷ ls) (lines_set stacks lines at o l (omega (arith, h)) e)

pub lines_beyond : (stacks : List (List Letter)) (lines : List NumberedLine) (at : ℕ) (o : Op) → length lines ≤ at → with_op_at (lines_of stacks lines) at o ≡ lines_of stacks lines
lines_beyond stacks [] at o h = refl
lines_beyond stacks (x ∷ lines) zero o h = absurd (omega (arith, h))
lines_beyond stacks (x ∷ lines) (suc at) o h = ap (λ ls. line_of stacks x ∷ ls) (lines_beyond stacks lines at o (omega (arith, h)))

pub stated_set : (stacks : List (List Letter)) (lines : List NumberedLine) (at : ℕ) (o : Op) (l : NumberedLine) → at < length lines → l ≡ get_or lines at l → AreStatedIn stacks lines
    → AreStatedIn stacks (set lines at (record { stack = l.stack; op = o }))
stated_set stacks lines at o l h e k =
    let P : NumberedLine → Type 0 = λ x. x.stack < length stacks in
    All-set P lines at (record { stack = l.stack; op = o }) (stated_there stacks lines at l k h e) k
