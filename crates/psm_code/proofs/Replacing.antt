-- Another instruction, or another line to go on at, at a line.
use Rattle.std.proofs.Common.{◌≡◌, ℕ, zero, suc, ◌<◌, ◌≤◌, List, [], ◌∷◌, length, get_or, set, refl, ap, arith, Option}
use Rattle.std.proofs.lemmas.List.Elements.{All-set}
use Rattle.psm_exprcode.specs.declared.op.Letter.{Letter}
use Rattle.psm_code.specs.declared.instruction.Instruction.{Instruction}
use Rattle.psm_code.specs.declared.lines.NumberedLine.{NumberedLine}
use Rattle.psm_code.specs.Numbered.{line_of, lines_of, with_instruction_at, with_resume_at, AreStatedIn}
use Rattle.psm_code.proofs.Kept.{stated_there}

pub instruction_set : (stacks : List (List Letter)) (lines : List NumberedLine) (at : ℕ) (i : Instruction) (l : NumberedLine) → at < length lines → l ≡ get_or lines at l
    → lines_of stacks (set lines at (record { context = l.context; resume = l.resume; stack = l.stack; instruction = i })) ≡ with_instruction_at (lines_of stacks lines) at i
instruction_set stacks [] at i l h e = absurd (omega (arith, h))
instruction_set stacks (x ∷ lines) zero i l h e = ap (λ y. line_of stacks (record { context = y.context; resume = y.resume; stack = y.stack; instruction = i }) ∷ lines_of stacks lines) e
instruction_set stacks (x ∷ lines) (suc at) i l h e = ap (λ ls. line_of stacks x ∷ ls) (instruction_set stacks lines at i l (omega (arith, h)) e)

pub beyond : (stacks : List (List Letter)) (lines : List NumberedLine) (at : ℕ) (i : Instruction) → length lines ≤ at → with_instruction_at (lines_of stacks lines) at i ≡ lines_of stacks lines
beyond stacks [] at i h = refl
beyond stacks (x ∷ lines) zero i h = absurd (omega (arith, h))
beyond stacks (x ∷ lines) (suc at) i h = ap (λ ls. line_of stacks x ∷ ls) (beyond stacks lines at i (omega (arith, h)))

pub resume_set : (stacks : List (List Letter)) (lines : List NumberedLine) (at : ℕ) (r : Option ℕ) (l : NumberedLine) → at < length lines → l ≡ get_or lines at l
    → lines_of stacks (set lines at (record { context = l.context; resume = r; stack = l.stack; instruction = l.instruction })) ≡ with_resume_at (lines_of stacks lines) at r
resume_set stacks [] at r l h e = absurd (omega (arith, h))
resume_set stacks (x ∷ lines) zero r l h e = ap (λ y. line_of stacks (record { context = y.context; resume = r; stack = y.stack; instruction = y.instruction }) ∷ lines_of stacks lines) e
resume_set stacks (x ∷ lines) (suc at) r l h e = ap (λ ls. line_of stacks x ∷ ls) (resume_set stacks lines at r l (omega (arith, h)) e)

pub resume_beyond : (stacks : List (List Letter)) (lines : List NumberedLine) (at : ℕ) (r : Option ℕ) → length lines ≤ at → with_resume_at (lines_of stacks lines) at r ≡ lines_of stacks lines
resume_beyond stacks [] at r h = refl
resume_beyond stacks (x ∷ lines) zero r h = absurd (omega (arith, h))
resume_beyond stacks (x ∷ lines) (suc at) r h = ap (λ ls. line_of stacks x ∷ ls) (resume_beyond stacks lines at r (omega (arith, h)))

pub stated_set : (stacks : List (List Letter)) (lines : List NumberedLine) (at : ℕ) (n : NumberedLine) (l : NumberedLine) → at < length lines → l ≡ get_or lines at l → n.stack ≡ l.stack → AreStatedIn stacks lines
    → AreStatedIn stacks (set lines at n)
stated_set stacks lines at n l h e same k =
    let P : NumberedLine → Type 0 = λ x. x.stack < length stacks in
    let there : n.stack < length stacks = omega (arith, same, stated_there stacks lines at l k h e) in
    All-set P lines at n there k
