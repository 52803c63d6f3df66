-- Lines in place of labels, at one line after another.
use Rattle.std.proofs.Common.{arith, ◌≡◌, ◌<◌, ◌≤◌, ℕ, zero, suc, List, [], ◌∷◌, length, map, get_or, set, Option, Some, None, ap, refl, sym, ◌∙◌}
use Rattle.std.specs.Prelude.{option_map, slice_get}
use Rattle.psm_code.specs.declared.instruction.Instruction.{Instruction}
use Rattle.psm_code.specs.declared.lines.CodeLine.{CodeLine}
use Rattle.psm_code.specs.Numbered.{with_instruction_at, with_resume_at}
use Rattle.psm_exprgen.specs.Labels.{instead, patched_line}
use Rattle.psm_codegen.specs.Patching.{map_from, perhaps_patch, with_patched_instruction, with_patched_resume}

abbrev inside_or : {A : Type 0} → Option A → A → A
inside_or None a = a
inside_or (Some b) a = b

-- ---- one line

pub resume_patched : (σ : ℕ → ℕ) (lines : List CodeLine) (at label line : ℕ) → Some (Some label) ≡ option_map (λ l. l.resume) (slice_get lines at) → line ≡ σ label → with_resume_at lines at (Some line) ≡ with_patched_resume σ at lines
resume_patched σ [] at label line h e = absurd (cc)
resume_patched σ (l ∷ lines) zero label line h e =
    let one : Some label ≡ l.resume = ap (λ o. inside_or o None) h in
    ap (λ r. record l { resume = r } ∷ lines) (ap Some e ∙ ap (option_map σ) one)
resume_patched σ (l ∷ lines) (suc at) label line h e = ap (λ ls. l ∷ ls) (resume_patched σ lines at label line h e)

pub resume_unset : (σ : ℕ → ℕ) (lines : List CodeLine) (at : ℕ) → Some None ≡ option_map (λ l. l.resume) (slice_get lines at) → lines ≡ with_patched_resume σ at lines
resume_unset σ [] at h = refl
resume_unset σ (l ∷ lines) zero h =
    let one : None ≡ l.resume = ap (λ o. inside_or o None) h in
    ap (λ r. record l { resume = r } ∷ lines) (sym one ∙ ap (option_map σ) one)
resume_unset σ (l ∷ lines) (suc at) h = ap (λ ls. l ∷ ls) (resume_unset σ lines at h)

pub resume_beyond : (σ : ℕ → ℕ) (lines : List CodeLine) (at : ℕ) → None ≡ option_map (λ l. l.resume) (slice_get lines at) → lines ≡ with_patched_resume σ at lines
resume_beyond σ [] at h = refl
resume_beyond σ (l ∷ lines) zero h = absurd (cc)
resume_beyond σ (l ∷ lines) (suc at) h = ap (λ ls. l ∷ ls) (resume_beyond σ lines at h)

pub instruction_patched : (σ : ℕ → ℕ) (lines : List CodeLine) (at : ℕ) (i : Instruction) → Some i ≡ perhaps_patch σ (option_map (λ l. l.instruction) (slice_get lines at)) → with_instruction_at lines at i ≡ with_patched_instruction σ at lines
instruction_patched σ [] at i h = absurd (cc)
instruction_patched σ (l ∷ lines) zero i h = ap (λ o. record l { instruction = instead l.instruction o } ∷ lines) h
instruction_patched σ (l ∷ lines) (suc at) i h = ap (λ ls. l ∷ ls) (instruction_patched σ lines at i h)

pub instruction_kept : (σ : ℕ → ℕ) (lines : List CodeLine) (at : ℕ) → None ≡ perhaps_patch σ (option_map (λ l. l.instruction) (slice_get lines at)) → lines ≡ with_patched_instruction σ at lines
instruction_kept σ [] at h = refl
instruction_kept σ (l ∷ lines) zero h = ap (λ o. record l { instruction = instead l.instruction o } ∷ lines) h
instruction_kept σ (l ∷ lines) (suc at) h = ap (λ ls. l ∷ ls) (instruction_kept σ lines at h)

-- ---- all lines

pub lines_next : (σ : ℕ → ℕ) (at : ℕ) (lines : List CodeLine) → map_from (patched_line σ) at lines ≡ map_from (patched_line σ) (suc at) (with_patched_instruction σ at (with_patched_resume σ at lines))
lines_next σ zero [] = refl
lines_next σ (suc at) [] = refl
lines_next σ zero (l ∷ lines) = refl
lines_next σ (suc at) (l ∷ lines) = ap (λ ls. l ∷ ls) (lines_next σ at lines)

pub lines_length : (σ : ℕ → ℕ) (at : ℕ) (lines : List CodeLine) → length (with_patched_instruction σ at (with_patched_resume σ at lines)) ≡ length lines
lines_length σ zero [] = refl
lines_length σ (suc at) [] = refl
lines_length σ zero (l ∷ lines) = refl
lines_length σ (suc at) (l ∷ lines) = ap suc (lines_length σ at lines)

pub map_from_none : {A : Type 0} (f : A → A) (n : ℕ) (xs : List A) → length xs ≤ n → map_from f n xs ≡ xs
map_from_none f zero [] h = refl
map_from_none f (suc n) [] h = refl
map_from_none f zero (x ∷ xs) h = absurd (omega (arith, h))
map_from_none f (suc n) (x ∷ xs) h = ap (λ ys. x ∷ ys) (map_from_none f n xs (omega (arith, h)))

pub map_from_next : {A : Type 0} (f : A → A) (n : ℕ) (xs : List A) (x y : A) → n < length xs → x ≡ get_or xs n x → y ≡ f x → map_from f n xs ≡ map_from f (suc n) (set xs n y)
map_from_next f n [] x y h e p = absurd (omega (arith, h))
map_from_next f zero (z ∷ xs) x y h e p = ap (λ k. k ∷ map f xs) (sym (p ∙ ap f e))
map_from_next f (suc n) (z ∷ xs) x y h e p = ap (λ ys. z ∷ ys) (map_from_next f n xs x y (omega (arith, h)) e p)
