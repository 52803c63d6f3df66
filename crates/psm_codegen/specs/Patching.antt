-- Lines in which a line stands in place of a label, at one index or from one on.
use Rattle.std.specs.Prelude.{ℕ, zero, suc, List, [], ◌∷◌, map, Option, Some, None, option_map}
use Rattle.psm_code.specs.declared.instruction.Instruction.{Instruction}
use Rattle.psm_code.specs.declared.lines.CodeLine.{CodeLine}
use Rattle.psm_exprgen.specs.Labels.{patch_of, patched_instruction}

-- what stands in place of an instruction that names a label, if there is one
abbrev pub perhaps_patch : (ℕ → ℕ) → Option Instruction → Option Instruction
perhaps_patch σ None = None
perhaps_patch σ (Some i) = patch_of σ i

-- where there is no such line the lines stay
abbrev pub with_patched_resume : (ℕ → ℕ) → ℕ → List CodeLine → List CodeLine
with_patched_resume σ at [] = []
with_patched_resume σ zero (l ∷ lines) = record l { resume = option_map σ l.resume } ∷ lines
with_patched_resume σ (suc at) (l ∷ lines) = l ∷ with_patched_resume σ at lines

abbrev pub with_patched_instruction : (ℕ → ℕ) → ℕ → List CodeLine → List CodeLine
with_patched_instruction σ at [] = []
with_patched_instruction σ zero (l ∷ lines) = record l { instruction = patched_instruction σ l.instruction } ∷ lines
with_patched_instruction σ (suc at) (l ∷ lines) = l ∷ with_patched_instruction σ at lines

-- f of all but the first n
abbrev pub map_from : {A : Type 0} → (A → A) → ℕ → List A → List A
map_from f zero xs = map f xs
map_from f (suc n) [] = []
map_from f (suc n) (x ∷ xs) = x ∷ map_from f n xs
