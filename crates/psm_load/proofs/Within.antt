-- The number of a line that breaks a rule is one of the listing.
use Rattle.std.proofs.Common.{◌≡◌, ℕ, suc, ◌+◌, ◌<◌, ◌≤◌, List, [], ◌∷◌, length, Option, Some, None, ap, arith}
use Rattle.psm_code.specs.declared.code.RawCode.{RawCode}
use Rattle.psm_code.specs.declared.rule.CodeRule.{CodeRule}
use Rattle.psm_code.specs.RoutineRules.{code_faults, first_fault}
use Rattle.psm_code.specs.Rules.{fault_in}

within : (n : ℕ) (faults : List (Option CodeRule)) (line : ℕ) (rule : CodeRule) → fault_in n faults ≡ Some (line, rule) → line < n + length faults
within n [] line rule e = absurd (cc e)
within n (None ∷ faults) line rule e = let h : line < suc n + length faults = within (suc n) faults line rule e in omega arith
within n (Some r ∷ faults) line rule e = let p : ◌≡◌ {A = ℕ × CodeRule} (n, r) (line, rule) = cc in let h : n ≡ line = ap (λ (x : ℕ × CodeRule). x.0) p in omega arith

pub fault_within : (code : RawCode) (line : ℕ) (rule : CodeRule) → first_fault code ≡ Some (line, rule) → line ≤ length (code_faults code)
fault_within code line rule e = let h : line < 1 + length (code_faults code) = within 1 (code_faults code) line rule e in omega arith
