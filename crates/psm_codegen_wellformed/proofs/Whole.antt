-- Where all lines of a routine are free of faults, none is found among them.
use Rattle.std.proofs.Common.{arith, ◌≡◌, ◌+◌, ◌<◌, ◌++◌, ℕ, zero, suc, List, [], ◌∷◌, length, Option, Some, None, refl, subst}
use Rattle.std.specs.Prelude.{slice_get}
use Rattle.psm_code.specs.declared.code.RawCode.{RawCode}
use Rattle.psm_code.specs.declared.code.RawRoutine.{RawRoutine}
use Rattle.psm_code.specs.declared.lines.CodeLine.{CodeLine}
use Rattle.psm_code.specs.declared.rule.CodeRule.{CodeRule}
use Rattle.psm_code.specs.RoutineRules.{line_fault, line_faults}
use Rattle.psm_code.specs.Rules.{fault_in}
use Rattle.psm_typing.specs.TypingContext.{Each}
use Rattle.psm_codegen_wellformed.specs.Frame.{Free}

-- each fault of a list is none
abbrev pub NoFaults : List (Option CodeRule) → Type 0
NoFaults faults = Each (λ f. f ≡ None) faults

pub none-both : (fs gs : List (Option CodeRule)) → NoFaults fs → NoFaults gs → NoFaults (fs ++ gs)
none-both [] gs a b = b
none-both (f ∷ fs) gs a b = (a.0, none-both fs gs a.1 b)

-- no fault is found among them
pub none-found : (n : ℕ) (fs : List (Option CodeRule)) → NoFaults fs → fault_in n fs ≡ None
none-found n [] h = refl
none-found n (None ∷ fs) h = none-found (suc n) fs h.1
none-found n (Some q ∷ fs) h = let none : Some q ≡ None = h.0 in absurd (cc)

within : (xs : List CodeLine) (i : ℕ) (l : CodeLine) → slice_get xs i ≡ Some l → i < length xs
within [] i l h = absurd (cc)
within (x ∷ xs) zero l h = omega arith
within (x ∷ xs) (suc i) l h = omega (arith, within xs i l h)

lines-none : (code : RawCode) (r : RawRoutine) (n : ℕ) (ls : List CodeLine) → ((i : ℕ) (l : CodeLine) → slice_get ls i ≡ Some l → line_fault code r (n + i) l ≡ None) → NoFaults (line_faults code r n ls)
lines-none code r n [] h = tt
lines-none code r n (l ∷ ls) h = (subst (λ m. line_fault code r m l ≡ None) (omega arith) (h 0 l refl), lines-none code r (suc n) ls (λ i x q. subst (λ m. line_fault code r m x ≡ None) (omega arith) (h (suc i) x q)))

-- the lines of a routine
pub routine-none : (code : RawCode) (r : RawRoutine) → Free code r 0 (length r.lines) → NoFaults (line_faults code r 0 r.lines)
routine-none code r f = lines-none code r 0 r.lines (λ i l q. subst (λ m. line_fault code r m l ≡ None) (omega arith) (f.right i l (omega arith) (within r.lines i l q) q))
