-- The numbers of functions and of procedures among all routines of a file.
use Rattle.std.proofs.Common.{arith, ◌≡◌, ◌+◌, ℕ, zero, suc, Bool, true, false, List, [], ◌∷◌, Some, ap, ◌∙◌, slice_get, if◌then◌else◌}
use Rattle.std.specs.Prelude.{filter, not}
use Rattle.std.proofs.lemmas.Option.{none-some}
use Rattle.psm_resolved.specs.declared.file.ResolvedFile.{ResolvedFile}
use Rattle.psm_resolved.specs.declared.file.ResolvedRoutine.{ResolvedRoutine}
use Rattle.psm_meaning.specs.Calls.{function_at, procedure_at}
use Rattle.psm_exprgen.specs.declared.known.Known.{Known}
use Rattle.psm_exprgen.specs.Exprs.{function_number}
use Rattle.psm_exprgen.specs.Written.{number_at}
use Rattle.psm_codegen.specs.Files.{is_function, known_of, numbers_of, with_number}
use Rattle.psm_codegen.specs.Simples.{procedure_number}

-- each function of the file has its number among all routines
abbrev pub AreFunctions : ResolvedFile → Known → Type 0
AreFunctions file known = (function : ℕ) (routine : ResolvedRoutine) → function_at file function ≡ Some routine → slice_get file.routines (function_number known function) ≡ Some routine

-- and each procedure
abbrev pub AreProcedures : ResolvedFile → Known → Type 0
AreProcedures file known = (procedure : ℕ) (routine : ResolvedRoutine) → procedure_at file procedure ≡ Some routine → slice_get file.routines (procedure_number known procedure) ≡ Some routine

-- the number at that index is that of this routine, where the first of the routines has the number n
abbrev Numbered : List ℕ → List ResolvedRoutine → ℕ → ℕ → ResolvedRoutine → Type 0
Numbered numbers routines n index routine = (i : ℕ) × (slice_get numbers index ≡ Some (n + i)) × (slice_get routines i ≡ Some routine)

next : (numbers : List ℕ) (routines : List ResolvedRoutine) (r : ResolvedRoutine) (n index : ℕ) (routine : ResolvedRoutine) → Numbered numbers routines (suc n) index routine → Numbered numbers (r ∷ routines) n index routine
next numbers routines r n index routine h = (suc h.0, h.1 ∙ ap Some (omega arith), h.2)

first : (b : Bool) (numbers : List ℕ) (kept routines : List ResolvedRoutine) (r : ResolvedRoutine) (n index : ℕ) (routine : ResolvedRoutine) → ((p : ℕ) → slice_get kept p ≡ Some routine → Numbered numbers routines (suc n) p routine)
    → slice_get (if b then r ∷ kept else kept) index ≡ Some routine → Numbered (with_number b n numbers) (r ∷ routines) n index routine
first false numbers kept routines r n index routine h q = next numbers routines r n index routine (h index q)
first true numbers kept routines r n zero routine h q = (0, ap Some (omega arith), q)
first true numbers kept routines r n (suc index) routine h q = let k = h index q in (suc k.0, k.1 ∙ ap Some (omega arith), k.2)

numbered : (test : ResolvedRoutine → Bool) (routines : List ResolvedRoutine) (n index : ℕ) (routine : ResolvedRoutine) → slice_get (filter test routines) index ≡ Some routine → Numbered (numbers_of test n routines) routines n index routine
numbered test [] n index routine q = absurd (none-some routine q)
numbered test (r ∷ routines) n index routine q =
    first (test r) (numbers_of test (suc n) routines) (filter test routines) routines r n index routine (λ p e. numbered test routines (suc n) p routine e) q

numbered_at : (test : ResolvedRoutine → Bool) (routines : List ResolvedRoutine) (index : ℕ) (routine : ResolvedRoutine) → slice_get (filter test routines) index ≡ Some routine
    → slice_get routines (number_at (slice_get (numbers_of test 0 routines) index)) ≡ Some routine
numbered_at test routines index routine q =
    let k = numbered test routines 0 index routine q in
    let number : slice_get (numbers_of test 0 routines) index ≡ Some k.0 = k.1 ∙ ap Some (omega arith) in
    ap (λ o. slice_get routines (number_at o)) number ∙ k.2

pub known_functions : (file : ResolvedFile) (routine : ResolvedRoutine) → AreFunctions file (known_of file routine)
known_functions file routine f g q = numbered_at is_function file.routines f g q

pub known_procedures : (file : ResolvedFile) (routine : ResolvedRoutine) → AreProcedures file (known_of file routine)
known_procedures file routine p g q = numbered_at (λ r. not (is_function r)) file.routines p g q
