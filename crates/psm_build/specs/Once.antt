-- What is so of the bytes of files whoever reads them: they are one thing, and a session of theirs ends in one of two ways.
use Rattle.std.specs.Prelude.{◌≡◌, ℕ, ◌⊎◌}
use Rattle.psm_meaning.specs.Acts.{NoTurns, OutOfFuel, Stuck}
use Rattle.psm_meaning.specs.Session.{End, Cut, Done}
use Rattle.psm_faults.specs.declared.fault.Fault.{Fault}
use Rattle.psm_faults.specs.declared.fault.BuildFault.TheVariants.{Refused}

-- what is a file has no fault, and what has a fault has one, at one line and column
pub record Exclusive (IsFile : Type 0) (IsFault : ℕ → ℕ → Fault → Type 0) : Type 0 where
  pub file_or_fault : (l c : ℕ) (f : Fault) → IsFile → IsFault l c f → ⊥
  pub one_fault : (l c l' c' : ℕ) (f f' : Fault) → IsFault l c f → IsFault l' c' f' → Refused l c f ≡ Refused l' c' f'

-- there is a fault, at some line and column
abbrev pub HasFault : (ℕ → ℕ → Fault → Type 0) → Type 0
HasFault IsFault = (line : ℕ) × (column : ℕ) × (fault : Fault) × IsFault line column fault

-- it is a file, or has a fault
abbrev pub Total : Type 0 → (ℕ → ℕ → Fault → Type 0) → Type 0
Total IsFile IsFault = IsFile ⊎ HasFault IsFault

-- after the last command, or where the turns ran out
abbrev pub IsEnd : End → Type 0
IsEnd Done = Unit {0}
IsEnd (Cut NoTurns) = Unit {0}
IsEnd (Cut OutOfFuel) = ⊥
IsEnd (Cut Stuck) = ⊥
