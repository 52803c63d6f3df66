-- Which tables of a store were changed since the outermost open mark.
use Rattle.std.specs.Prelude.{◌≡◌, ◌≢◌, Bool, true, false, ℕ, ◌<◌, List, length, All, count_by, slice_index_or}
use Rattle.psm_table.specs.State.{State, IsTidy}
use Rattle.psm_undostore.specs.Undo.{Undo}

-- whether a table is touched: for each table a flag says it
abbrev pub is_touched : List Bool → ℕ → Bool
is_touched flags t = slice_index_or flags t false

-- the numbers are of tables, and the number of each touched table is among them
pub record AreListed (flags : List Bool) (numbers : List ℕ) : Type 0 where
  pub inside : All (λ t. t < length flags) numbers
  pub listed : (t : ℕ) → All (λ n. n ≢ t) numbers → is_touched flags t ≡ false

-- the numbers are as many as the touched tables
abbrev pub AreOnce : List Bool → List ℕ → Type 0
AreOnce flags numbers = length numbers ≡ count_by (λ flag. flag) flags

-- no table is touched
abbrev pub IsNoneTouched : List Bool → Type 0
IsNoneTouched flags = All (λ flag. flag ≡ false) flags

-- each table is tidy or touched
abbrev pub AreTidyOrTouched : List Bool → List State → Type 0
AreTidyOrTouched flags states = (t : ℕ) (d : State) → t < length states → is_touched flags t ≡ false → IsTidy (slice_index_or states t d)

-- each table has a flag, and is tidy or touched; the changes are of touched tables; without a mark no table is touched
pub record IsNoted (flags : List Bool) (s : Undo) : Type 0 where
  pub size : length flags ≡ length s.states
  pub tidy : AreTidyOrTouched flags s.states
  pub changes : All (λ e. is_touched flags e.table ≡ true) s.entries
  pub idle : s.marks ≡ 0 → IsNoneTouched flags
