-- The diagnostics area (ISO/IEC 9075:1992, 18.1).
use Rattle.std.specs.Prelude.{ℕ, codes}
use Rattle.psm_cond.specs.declared.area.Held.{Held}
use Rattle.psm_cond.specs.declared.area.Held.TheVariants.{Success, Raised}
use Rattle.psm_cond.specs.Condition.{Entries, alone}
use Rattle.psm_cond.specs.Entry.{entry_of}

-- the entries of success or of a condition, and the number of rows
pub record Diagnostics : Type 0 where
  pub entries : Entries
  pub rows : ℕ

-- one entry that reports success
abbrev pub success : Entries
success = alone (entry_of (codes "00000"))

-- success without rows
abbrev pub clear : Diagnostics
clear = record { entries = success; rows = 0 }

abbrev pub entries_held : Held → Entries
entries_held Success = success
entries_held (Raised c) = c
