-- Marks, to which the tables of a store can be put back.
use Rattle.std.specs.Prelude.{◌≡◌, ℕ, ◌+◌, ◌^◌, ◌<◌, ◌≤◌, List, map, Result, Ok, Err}
use Rattle.std.specs.declared.alloc.AllocError.{AllocError}
use Rattle.psm_table.specs.declared.definition.TableDef.{TableDef}
use Rattle.psm_table.specs.Table.{Contents}
use Rattle.psm_store.specs.declared.store.Mark.{Mark}

-- n marks are never open
abbrev pub most_marks : ℕ
most_marks = 2 ^ 100

-- the definitions of tables
abbrev pub defs_of : List Contents → List TableDef
defs_of tables = map (λ t. t.def) tables

-- how many marks are open after a call of mark
abbrev pub marks_after : ℕ → Result Mark AllocError → ℕ
marks_after count (Ok mark) = count + 1
marks_after count (Err error) = count

-- A mark that is given where n marks are open and the tables are these: it is the deepest, it is
-- held, it stands for the tables, and the position of no mark that was held is above its own.
pub record IsNewMark (count : ℕ) (tables : List Contents) (holds_old holds_new : Mark → Type 0) (at_new : Mark → List Contents) (mark : Mark) : Type 0 where
  pub deepest : mark.depth ≡ count
  pub held : holds_new mark
  pub stands : at_new mark ≡ tables
  pub last : (other : Mark) → holds_old other → other.position ≤ mark.position

-- each of these marks that was held stays held, and stands for the same tables
abbrev pub Keeps : (Mark → Type 0) → (Mark → Type 0) → (Mark → List Contents) → (Mark → Type 0) → (Mark → List Contents) → Type 0
Keeps These holds_old at_old holds_new at_new = (m : Mark) → holds_old m → These m → holds_new m × (at_new m ≡ at_old m)

-- any mark
abbrev pub AnyMark : Mark → Type 0
AnyMark mark = Unit {0}

-- a mark of less depth whose position isn't above
abbrev pub IsOutside : Mark → Mark → Type 0
IsOutside mark outer = (outer.depth < mark.depth) × (outer.position ≤ mark.position)
