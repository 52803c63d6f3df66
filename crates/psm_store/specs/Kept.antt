-- A store that keeps copies of its tables.
use Rattle.std.specs.Prelude.{◌≡◌, ℕ, ◌<◌, ◌≤◌, List, [], ◌++◌, length, map, All, slice_index_or, replicate}
use Rattle.psm_table.specs.State.{State}
use Rattle.psm_table.specs.Table.{Contents}
use Rattle.psm_store.specs.declared.store.Mark.{Mark}
use Rattle.psm_store.specs.Marks.{defs_of, most_marks}

-- the tables of now, and for each open mark, outermost first, the tables that it stands for
pub record Kept : Type 0 where
  pub tables : List Contents
  pub marks : List (List Contents)

-- what is in the tables, whatever else they keep
abbrev pub contents_of : List State → List Contents
contents_of states = map (λ s. s.contents) states

-- each table has no rows
abbrev pub AreEmpty : List Contents → Type 0
AreEmpty tables = All (λ c. c.rows ≡ []) tables

-- tables with copies for some marks, and after those n marks that stand for the tables of now
abbrev pub kept_of : List Contents → List (List Contents) → ℕ → Kept
kept_of tables copies count = record { tables = tables; marks = copies ++ replicate count tables }

-- the marks aren't too many, and the tables that they stand for have the definitions of the tables of now
pub record IsKept (s : Kept) : Type 0 where
  pub bound : length s.marks ≤ most_marks
  pub defined : All (λ tables. defs_of tables ≡ defs_of s.tables) s.marks

-- an open mark: its depth says which
pub record IsOpen (s : Kept) (m : Mark) : Type 0 where
  pub depth : m.depth < length s.marks
  pub position : m.position ≡ 0

-- the tables that a mark stands for
abbrev pub stands_for : Kept → Mark → List Contents
stands_for s m = slice_index_or s.marks m.depth s.tables
