-- A store, and the marks that were opened in it.
use Rattle.std.specs.Prelude.{◌≡◌, ℕ, ◌<◌, ◌≤◌, List, length, All, Some, slice_get}
use Rattle.psm_table.specs.Table.{Contents}
use Rattle.psm_store.specs.declared.store.Mark.{Mark}
use Rattle.psm_store.specs.Marks.{defs_of}
use Rattle.store_rows.specs.Parts.{IsPartsTable}

-- each of the marks is held, its depth is its index in the list, and the positions of marks don't fall
pub record AreHeld (holds : Mark → Type 0) (marks : List Mark) : Type 0 where
  pub held : (k : ℕ) (m : Mark) → slice_get marks k ≡ Some m → holds m
  pub deep : (k : ℕ) (m : Mark) → slice_get marks k ≡ Some m → m.depth ≡ k
  pub rising : (j k : ℕ) (m n : Mark) → j < k → slice_get marks j ≡ Some m → slice_get marks k ≡ Some n → m.position ≤ n.position

-- two tables, and all the marks that are open
pub record IsBench (tables : List Contents) (count : ℕ) (holds : Mark → Type 0) (marks : List Mark) : Type 0 where
  pub two : length tables ≡ 2
  pub parts : All IsPartsTable (defs_of tables)
  pub counted : count ≡ length marks
  pub held : AreHeld holds marks
