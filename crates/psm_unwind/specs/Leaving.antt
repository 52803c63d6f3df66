-- What frames leave after when the run leaves them: the cursors and the tables.
use Rattle.std.specs.Prelude.{ℕ, Bool, false, not, List, [], ◌∷◌, Option, Some, None, if◌then◌else◌}
use Rattle.psm_table.specs.Cursors.{Cursor}
use Rattle.psm_table.specs.Table.{Contents}
use Rattle.psm_code.specs.declared.code.RawRoutine.{RawRoutine}
use Rattle.psm_code.specs.Parts.{block_at}
use Rattle.psm_code.specs.Raising.{cursors_of, found_by, is_block, put_back}
use Rattle.psm_code.specs.State.{Frame, InBlock, InAction, closed_cursors}

-- ---- one frame

abbrev pub cursors_by : RawRoutine → Frame → List Cursor → List Cursor
cursors_by r (InBlock k found) cs = closed_cursors (cursors_of (block_at r k)) cs
cursors_by r (InAction h resume area) cs = cs

-- ---- several frames, the innermost first

abbrev pub cursors_left : RawRoutine → List Frame → List Cursor → List Cursor
cursors_left r [] cs = cs
cursors_left r (f ∷ frames) cs = cursors_left r frames (cursors_by r f cs)

abbrev pub tables_left : Bool → List Frame → List Contents → List Contents
tables_left undo [] now = now
tables_left undo (f ∷ frames) now = tables_left undo frames (put_back undo (found_by f) now)

-- ---- frames up to that of a block, or all

abbrev pub is_at : Option ℕ → Frame → Bool
is_at None f = false
is_at (Some k) f = is_block k f

abbrev pub inside : Option ℕ → List Frame → List Frame
inside stop [] = []
inside stop (f ∷ frames) = if is_at stop f then [] else f ∷ inside stop frames

abbrev pub outward : Option ℕ → List Frame → List Frame
outward stop [] = []
outward stop (f ∷ frames) = if is_at stop f then f ∷ frames else outward stop frames

-- whether there is an innermost frame, and it isn't that of the block
abbrev pub is_innermost_inside : Option ℕ → List Frame → Bool
is_innermost_inside stop [] = false
is_innermost_inside stop (f ∷ frames) = not (is_at stop f)
