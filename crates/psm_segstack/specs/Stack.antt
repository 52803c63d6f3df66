-- A stack that grows by segments.
use Rattle.std.specs.Prelude.{ℕ, ◌-◌, ◌*◌, List, length}
use Rattle.psm_segstack.specs.Segments.{segment_room, joined}

-- the items, the last on top, and how many more there is room for
pub record Stack (T : Type 0) : Type 0 where
  pub items : List T
  pub spare : ℕ

-- the stack in segments that n items fill
abbrev pub stack_of : {T : Type 0} → List (List T) → ℕ → Stack T
stack_of segments count = record { items = joined segments; spare = segment_room * length segments - count }
