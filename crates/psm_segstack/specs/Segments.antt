-- Items in segments of the same room.
use Rattle.std.specs.Prelude.{◌≡◌, ℕ, ◌-◌, ◌*◌, List, [], length, min, slice_index_or}
use Rattle.std.specs.List.{flat_map}

-- how many items a segment has room for
abbrev pub segment_room : ℕ
segment_room = 1024

-- the items of segments, in order
abbrev pub joined : {T : Type 0} → List (List T) → List T
joined segments = flat_map (λ s. s) segments

-- segments that n items fill in order: each before the last that has any is full, and those after it are empty
abbrev pub AreFilled : {T : Type 0} → List (List T) → ℕ → Type 0
AreFilled segments count = (k : ℕ) → length (slice_index_or segments k []) ≡ min segment_room (count - segment_room * k)
