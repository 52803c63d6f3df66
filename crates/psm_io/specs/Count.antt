-- Counts of faults.
use Rattle.std.specs.Prelude.{◌≡◌, ℕ, ◌+◌, ◌<◌, min, ◌⊎◌}

-- the last value of a count, where it stands still
abbrev pub last_count : ℕ
last_count = 18446744073709551615

-- A count rose from before to after. One that stands at its last value counts as risen.
abbrev pub Rose : ℕ → ℕ → Type 0
Rose before after = (before < after) ⊎ (after ≡ last_count)

-- the count one further, or still at its last value
abbrev pub next_count : ℕ → ℕ
next_count n = min (n + 1) last_count
