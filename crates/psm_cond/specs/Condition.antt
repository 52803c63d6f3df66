-- Conditions (ISO/IEC 9075:1992, 18.1, and ISO/IEC 9075-4:1996).
use Rattle.std.specs.Prelude.{ℕ, ◌-◌, nat_lt, Bool, false, ◌||◌, List, [], ◌∷◌, length, map, take}
use Rattle.psm_cond.specs.declared.entry.Entry.{Entry}
use Rattle.psm_cond.specs.Entry.{without_own}

-- the entry that decides, the others in order, and whether entries were dropped
pub record Entries : Type 0 where
  pub first : Entry
  pub others : List Entry
  pub more : Bool

-- the condition of one entry
abbrev pub alone : Entry → Entries
alone e = record { first = e; others = []; more = false }

-- as many entries as are kept
abbrev pub most_entries : ℕ
most_entries = 4

-- an entry in front of those of a condition: of all of them the first four are kept, and whether one was ever dropped
abbrev pub following : Entry → Entries → Entries
following e c = record {
  first = e;
  others = take (most_entries - 1) (c.first ∷ c.others);
  more = c.more || nat_lt most_entries (length (e ∷ c.first ∷ c.others));
}

-- each entry counts by its SQLSTATE alone
abbrev pub by_state : Entries → Entries
by_state c = record c { first = without_own c.first; others = map without_own c.others }
