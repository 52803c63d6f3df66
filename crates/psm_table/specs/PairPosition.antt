-- What is looked for in a map, and where a key stands in it.
use Rattle.std.specs.Prelude.{◌≡◌, ℕ, ◌+◌, ◌<◌, ◌≤◌, ◌++◌, List, [], ◌∷◌, length, take, drop, slice_get, slice_index_or, Option, Some, None}
use Rattle.psm_value.specs.declared.datum.Datum.{Datum}
use Rattle.psm_value.specs.declared.datum.Datum.TheVariants.{Num}
use Rattle.psm_table.specs.declared.map.Pair.{Pair}
use Rattle.psm_table.specs.declared.map.Position.{Position}
use Rattle.psm_table.specs.declared.probe.Probe.{Probe}
use Rattle.psm_table.specs.declared.probe.Probe.TheVariants.{Number, Numbers, One, Two, Of, In, Both}
use Rattle.psm_table.specs.Key.{values_at, AreColumnsOf}
use Rattle.psm_table.specs.Map.{pairs_below, pairs_above, pair_with}
use Rattle.psm_table.specs.Runs.{IsIn}

-- the key that is looked for
abbrev pub probe_key : Probe → List Datum
probe_key (Number n) = Num n.now ∷ []
probe_key (Numbers first second) = Num first.now ∷ Num second.now ∷ []
probe_key (One value) = value.now ∷ []
probe_key (Two first second) = first.now ∷ second.now ∷ []
probe_key (Of key) = key.now
probe_key (In columns row) = values_at columns.now row.now
probe_key (Both columns key row) = values_at columns.now row.now ++ values_at key.now row.now

-- the columns are some of the row's
abbrev pub FitsProbe : Probe → Type 0
FitsProbe (Number n) = Unit {0}
FitsProbe (Numbers first second) = Unit {0}
FitsProbe (One value) = Unit {0}
FitsProbe (Two first second) = Unit {0}
FitsProbe (Of key) = Unit {0}
FitsProbe (In columns row) = AreColumnsOf row.now columns.now
FitsProbe (Both columns key row) = AreColumnsOf row.now columns.now × AreColumnsOf row.now key.now

module _ {V : Type 0} where
  -- the pair at index i has the key, those before it have smaller keys, and those after it greater ones
  pub record IsAt (key : List Datum) (pairs : List (Pair V)) (i : ℕ) : Type 0 where
    pub inside : i < length pairs
    pub has : pair_with key pairs ≡ slice_get pairs i
    pub before : take i pairs ≡ pairs_below key pairs
    pub after : drop (i + 1) pairs ≡ pairs_above key pairs

  -- no pair has the key, those before index i have smaller keys, and those from it on greater ones
  pub record IsGap (key : List Datum) (pairs : List (Pair V)) (i : ℕ) : Type 0 where
    pub inside : i ≤ length pairs
    pub has : pair_with key pairs ≡ None
    pub before : take i pairs ≡ pairs_below key pairs
    pub after : drop i pairs ≡ pairs_above key pairs

  -- the pair that stands there has the key
  pub record StandsAt (key : List Datum) (runs : List (List (Pair V))) (p : Position) : Type 0 where
    pub run : IsIn key runs p.run
    pub at : IsAt key (slice_index_or runs p.run []) p.at

  -- the pairs after a key; without a key all
  abbrev pub pairs_past : Option Probe → List (Pair V) → List (Pair V)
  pairs_past None pairs = pairs
  pairs_past (Some probe) pairs = pairs_above (probe_key probe) pairs

  -- a pair and those after it
  abbrev pub ahead : List (Pair V) → Option (Pair V) → List (Pair V)
  ahead pairs None = []
  ahead pairs (Some p) = p ∷ pairs_above p.key pairs
