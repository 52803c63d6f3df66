-- The key for which a test asks: no predicate in it raises a condition, and it is true only where each column of the key is
-- equal to a constant or a variable (ISO/IEC 9075:1992, 8.2 and 8.12). The same of a UNIQUE list (8.9). And the walk of a
-- statement with a test.
use Rattle.std.specs.Prelude.{◌≡◌, ◌<◌, Bool, false, ℕ, suc, List, [], ◌∷◌, length, nat_le, slice_index_or, Option, Some, None, if◌then◌else◌}
use Rattle.std.specs.List.{cons_option}
use Rattle.psm_value.specs.declared.datum.Datum.{Datum}
use Rattle.psm_exprcode.specs.declared.op.Line.{Line}
use Rattle.psm_table.specs.declared.definition.TableDef.{TableDef}
use Rattle.psm_table.specs.Matching.{at_most_one, rows_with}
use Rattle.psm_table.specs.Queries.{in_walk}
use Rattle.psm_table.specs.Table.{keyed, Contents}
use Rattle.psm_table.specs.Unique.{has_null, is_null}
use Rattle.psm_tablecode.specs.declared.walking.Edge.{Edge}
use Rattle.psm_tablecode.specs.declared.walking.Unique.{Unique}
use Rattle.psm_tablecode.specs.declared.walking.Walk.{Walk}
use Rattle.psm_tablecode.specs.Bounds.{bounds_asked, Bounds}
use Rattle.psm_tablecode.specs.Edges.{high_edge, low_edge, rows_between}
use Rattle.psm_tablecode.specs.Folding.{folded_test}
use Rattle.psm_tablecode.specs.Tests.{are_quiet, sought, with_first}

-- ---- keys

-- the values of some columns, if there is one for each
abbrev pub each_of : (ℕ → Option Datum) → List ℕ → Option (List Datum)
each_of value [] = Some []
each_of value (c ∷ columns) = with_first (value c) (each_of value columns)

-- those to which a test makes them equal
abbrev pub each_sought : List ℕ → List Datum → List Line → Option (List Datum)
each_sought columns vars lines = each_of (λ c. sought c vars lines) columns

-- the key for which a test asks, of a table whose key is those columns
abbrev pub key_asked : List ℕ → List Datum → Option (List Line) → Option (List Datum)
key_asked columns vars None = None
key_asked columns vars (Some lines) = if are_quiet lines then each_sought columns vars lines else None

-- ---- UNIQUE lists

-- a value that isn't null
abbrev pub filled : Option Datum → Option Datum
filled None = None
filled (Some d) = if is_null d then None else Some d

-- those to which a test makes some columns equal, if none is null
abbrev pub each_filled : List ℕ → List Datum → List Line → Option (List Datum)
each_filled columns vars lines = each_of (λ c. filled (sought c vars lines)) columns

abbrev pub unique_with : ℕ → List Datum → Unique
unique_with list values = record { list = list; values = values }

abbrev pub unique_or : ℕ → Option (List Datum) → Option Unique → Option Unique
unique_or list (Some values) later = Some (unique_with list values)
unique_or list None later = later

-- the first of some lists with such values, where the lists are numbered from one on
abbrev pub unique_from : ℕ → List (List ℕ) → List Datum → List Line → Option Unique
unique_from list [] vars lines = None
unique_from list (columns ∷ lists) vars lines = unique_or list (each_filled columns vars lines) (unique_from (suc list) lists vars lines)

-- the most lists that are gone through: each costs a pass over the test, so that many would cost the square of a module file
abbrev pub most_lists : ℕ
most_lists = 256

abbrev pub unique_in : List (List ℕ) → List Datum → List Line → Option Unique
unique_in lists vars lines = if nat_le (length lists) most_lists then unique_from 0 lists vars lines else None

-- the look-up for which a test asks, of a table with those UNIQUE lists
abbrev pub unique_asked : List (List ℕ) → List Datum → Option (List Line) → Option Unique
unique_asked lists vars None = None
unique_asked lists vars (Some lines) = if are_quiet lines then unique_in lists vars lines else None

-- the columns of a UNIQUE list of a table
abbrev pub columns_in : List (List ℕ) → ℕ → List ℕ
columns_in lists list = slice_index_or lists list []

-- the list of a look-up is there, and has a value for each of its columns, and no null
pub record IsLookUp (lists : List (List ℕ)) (unique : Unique) : Type 0 where
  pub there : unique.list < length lists
  pub filled : has_null unique.values ≡ false
  pub long : length unique.values ≡ length (columns_in lists unique.list)

-- ---- walks

-- the rows where they are known, else all
abbrev pub rows_or : Option (List (List Datum)) → List (List Datum) → List (List Datum)
rows_or (Some rows) all = rows
rows_or None all = all

-- The row that a look-up finds. Several are equal in a UNIQUE list in the middle of a statement alone, and then these are all
-- rows from one side.
abbrev pub rows_at : Contents → Bool → Unique → List (List Datum)
rows_at t downward unique = rows_or (at_most_one (rows_with (columns_in t.def.unique unique.list) unique.values t.rows)) (in_walk downward t.rows)

-- the row of a key alone, or that of a look-up, or the rows between edges from one side
abbrev pub rows_from : Contents → Bool → Option (List Datum) → Option Unique → Option Edge → Option Edge → List (List Datum)
rows_from t downward (Some key) unique low high = cons_option (keyed t key) []
rows_from t downward None (Some unique) low high = rows_at t downward unique
rows_from t downward None None low high = in_walk downward (rows_between t.def.key low high t.rows)

-- the rows of a walk, in order
abbrev pub rows_of : Contents → Walk → List (List Datum)
rows_of t walk = rows_from t walk.downward walk.key walk.unique walk.low walk.high

abbrev pub over_all : Bool → Walk
over_all downward = record { downward = downward; key = None; unique = None; low = None; high = None }

-- the look-up of a walk, where it isn't to the row of a key
abbrev pub unique_by : Option (List Datum) → Option Unique → Option Unique
unique_by (Some key) unique = None
unique_by None unique = unique

-- the edges of a walk: those of bounds, where it isn't to the row of a key or of a look-up
abbrev pub low_by : Option (List Datum) → Option Unique → Option Bounds → Option Edge
low_by (Some key) unique bounds = None
low_by None (Some unique) bounds = None
low_by None None (Some bounds) = low_edge bounds.firsts bounds.low
low_by None None None = None

abbrev pub high_by : Option (List Datum) → Option Unique → Option Bounds → Option Edge
high_by (Some key) unique bounds = None
high_by None (Some unique) bounds = None
high_by None None (Some bounds) = high_edge bounds.firsts bounds.high
high_by None None None = None

-- the walk to the row of a key, or else to that of a look-up, or else over the rows between bounds, or else over all rows
abbrev pub walk_by : Bool → Option (List Datum) → Option Unique → Option Bounds → Walk
walk_by downward key unique bounds = record { downward = downward; key = key; unique = unique_by key unique; low = low_by key unique bounds; high = high_by key unique bounds }

-- the walk for which a test asks as it stands
abbrev pub walk_asked : TableDef → Bool → List Datum → Option (List Line) → Walk
walk_asked def downward vars test = walk_by downward (key_asked def.key vars test) (unique_asked def.unique vars test) (bounds_asked def.key vars test)

-- the walk of a statement with a test: the one for which the test asks once it is folded
abbrev pub walk_for : Contents → Bool → List Datum → Option (List Line) → Walk
walk_for t downward vars test = walk_asked t.def downward vars (folded_test vars test)
