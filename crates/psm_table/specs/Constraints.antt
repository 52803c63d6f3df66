-- FOREIGN KEY constraints that are found by the tables that they name.
use Rattle.std.specs.Prelude.{◌≡◌, ℕ, nat_eq, Bool, ◌||◌, List, [], ◌∷◌, ◌++◌, Option, Some, None, filter, if◌then◌else◌}
use Rattle.indexmap.specs.IndexMap.{get}
use Rattle.psm_table.specs.declared.constraints.ByTable.{ByTable}
use Rattle.psm_table.specs.declared.definition.ForeignKey.{ForeignKey}

-- whether a constraint names a table: this refers, or is referred to
abbrev pub names_table : ℕ → ForeignKey → Bool
names_table t key = nat_eq key.from t || nat_eq key.to t

abbrev pub some_or_none : Option (List ForeignKey) → List ForeignKey
some_or_none None = []
some_or_none (Some keys) = keys

-- the constraints that are kept by a table's number
abbrev pub found_at : ByTable → ℕ → List ForeignKey
found_at kept t = some_or_none (get nat_eq kept.lists t)

-- by each number, the constraints that name the table are kept
abbrev pub AreFound : ByTable → List ForeignKey → Type 0
AreFound kept keys = (t : ℕ) → found_at kept t ≡ filter (names_table t) keys

-- a constraint is kept after the others by the numbers that pass a test
abbrev pub KeepsAlso : (ℕ → Bool) → ForeignKey → ByTable → ByTable → Type 0
KeepsAlso test key old new = (t : ℕ) → found_at new t ≡ found_at old t ++ (if test t then key ∷ [] else [])
