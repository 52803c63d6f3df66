-- The keys of a table as they are kept.
use Rattle.std.specs.Prelude.{Bool, true, false, List, [], ◌∷◌}
use Rattle.psm_scope.specs.Scopes.{Spelling}
use Rattle.psm_check_stmt.specs.declared.tables.Keys.{Keys}
use Rattle.psm_check_stmt.specs.declared.tables.Keys.TheVariants as tables
use Rattle.psm_check_expr.specs.Keys.{key_names}

-- of the keys of a table the first is kept, and whether there are others
pub data Kept : Type 0 where
  NoKey : Kept
  OneKey : List Spelling → Kept
  MoreKeys : List Spelling → Kept

abbrev pub kept : Keys → Kept
kept tables.None = NoKey
kept (tables.One key) = OneKey (key_names key)
kept (tables.More first) = MoreKeys (key_names first)

-- with a key more
abbrev pub and_key : Kept → List Spelling → Kept
and_key NoKey k = OneKey k
and_key (OneKey first) k = MoreKeys first
and_key (MoreKeys first) k = MoreKeys first

abbrev pub and_keys : Kept → List (List Spelling) → Kept
and_keys k [] = k
and_keys k (l ∷ ls) = and_keys (and_key k l) ls

abbrev pub is_one : Kept → Bool
is_one NoKey = false
is_one (OneKey k) = true
is_one (MoreKeys first) = false

abbrev pub first_kept : Kept → List Spelling
first_kept NoKey = []
first_kept (OneKey k) = k
first_kept (MoreKeys first) = first
