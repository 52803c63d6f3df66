-- The same commands, where the numbers of the procedures and what is known of the tables are at hand.
use Rattle.std.specs.Prelude.{◌≡◌, ℕ, suc, List, [], ◌∷◌, slice_get, if◌then◌else◌}
use Rattle.psm_code.specs.declared.code.RawRoutine.{RawRoutine}
use Rattle.psm_meaning.specs.Session.{Command, Call, Insert, Select, Commit, Rollback}
use Rattle.psm_exprgen.specs.declared.known.Known.{Known}
use Rattle.psm_exprgen.specs.Queries.{QueryMade}
use Rattle.psm_exprgen.specs.Written.{number_at}
use Rattle.psm_session.specs.declared.command.ScriptCommand.{ScriptCommand}
use Rattle.psm_session.specs.declared.command.ScriptCommand.TheVariants as made

-- the numbers of the procedures among routines that are counted from n
abbrev pub procedure_numbers : ℕ → List RawRoutine → List ℕ
procedure_numbers n [] = []
procedure_numbers n (r ∷ rs) = if r.is_function then procedure_numbers (suc n) rs else n ∷ procedure_numbers (suc n) rs

-- the number of a procedure; 0 where it isn't there
abbrev pub routine_of : List ℕ → ℕ → ℕ
routine_of procedures n = number_at (slice_get procedures n)

abbrev pub Lowered : Known → List ℕ → Command → ScriptCommand → Type 0
Lowered known procedures (Call procedure values) (made.Call routine args) = (routine ≡ routine_of procedures procedure) × (args ≡ values)
Lowered known procedures (Insert table columns rows) (made.Insert at places values) = (at ≡ table) × (places ≡ columns) × (values ≡ rows)
Lowered known procedures (Select query) (made.Select lines) = QueryMade known query lines
Lowered known procedures Commit made.Commit = Unit {0}
Lowered known procedures Rollback made.Rollback = Unit {0}
Lowered known procedures command other = ⊥

abbrev pub AllLowered : Known → List ℕ → List Command → List ScriptCommand → Type 0
AllLowered known procedures [] [] = Unit {0}
AllLowered known procedures [] (m ∷ ms) = ⊥
AllLowered known procedures (c ∷ cs) [] = ⊥
AllLowered known procedures (c ∷ cs) (m ∷ ms) = Lowered known procedures c m × AllLowered known procedures cs ms
