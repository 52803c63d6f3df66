-- What FETCH gives, and where it leaves the cursor (ISO/IEC 9075:1992, 13.3).
use Rattle.std.specs.Prelude.{◌≡◌, List, [], ◌∷◌, Option, Some, None, Result, Ok, Err, ◌⊎◌}
use Rattle.std.specs.Borrow.{Bor}
use Rattle.std.specs.Option.{option_copied}
use Rattle.psm_cond.specs.declared.fault.DataFault.{DataFault}
use Rattle.psm_cond.specs.declared.fault.DataFault.TheVariants as fault
use Rattle.psm_exprcode.specs.declared.query.Query.{Query}
use Rattle.psm_sqlstate.specs.declared.state.SqlState.{SqlState}
use Rattle.psm_value.specs.declared.datum.Datum.{Datum}
use Rattle.psm_value.specs.declared.fault.ValueFault.{ValueFault}
use Rattle.psm_value.specs.declared.fault.ValueFault.TheVariants as value_fault
use Rattle.psm_table.specs.Cursors.{Cursor, Closed, Plain, Insensitive, Position, advanced}
use Rattle.psm_table.specs.Evaluator.{mapped}
use Rattle.psm_table.specs.Table.{Contents}
use Rattle.psm_tablecode.specs.Codes.{over, query_of}
use Rattle.psm_tablecode.specs.Faults.{IsRaised}
use Rattle.psm_tablecode.specs.Rows.{values_for}

-- the answer, or the condition, that is expected, and where the cursor stands then
pub record Fetch (P : Type 0) : Type 0 where
  pub expected : Result (Option (List Datum)) SqlState
  pub position : P

-- the cursor has moved so, and its answer is the one that is expected, unless memory runs out, which may come before the move or
-- after it
abbrev pub Fetches : {P : Type 0} → Fetch P → P → P → Result (Option (List Datum)) DataFault → Type 0
Fetches f old new (Ok row) = (f.expected ≡ Ok row) × (new ≡ f.position)
Fetches f old new (Err (fault.Raised condition)) = IsRaised f.expected condition × (new ≡ f.position)
Fetches f old new (Err fault.Memory) = (new ≡ old) ⊎ (new ≡ f.position)

-- the same, where the condition is an SQLSTATE yet
abbrev pub Moves : {P : Type 0} → Fetch P → P → P → Result (Option (List Datum)) ValueFault → Type 0
Moves f old new (Ok row) = (f.expected ≡ Ok row) × (new ≡ f.position)
Moves f old new (Err (value_fault.Condition state)) = (f.expected ≡ Err state) × (new ≡ f.position)
Moves f old new (Err value_fault.Memory) = (new ≡ old) ⊎ (new ≡ f.position)

-- ---- a plain cursor

abbrev pub items_found : Query → List Datum → Option (List Datum) → Result (Option (List Datum)) SqlState
items_found query vars None = Ok None
items_found query vars (Some row) = mapped (λ ds. Some ds) (values_for vars query.items row)

-- the cursor stands on the row before its items are evaluated; a condition of the test leaves it where it was
abbrev pub moved_by : Query → List Datum → Position → Result (Option (List Datum) × Position) SqlState → Fetch Position
moved_by query vars p (Ok found) = record { expected = items_found query vars found.0; position = found.1 }
moved_by query vars p (Err state) = record { expected = Err state; position = p }

abbrev pub moved : Query → Contents → List Datum → Position → Fetch Position
moved query t vars p = moved_by query vars p (advanced (over vars) (query_of query) t.def.key t.rows p)

-- the row is the one that is expected, unless memory runs out
abbrev pub Finds : Result (Option (List Datum)) SqlState → Result (Option (Bor (List Datum))) ValueFault → Type 0
Finds expected (Ok row) = expected ≡ Ok (option_copied row)
Finds expected (Err (value_fault.Condition state)) = expected ≡ Err state
Finds expected (Err value_fault.Memory) = Unit {0}

-- ---- any cursor

-- an insensitive cursor gives the first row that is left; one that isn't open has none
abbrev pub fetched : Query → Contents → Cursor → Fetch Cursor
fetched query t Closed = record { expected = Ok None; position = Closed }
fetched query t (Plain p vars) = record { expected = (moved query t vars p).expected; position = Plain (moved query t vars p).position vars }
fetched query t (Insensitive []) = record { expected = Ok None; position = Insensitive [] }
fetched query t (Insensitive (row ∷ rows)) = record { expected = Ok (Some row); position = Insensitive rows }
