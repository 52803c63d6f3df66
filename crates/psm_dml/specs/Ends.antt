-- How a statement on one table of a store ends.
use Rattle.std.specs.Prelude.{◌≡◌, ℕ, Bool, true, false, List, [], codes, slice_set, Option, Some, None, Result, Ok, Err}
use Rattle.psm_cond.specs.Condition.{Entries, alone}
use Rattle.psm_cond.specs.Entry.{entry_of, name_text}
use Rattle.psm_cond.specs.declared.fault.DataFault.{DataFault}
use Rattle.psm_cond.specs.declared.fault.DataFault.TheVariants as fault
use Rattle.psm_exprcode.specs.declared.op.Line.{Line}
use Rattle.psm_sqlstate.specs.declared.state.SqlState.{SqlState}
use Rattle.psm_value.specs.declared.datum.Datum.{Datum}
use Rattle.psm_table.specs.declared.definition.TableDef.{TableDef}
use Rattle.psm_table.specs.Changing.{deleted_at, Changed, Failure, IsLegal, Moved, OfTable, Raised, Schema}
use Rattle.psm_table.specs.declared.definition.ForeignKey.{ForeignKey}
use Rattle.psm_table.specs.Key.{values_at}
use Rattle.psm_table.specs.Keyed.{are_keyed_with, rows_in}
use Rattle.psm_table.specs.Table.{Contents}
use Rattle.psm_tablecode.specs.Codes.{over}

-- the condition is that of the SQLSTATE alone, and bears the name of the table where it is one of the table
abbrev pub IsOf : TableDef → Failure → Entries → Type 0
IsOf def (Raised state) condition = condition ≡ alone (entry_of state)
IsOf def (OfTable state) condition = condition ≡ alone (record (entry_of state) { table = name_text def.name })

-- the condition is the one that is expected
abbrev pub IsExpected : {A : Type 0} → TableDef → Result A Failure → Entries → Type 0
IsExpected def (Ok a) condition = ⊥
IsExpected def (Err failure) condition = IsOf def failure condition

-- a table's definition, with CHECKs that are code, and whether all FOREIGN KEY constraints hold if its rows are these
abbrev pub schema_with : (List (List Datum) → Bool) → TableDef → List (List Line) → Schema (List Line)
schema_with keyed def checks = record { def = def; checks = checks; keyed = keyed }

-- the same where no constraint is asked
abbrev pub schema_of : TableDef → List (List Line) → Schema (List Line)
schema_of = schema_with (λ rows. true)

-- the same of table t, among tables for which these constraints are asked
abbrev pub keyed_schema : List ForeignKey → List Contents → ℕ → TableDef → List (List Line) → Schema (List Line)
keyed_schema constraints tables t = schema_with (are_keyed_with constraints (rows_in tables) t)

-- the fault bears the SQLSTATE and the name of the table, unless memory runs out
abbrev pub Bears : List ℕ → TableDef → DataFault → Type 0
Bears state def (fault.Raised condition) = IsOf def (OfTable state) condition
Bears state def fault.Memory = Unit {0}

-- what is expected where CHECKs evaluate to that
abbrev pub checked : Result Bool SqlState → Result (Unit {0}) Failure
checked (Ok true) = Ok tt
checked (Ok false) = Err (OfTable (codes "23000"))
checked (Err state) = Err (Raised state)

-- the CHECKs hold, or the condition is the one that is expected, unless memory runs out
abbrev pub Passes : TableDef → Result Bool SqlState → Result (Unit {0}) DataFault → Type 0
Passes def passed (Ok u) = passed ≡ Ok true
Passes def passed (Err (fault.Raised condition)) = IsExpected def (checked passed) condition
Passes def passed (Err fault.Memory) = Unit {0}

-- A statement on table t, which was c, is expected to leave some rows and to be about n. It does; or it raises the condition
-- that is expected, or memory runs out, and then all tables are as before.
abbrev pub Ends : Contents → Result Changed Failure → List Contents → ℕ → List Contents → Result ℕ DataFault → Type 0
Ends c expected old t new (Ok n) = (rows : List (List Datum)) × (expected ≡ Ok (record { rows = rows; count = n })) × (new ≡ slice_set old t (record c { rows = rows }))
Ends c expected old t new (Err (fault.Raised condition)) = IsExpected c.def expected condition × (new ≡ old)
Ends c expected old t new (Err fault.Memory) = new ≡ old

-- the same of a positioned statement, which answers whether the row has another key now
abbrev pub EndsAt : Contents → Result Moved Failure → List Contents → ℕ → List Contents → Result Bool DataFault → Type 0
EndsAt c expected old t new (Ok b) = (rows : List (List Datum)) × (expected ≡ Ok (record { rows = rows; moved = b })) × (new ≡ slice_set old t (record c { rows = rows }))
EndsAt c expected old t new (Err (fault.Raised condition)) = IsExpected c.def expected condition × (new ≡ old)
EndsAt c expected old t new (Err fault.Memory) = new ≡ old

-- a positioned statement ends as expected of the row; without a row it changes nothing, but memory may run out
abbrev pub EndsAtRow : Contents → (List Datum → Result Moved Failure) → Option (List Datum) → List Contents → ℕ → List Contents → Result Bool DataFault → Type 0
EndsAtRow c expected (Some row) old t new result = EndsAt c (expected row) old t new result
EndsAtRow c expected None old t new (Ok b) = (b ≡ false) × (new ≡ old)
EndsAtRow c expected None old t new (Err (fault.Raised condition)) = ⊥
EndsAtRow c expected None old t new (Err fault.Memory) = new ≡ old

-- the same of a positioned DELETE
abbrev pub EndsErased : Contents → Result (List (List Datum)) Failure → List Contents → ℕ → List Contents → Result (Unit {0}) DataFault → Type 0
EndsErased c expected old t new (Ok u) = (rows : List (List Datum)) × (expected ≡ Ok rows) × (new ≡ slice_set old t (record c { rows = rows }))
EndsErased c expected old t new (Err (fault.Raised condition)) = IsExpected c.def expected condition × (new ≡ old)
EndsErased c expected old t new (Err fault.Memory) = new ≡ old

-- for all CHECKs for which the table is legal, DELETE of a row that has the key ends as expected
abbrev pub ErasesByRules : List ForeignKey → List Datum → List Contents → ℕ → List Contents → Result (Unit {0}) DataFault → Contents → Type 0
ErasesByRules constraints key old t new result c = (row : List Datum) → key ≡ values_at c.def.key row → (checks : List (List Line)) → IsLegal (over []) (schema_of c.def checks) c.rows → EndsErased c (deleted_at (over []) (keyed_schema constraints old t c.def checks) row c.rows) old t new result
