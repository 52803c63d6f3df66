-- Queries in code, and cursors (ISO/IEC 9075:1992, 7.9 to 7.11, and 13.1 to 13.5).
use Rattle.std.specs.Prelude.{ℕ, Bool, true, false, List, [], ◌∷◌, codes, slice_get, Option, Some, None}
use Rattle.psm_value.specs.declared.datum.Datum.{Datum}
use Rattle.psm_value.specs.declared.datum.Datum.TheVariants.{Null}
use Rattle.psm_cond.specs.Condition.{alone}
use Rattle.psm_cond.specs.Entry.{entry_of, name_text}
use Rattle.psm_exprcode.specs.declared.items.Items.{Items}
use Rattle.psm_exprcode.specs.declared.items.Items.TheVariants.{Rows, Sets}
use Rattle.psm_exprcode.specs.declared.operand.Operand.TheVariants.{Truth}
use Rattle.psm_exprcode.specs.declared.query.Query.{Query}
use Rattle.psm_exprcode.specs.Comparison.{truth_of}
use Rattle.psm_table.specs.Cursors.{Cursor, Closed, Plain, Insensitive, advanced, before_first}
use Rattle.psm_table.specs.Evaluator.{values_of}
use Rattle.psm_table.specs.Queries.{Answer, answer}
use Rattle.psm_tablecode.specs.Codes.{over, query_of}
use Rattle.psm_code.specs.declared.code.CodeCursor.{CodeCursor}
use Rattle.psm_code.specs.declared.code.RawRoutine.{RawRoutine}
use Rattle.psm_code.specs.State.{Stuck, with_cursor}
use Rattle.psm_code.specs.Steps.{Act, got, ends, raises, change, of_state, present, put, put_value, put_values, read, table_now, tried, ◌>>=◌, ◌>>◌}

-- the answer of a query over its table and the variables as they are now
abbrev pub answer_of : Query → Act Answer
answer_of query = do
  t ← table_now query.table
  vars ← read (λ m. m.running.variables)
  tried (answer (over vars) (query_of query) t.rows)

abbrev pub query_at : RawRoutine → ℕ → Act Query
query_at r n = present (slice_get r.queries n)

-- ---- EXISTS, a query as a value, and SELECT INTO

abbrev pub is_any : List (List Datum) → Bool
is_any [] = false
is_any (row ∷ rows) = true

abbrev pub exists : RawRoutine → ℕ → Act (Unit {0})
exists r n = do
  query ← query_at r n
  a ← answer_of query
  put (Truth (truth_of (is_any a.rows)))

-- no row gives null; of one row it is the one item
abbrev pub scalar_of : List (List Datum) → Act (Unit {0})
scalar_of [] = put_value Null
scalar_of ([] ∷ []) = ends Stuck
scalar_of ((d ∷ ds) ∷ []) = put_value d
scalar_of (row ∷ other ∷ rows) = raises (of_state (codes "21000"))

abbrev pub scalar : RawRoutine → ℕ → Act (Unit {0})
scalar r n = do
  query ← query_at r n
  a ← answer_of query
  scalar_of a.rows

abbrev pub only_row : List (List Datum) → Act (List Datum)
only_row [] = raises (of_state (codes "02000"))
only_row (row ∷ []) = got row
only_row (row ∷ other ∷ rows) = raises (of_state (codes "21000"))

-- nulls that a set function skipped are a warning, in place of one that is pending
abbrev pub skipping : Bool → Act (Unit {0})
skipping false = got tt
skipping true = change (λ m. record m { pending = Some (codes "01003") })

abbrev pub select_row : RawRoutine → ℕ → Act (Unit {0})
select_row r n = do
  query ← query_at r n
  a ← answer_of query
  row ← only_row a.rows
  skipping a.skipped
  put_values row

-- ---- cursors

abbrev pub declared_at : RawRoutine → ℕ → Act CodeCursor
declared_at r number = present (slice_get r.cursors number)

abbrev pub cursor_now : ℕ → Act Cursor
cursor_now number = do
  cursors ← read (λ m. m.running.cursors)
  present (slice_get cursors number)

-- the state of a cursor doesn't allow the statement; the condition bears the cursor's name
abbrev pub wrong_state : {A : Type 0} → CodeCursor → Act A
wrong_state x = raises (alone (record (entry_of (codes "24000")) { cursor = name_text x.name }))

-- a plain cursor keeps the variables as they are now; an insensitive one takes its whole answer
abbrev pub open_as : Bool → ℕ → Query → Act (Unit {0})
open_as false number query = do
  vars ← read (λ m. m.running.variables)
  change (with_cursor number (Plain before_first vars))
open_as true number query = do
  a ← answer_of query
  change (with_cursor number (Insensitive a.rows))

abbrev pub opened : RawRoutine → ℕ → CodeCursor → Cursor → Act (Unit {0})
opened r number x Closed = do
  query ← query_at r x.query
  open_as x.insensitive number query
opened r number x (Plain p vars) = wrong_state x
opened r number x (Insensitive rows) = wrong_state x

abbrev pub «open» : RawRoutine → ℕ → Act (Unit {0})
«open» r number = do
  x ← declared_at r number
  c ← cursor_now number
  opened r number x c

abbrev pub let_go : ℕ → CodeCursor → Cursor → Act (Unit {0})
let_go number x Closed = wrong_state x
let_go number x (Plain p vars) = change (with_cursor number Closed)
let_go number x (Insensitive rows) = change (with_cursor number Closed)

abbrev pub close : RawRoutine → ℕ → Act (Unit {0})
close r number = do
  x ← declared_at r number
  c ← cursor_now number
  let_go number x c

-- ---- the next row of a cursor

-- the items of a row on which a cursor stands
abbrev pub items_on : Items → List Datum → List Datum → Act (List Datum)
items_on (Rows codes) vars row = tried (values_of (over vars) codes row)
items_on (Sets sets) vars row = ends Stuck

abbrev pub items_of_found : Query → List Datum → Option (List Datum) → Act (Option (List Datum))
items_of_found query vars None = got None
items_of_found query vars (Some row) = do
  ds ← items_on query.items vars row
  got (Some ds)

-- the items of the row that follows, if there is one. A plain cursor stands on the row before its items are evaluated
abbrev pub next_of : RawRoutine → ℕ → CodeCursor → Cursor → Act (Option (List Datum))
next_of r number x Closed = wrong_state x
next_of r number x (Insensitive []) = got None
next_of r number x (Insensitive (row ∷ rows)) = do
  change (with_cursor number (Insensitive rows))
  got (Some row)
next_of r number x (Plain p vars) = do
  query ← query_at r x.query
  t ← table_now query.table
  found ← tried (advanced (over vars) (query_of query) t.def.key t.rows p)
  change (with_cursor number (Plain found.1 vars))
  items_of_found query vars found.0

abbrev pub next : RawRoutine → ℕ → Act (Option (List Datum))
next r number = do
  x ← declared_at r number
  c ← cursor_now number
  next_of r number x c

abbrev pub some_row : Option (List Datum) → Act (Unit {0})
some_row None = raises (of_state (codes "02000"))
some_row (Some ds) = put_values ds

abbrev pub fetch : RawRoutine → ℕ → Act (Unit {0})
fetch r number = do
  row ← next r number
  some_row row
