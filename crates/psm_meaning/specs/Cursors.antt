-- Cursors and retrieval into variables (ISO/IEC 9075:1992, 13.1 to 13.5).
use Rattle.std.specs.Prelude.{ℕ, Bool, true, false, List, [], ◌∷◌, codes, find, nat_eq, slice_get, Option, Some, None}
use Rattle.psm_value.specs.declared.datum.Datum.{Datum}
use Rattle.psm_cond.specs.Condition.{alone}
use Rattle.psm_cond.specs.Entry.{entry_of, name_text}
use Rattle.psm_table.specs.Cursors.{Cursor, Closed, Plain, Insensitive, advanced, before_first}
use Rattle.psm_table.specs.Evaluator.{values_of}
use Rattle.psm_table.specs.Queries.{Items, Rows, Sets}
use Rattle.psm_resolved.specs.declared.expr.ResolvedExpr.{ResolvedExpr}
use Rattle.psm_resolved.specs.declared.expr.ResolvedQuery.{ResolvedQuery}
use Rattle.psm_resolved.specs.declared.statement.ResolvedCursor.{ResolvedCursor}
use Rattle.psm_meaning.specs.State.{State, EvalContext, cleared, with_cursor}
use Rattle.psm_meaning.specs.Acts.{Stuck, Act, got, raises, ends, change, read, present, of_state, tried, ◌>>=◌, ◌>>◌}
use Rattle.psm_meaning.specs.Assigning.{retrieve_all}
use Rattle.psm_meaning.specs.Rows.{answer_of, over, query_of, table_now}

-- ---- cursors by their numbers

abbrev pub declared_at : EvalContext → ℕ → Act ResolvedCursor
declared_at eval_context number = present (find (λ x. nat_eq x.number number) eval_context.cursors)

abbrev pub cursor_now : ℕ → Act Cursor
cursor_now number = do
  cursors ← read (λ st. st.cursors)
  present (slice_get cursors number)

-- the state of a cursor doesn't allow the statement; the condition bears the cursor's name
abbrev pub wrong_state : {A : Type 0} → ResolvedCursor → Act A
wrong_state x = raises (alone (record (entry_of (codes "24000")) { cursor = name_text x.name }))

-- all of these are closed
abbrev pub closed : List ResolvedCursor → State → State
closed [] st = st
closed (x ∷ xs) st = closed xs (with_cursor x.number Closed st)

-- ---- OPEN and CLOSE

-- a plain cursor keeps the variables as they are now; an insensitive one takes its whole answer
abbrev pub open_as : Bool → ResolvedCursor → Act (Unit {0})
open_as false x = do
  vars ← read (λ st. st.variables)
  change (with_cursor x.number (Plain before_first vars))
open_as true x = do
  a ← answer_of x.query
  change (with_cursor x.number (Insensitive a.rows))

abbrev pub open_cursor : ResolvedCursor → Act (Unit {0})
open_cursor x = open_as x.insensitive x

abbrev pub opened : ResolvedCursor → Cursor → Act (Unit {0})
opened x Closed = open_cursor x
opened x (Plain p vars) = wrong_state x
opened x (Insensitive rows) = wrong_state x

abbrev pub «open» : EvalContext → ℕ → Act (Unit {0})
«open» eval_context number = do
  change cleared
  x ← declared_at eval_context number
  c ← cursor_now number
  opened x c

abbrev pub let_go : ResolvedCursor → Cursor → Act (Unit {0})
let_go x Closed = wrong_state x
let_go x (Plain p vars) = change (with_cursor x.number Closed)
let_go x (Insensitive rows) = change (with_cursor x.number Closed)

abbrev pub close : EvalContext → ℕ → Act (Unit {0})
close eval_context number = do
  change cleared
  x ← declared_at eval_context number
  c ← cursor_now number
  let_go x c

-- ---- FETCH

-- the items of a row on which a cursor stands
abbrev pub items_on : Items ResolvedExpr → List Datum → List Datum → Act (List Datum)
items_on (Rows es) vars row = tried (values_of (over vars) es row)
items_on (Sets sets) vars row = ends Stuck

abbrev pub items_of_found : ResolvedQuery → List Datum → Option (List Datum) → Act (Option (List Datum))
items_of_found query vars None = got None
items_of_found query vars (Some row) = do
  ds ← items_on (query_of query).items vars row
  got (Some ds)

-- the items of the row that follows, if there is one. A plain cursor stands on the row before its items are evaluated
abbrev pub next_of : ResolvedCursor → Cursor → Act (Option (List Datum))
next_of x Closed = wrong_state x
next_of x (Insensitive []) = got None
next_of x (Insensitive (row ∷ rows)) = do
  change (with_cursor x.number (Insensitive rows))
  got (Some row)
next_of x (Plain p vars) = do
  t ← table_now (query_of x.query).table
  found ← tried (advanced (over vars) (query_of x.query) t.def.key t.rows p)
  change (with_cursor x.number (Plain found.1 vars))
  items_of_found x.query vars found.0

abbrev pub next : ResolvedCursor → Act (Option (List Datum))
next x = do
  c ← cursor_now x.number
  next_of x c

-- one warning at most is raised at the end: first that nulls were skipped by a set function, and then that a character was lost
abbrev pub warned : Bool → Bool → Act (Unit {0})
warned true lost = raises (of_state (codes "01003"))
warned false true = raises (of_state (codes "01004"))
warned false false = got tt

abbrev pub fetched_into : EvalContext → List ℕ → Option (List Datum) → Act (Unit {0})
fetched_into eval_context slots None = raises (of_state (codes "02000"))
fetched_into eval_context slots (Some ds) = do
  lost ← retrieve_all eval_context slots ds
  warned false lost

abbrev pub fetch : EvalContext → ℕ → List ℕ → Act (Unit {0})
fetch eval_context number slots = do
  change cleared
  x ← declared_at eval_context number
  row ← next x
  fetched_into eval_context slots row

-- ---- SELECT INTO

abbrev pub only_row : List (List Datum) → Act (List Datum)
only_row [] = raises (of_state (codes "02000"))
only_row (r ∷ []) = got r
only_row (r ∷ s ∷ rows) = raises (of_state (codes "21000"))

abbrev pub select_into : EvalContext → ResolvedQuery → List ℕ → Act (Unit {0})
select_into eval_context query slots = do
  change cleared
  a ← answer_of query
  row ← only_row a.rows
  lost ← retrieve_all eval_context slots row
  warned a.skipped lost
