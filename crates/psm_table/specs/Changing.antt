-- What INSERT, UPDATE and DELETE make of the rows of a table (ISO/IEC 9075:1992, 13.7 to 13.10, and 11.7 to 11.9 for
-- its rules).
use Rattle.std.specs.Prelude.{◌≡◌, Bool, true, false, ℕ, List, [], ◌∷◌, ◌++◌, length, codes, nat_lt, not, ◌&&◌, Option, Result, Ok, Err, slice_index_or, slice_set, if◌then◌else◌, zip}
use Rattle.psm_sqlstate.specs.declared.state.SqlState.{SqlState}
use Rattle.std.specs.List.{list_all}
use Rattle.std.specs.Ordering.{is_le, is_eq, is_ne}
use Rattle.psm_value.specs.Stored.{is_stored, stored}
use Rattle.psm_value.specs.declared.datum.Datum.{Datum}
use Rattle.psm_value.specs.declared.sqltype.SqlType.{SqlType}
use Rattle.psm_value.specs.declared.truth.Truth.{Truth}
use Rattle.psm_value.specs.declared.truth.Truth.TheVariants.{True, False, Unknown}
use Rattle.psm_table.specs.Definition.{kinds_of}
use Rattle.psm_table.specs.Evaluator.{Evaluator, and_then, collected, mapped, test_of}
use Rattle.psm_table.specs.Key.{values_at, key_order}
use Rattle.psm_table.specs.Queries.{is_met}
use Rattle.psm_table.specs.Rows.{without}
use Rattle.psm_table.specs.Table.{most_rows}
use Rattle.psm_table.specs.Unique.{conflict, is_null, has_null}
use Rattle.psm_table.specs.declared.definition.TableDef.{TableDef}

-- a table's definition, with its CHECKs, and whether all FOREIGN KEY constraints hold among the tables if its rows are these
pub record Schema (E : Type 0) : Type 0 where
  pub def : TableDef
  pub checks : List E
  pub keyed : List (List Datum) → Bool

-- why a statement changes nothing: a condition that an expression raises or storing a value, or one of the table, which
-- bears its name
pub data Failure : Type 0 where
  Raised : SqlState → Failure
  OfTable : SqlState → Failure

abbrev pub then_of : {A B : Type 0} → Result A SqlState → (A → Result B Failure) → Result B Failure
then_of (Ok a) go = go a
then_of (Err state) go = Err (Raised state)

-- ---- storing

-- the values as the columns store them, from the left
abbrev pub stored_row : List SqlType → List Datum → Result (List Datum) SqlState
stored_row [] vs = Ok []
stored_row (t ∷ ts) [] = Ok []
stored_row (t ∷ ts) (v ∷ vs) = and_then (stored t v) (λ d. mapped (λ ds. d ∷ ds) (stored_row ts vs))

abbrev pub stored_rows : List SqlType → List (List Datum) → Result (List (List Datum)) SqlState
stored_rows ts [] = Ok []
stored_rows ts (row ∷ rows) = and_then (stored_row ts row) (λ r. mapped (λ rs. r ∷ rs) (stored_rows ts rows))

-- ---- the order of keys, nulls first; rows with equal keys keep their order

abbrev pub is_before : List ℕ → List Datum → List Datum → Bool
is_before key a b = is_le (key_order (values_at key a) (values_at key b))

abbrev pub inserted_in : List ℕ → List Datum → List (List Datum) → List (List Datum)
inserted_in key row [] = row ∷ []
inserted_in key row (r ∷ rows) = if is_before key row r then row ∷ r ∷ rows else r ∷ inserted_in key row rows

abbrev pub in_order : List ℕ → List (List Datum) → List (List Datum)
in_order key [] = []
in_order key (row ∷ rows) = inserted_in key row (in_order key rows)

-- ---- the rules of a table

-- a CHECK holds unless it is false
abbrev pub is_kept : Truth → Bool
is_kept True = true
is_kept False = false
is_kept Unknown = true

-- whether each CHECK holds on a row; all are evaluated, in order
abbrev pub row_passes : {E : Type 0} → Evaluator E → List E → List Datum → Result Bool SqlState
row_passes ev [] row = Ok true
row_passes ev (c ∷ cs) row = and_then (ev.truth c row) (λ t. mapped (λ more. is_kept t && more) (row_passes ev cs row))

-- whether each CHECK holds on each row; all are evaluated, row by row
abbrev pub rows_pass : {E : Type 0} → Evaluator E → List E → List (List Datum) → Result Bool SqlState
rows_pass ev checks [] = Ok true
rows_pass ev checks (row ∷ rows) = and_then (row_passes ev checks row) (λ ok. mapped (λ more. ok && more) (rows_pass ev checks rows))

-- whether no null stands in a column that refuses it, nor in the key
abbrev pub is_filled : TableDef → List Datum → Bool
is_filled def row = list_all (λ p. not (p.0.not_null && is_null p.1)) (zip def.columns row) && not (has_null (values_at def.key row))

-- whether two rows have different keys, and agree in no UNIQUE list
abbrev pub are_apart : TableDef → List Datum → List Datum → Bool
are_apart def a b = not (is_eq (key_order (values_at def.key a) (values_at def.key b))) && not (conflict def a b)

abbrev pub all_apart : TableDef → List (List Datum) → Bool
all_apart def [] = true
all_apart def (row ∷ rows) = list_all (are_apart def row) rows && all_apart def rows

-- whether rows keep the rules that need no evaluation
abbrev pub keep_rules : TableDef → List (List Datum) → Bool
keep_rules def rows = list_all (is_filled def) rows && all_apart def rows

-- whether a row's values are as these types store them
abbrev pub row_is_stored : List SqlType → List Datum → Bool
row_is_stored types row = list_all (λ p. is_stored p.0 p.1) (zip types row)

-- a table is legal for its CHECKs: its values are as its columns store them, its rows keep all its rules, and no CHECK raises a
-- condition
pub record IsLegal {E : Type 0} (ev : Evaluator E) (schema : Schema E) (rows : List (List Datum)) : Type 0 where
  pub stored : list_all (row_is_stored (kinds_of schema.def.columns)) rows ≡ true
  pub pass : rows_pass ev schema.checks rows ≡ Ok true
  pub rules : keep_rules schema.def rows ≡ true

-- ---- the end of a statement

-- the rows that a statement would leave, in the order of their keys: more rows than a table has come first, then a condition
-- of a CHECK, then a rule that is broken
abbrev pub ended_with : TableDef → List (List Datum) → Bool → Result (List (List Datum)) Failure
ended_with def rows true = Ok rows
ended_with def rows false = Err (OfTable (codes "23000"))

-- the old rows among them stand before the new ones, so that they go first where keys are equal
abbrev pub ended : {E : Type 0} → Evaluator E → Schema E → List (List Datum) → Result (List (List Datum)) Failure
ended ev schema rows = if nat_lt most_rows (length rows) then Err (OfTable (codes "X0002"))
    else then_of (rows_pass ev schema.checks (in_order schema.def.key rows)) (λ ok. ended_with schema.def (in_order schema.def.key rows) (ok && (keep_rules schema.def rows && schema.keyed (in_order schema.def.key rows))))

-- ---- statements: the rows that are left, and how many the statement is about

pub record Changed : Type 0 where
  pub rows : List (List Datum)
  pub count : ℕ

abbrev pub counting : ℕ → Result (List (List Datum)) Failure → Result Changed Failure
counting n (Ok rows) = Ok (record { rows = rows; count = n })
counting n (Err failure) = Err failure

-- INSERT of rows whose values are evaluated: all are stored first
abbrev pub inserted : {E : Type 0} → Evaluator E → Schema E → List (List Datum) → List (List Datum) → Result Changed Failure
inserted ev schema new rows = then_of (stored_rows (kinds_of schema.def.columns) new) (λ new. counting (length new) (ended ev schema (rows ++ new)))

-- a column and its new value
pub record SetItem (E : Type 0) : Type 0 where
  pub column : ℕ
  pub source : E

-- the new values of SET over an old row, all evaluated before the first is stored
abbrev pub new_values : {E : Type 0} → Evaluator E → List (SetItem E) → List Datum → Result (List Datum) SqlState
new_values ev sets row = collected (λ s. ev.value s.source row) sets

-- the type of a column
abbrev pub kind_of : TableDef → ℕ → SqlType
kind_of def c = slice_index_or (kinds_of def.columns) c SqlType.SmallInt

-- the row with the values stored in their columns, from the left
abbrev pub with_values : {E : Type 0} → TableDef → List (SetItem E) → List Datum → List Datum → Result (List Datum) SqlState
with_values def [] vs row = Ok row
with_values def (s ∷ sets) [] row = Ok row
with_values def (s ∷ sets) (v ∷ vs) row = and_then (stored (kind_of def s.column) v) (λ d. with_values def sets vs (slice_set row s.column d))

-- the row that SET makes of an old row
abbrev pub set_row : {E : Type 0} → Evaluator E → TableDef → List (SetItem E) → List Datum → Result (List Datum) SqlState
set_row ev def sets row = and_then (new_values ev sets row) (λ vs. with_values def sets vs row)

-- the rows that don't meet a test, and what is made of each that does
pub record Division : Type 0 where
  pub left : List (List Datum)
  pub made : List (List Datum)

abbrev pub with_left : List Datum → Division → Division
with_left row p = record { left = row ∷ p.left; made = p.made }

abbrev pub with_made : List Datum → Division → Division
with_made row p = record { left = p.left; made = row ∷ p.made }

-- row by row: the test, and then what is made of the row if it meets it
abbrev pub divided : {E : Type 0} → Evaluator E → Option E → (List Datum → Result (List Datum) SqlState) → List (List Datum) → Result Division SqlState
divided ev test make [] = Ok (record { left = []; made = [] })
divided ev test make (row ∷ rows) = and_then (test_of ev test row) (λ met. if is_met met
    then and_then (make row) (λ new. mapped (with_made new) (divided ev test make rows))
    else mapped (with_left row) (divided ev test make rows))

-- UPDATE of the rows that meet the test: all are evaluated over the old rows, in the order of their keys. The CHECKs see
-- no variables, and so have an evaluator of their own
abbrev pub updated : {E : Type 0} → Evaluator E → Evaluator E → Schema E → List (SetItem E) → Option E → List (List Datum) → Result Changed Failure
updated ev plain schema sets test rows = then_of (divided ev test (set_row ev schema.def sets) rows) (λ p. counting (length p.made) (ended plain schema (p.left ++ p.made)))

-- DELETE of the rows that meet the test
abbrev pub deleted : {E : Type 0} → Evaluator E → Evaluator E → Schema E → Option E → List (List Datum) → Result Changed Failure
deleted ev plain schema test rows = then_of (divided ev test (λ row. Ok row) rows) (λ p. counting (length p.made) (ended plain schema p.left))

-- ---- the FOREIGN KEY constraints, tested last

-- the same schema, where none is asked
abbrev pub keyless : {E : Type 0} → Schema E → Schema E
keyless schema = record { def = schema.def; checks = schema.checks; keyed = λ rows. true }

-- what a statement leaves, if all hold among the tables then
abbrev pub if_keyed : {E : Type 0} → Schema E → Result (List (List Datum)) Failure → Result (List (List Datum)) Failure
if_keyed schema (Ok rows) = ended_with schema.def rows (schema.keyed rows)
if_keyed schema (Err failure) = Err failure

abbrev pub changed_if_keyed : {E : Type 0} → Schema E → Result Changed Failure → Result Changed Failure
changed_if_keyed schema (Ok c) = counting c.count (ended_with schema.def c.rows (schema.keyed c.rows))
changed_if_keyed schema (Err failure) = Err failure

-- ---- positioned statements, of one row of the table

-- the rows without one of them
abbrev pub rows_but : TableDef → List Datum → List (List Datum) → List (List Datum)
rows_but def row rows = without def.key (values_at def.key row) rows

-- whether two rows have different keys
abbrev pub has_moved : TableDef → List Datum → List Datum → Bool
has_moved def old new = is_ne (key_order (values_at def.key old) (values_at def.key new))

-- the rows that are left, and whether the row has another key now
pub record Moved : Type 0 where
  pub rows : List (List Datum)
  pub moved : Bool

abbrev pub moving : Bool → Result (List (List Datum)) Failure → Result Moved Failure
moving b (Ok rows) = Ok (record { rows = rows; moved = b })
moving b (Err failure) = Err failure

-- UPDATE of the row
abbrev pub updated_at : {E : Type 0} → Evaluator E → Evaluator E → Schema E → List (SetItem E) → List Datum → List (List Datum) → Result Moved Failure
updated_at ev plain schema sets row rows = then_of (set_row ev schema.def sets row) (λ new. moving (has_moved schema.def row new) (ended plain schema (rows_but schema.def row rows ++ new ∷ [])))

-- DELETE of the row
abbrev pub deleted_at : {E : Type 0} → Evaluator E → Schema E → List Datum → List (List Datum) → Result (List (List Datum)) Failure
deleted_at plain schema row rows = ended plain schema (rows_but schema.def row rows)

-- what a positioned UPDATE leaves, if all FOREIGN KEY constraints hold then
abbrev pub moved_if_keyed : {E : Type 0} → Schema E → Result Moved Failure → Result Moved Failure
moved_if_keyed schema (Ok m) = moving m.moved (ended_with schema.def m.rows (schema.keyed m.rows))
moved_if_keyed schema (Err failure) = Err failure
