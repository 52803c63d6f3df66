-- What queries, cursors and plans may ask of their code, and of the tables, the variables and the cursors over which they run.
use Rattle.std.specs.Prelude.{◌≡◌, ℕ, true, List, slice_get, Option, Some, None, All, IfSome, IsTrue}
use Rattle.psm_exprcode.specs.declared.op.Line.{Line}
use Rattle.psm_exprcode.specs.declared.query.Query.{Query}
use Rattle.psm_exprcode.specs.declared.set_item.SetItem.{SetItem}
use Rattle.psm_value.specs.declared.datum.Datum.{Datum}
use Rattle.psm_table.specs.declared.definition.ForeignKey.{ForeignKey}
use Rattle.psm_table.specs.Cursors.{Cursor}
use Rattle.psm_table.specs.Keyed.{are_keyed, defs_in, rows_in, IsKeyOf}
use Rattle.psm_table.specs.Table.{Contents}
use Rattle.psm_tablecode.specs.TypeChecks.{TypeChecksTable}
use Rattle.psm_cursor.specs.TypeChecks.{StandsIn, TypeChecksCursor}
use Rattle.psm_dml.specs.TypeChecks.{ChecksTypeCheck, SetsTypeCheck, TypeChecksTest}
use Rattle.psm_code.specs.declared.code.CodeCursor.{CodeCursor}
use Rattle.psm_code.specs.declared.code.CodeTable.{CodeTable}
use Rattle.psm_code.specs.declared.code.Plan.{Plan}
use Rattle.psm_code.specs.declared.code.Plan.TheVariants.{Insert, InsertQuery, Update, Delete, UpdateAt, DeleteAt}
use Rattle.psm_code.specs.declared.code.RawCode.{RawCode}
use Rattle.psm_code.specs.declared.code.RawRoutine.{RawRoutine}
use Rattle.psm_code.specs.Parts.{routine_at, slots_of}
use Rattle.psm_code.specs.RoutineRules.{first_fault}
use Rattle.psm_code.specs.MachineInvariant.{are_stored, AreCursors, AreLawful, IsKept}

-- ---- queries

-- a query may be asked: its table is there, and its expressions fit that and the variables
pub record MayAsk (tables : List Contents) (vars : List Datum) (q : Query) : Type 0 where
  pub table : Contents
  pub there : slice_get tables q.table ≡ Some table
  pub fits : TypeChecksTable q vars table.def

-- ---- cursors

-- a declared cursor may be opened: its query may be asked
abbrev pub MayOpen : RawRoutine → List Contents → List Datum → CodeCursor → Type 0
MayOpen r tables vars x = IfSome (slice_get r.queries x.query) (MayAsk tables vars)

-- a cursor may be moved: its query and the table of that are there, and they fit the cursor
pub record MayMove (r : RawRoutine) (tables : List Contents) (x : CodeCursor) (c : Cursor) : Type 0 where
  pub query : Query
  pub asked : slice_get r.queries x.query ≡ Some query
  pub table : Contents
  pub there : slice_get tables query.table ≡ Some table
  pub type_checks : TypeChecksCursor query table.def c

-- the same of the cursor of a number, if it is declared and there
abbrev pub OfCursor : RawRoutine → List Cursor → ℕ → (CodeCursor → Cursor → Type 0) → Type 0
OfCursor r cursors n P = IfSome (slice_get r.cursors n) (λ x. IfSome (slice_get cursors n) (P x))

-- ---- plans

-- a table of the code is there, with its definition and its rules, which its CHECKs fit; and the FOREIGN KEY constraints are of
-- tables that are there, and hold
pub record HasTable (keys : List ForeignKey) (t : CodeTable) (tables : List Contents) (n : ℕ) : Type 0 where
  pub contents : Contents
  pub there : slice_get tables n ≡ Some contents
  pub kept : IsKept t contents
  pub checks : ChecksTypeCheck t.checks contents.def
  pub keys_there : All (IsKeyOf (defs_in tables)) keys
  pub keyed : are_keyed keys (rows_in tables) ≡ true

-- rows may be put in
abbrev pub MayPut : RawCode → List Contents → ℕ → Type 0
MayPut code tables n = IfSome (slice_get code.tables n) (λ t. HasTable code.keys t tables n)

-- rows that meet a test may be changed: the assignments and the test fit the table and the variables
pub record MayChange (keys : List ForeignKey) (tables : List Contents) (n : ℕ) (vars : List Datum) (sets : List SetItem) (test : Option (List Line)) (t : CodeTable) : Type 0 where
  pub table : HasTable keys t tables n
  pub setting : SetsTypeCheck sets vars table.contents.def
  pub testing : TypeChecksTest test vars table.contents.def

-- rows that meet a test may be taken out
pub record MayErase (keys : List ForeignKey) (tables : List Contents) (n : ℕ) (vars : List Datum) (test : Option (List Line)) (t : CodeTable) : Type 0 where
  pub table : HasTable keys t tables n
  pub testing : TypeChecksTest test vars table.contents.def

-- the row on which a cursor over the table stands may be changed
pub record MayChangeAt (keys : List ForeignKey) (tables : List Contents) (n : ℕ) (vars : List Datum) (sets : List SetItem) (c : Cursor) (t : CodeTable) : Type 0 where
  pub table : HasTable keys t tables n
  pub setting : SetsTypeCheck sets vars table.contents.def
  pub stands : StandsIn table.contents.def c

-- the same row may be taken out
pub record MayEraseAt (keys : List ForeignKey) (tables : List Contents) (n : ℕ) (c : Cursor) (t : CodeTable) : Type 0 where
  pub table : HasTable keys t tables n
  pub stands : StandsIn table.contents.def c

-- the table of a cursor's query
abbrev pub OverQuery : RawRoutine → CodeCursor → (ℕ → Type 0) → Type 0
OverQuery r x P = IfSome (slice_get r.queries x.query) (λ q. P q.table)

-- a plan may be done
abbrev pub MayDo : RawCode → RawRoutine → List Contents → List Datum → List Cursor → Plan → Type 0
MayDo code r tables vars cursors (Insert table columns rows) = MayPut code tables table
MayDo code r tables vars cursors (InsertQuery table columns query) = IfSome (slice_get r.queries query) (MayAsk tables vars) × MayPut code tables table
MayDo code r tables vars cursors (Update table sets test) = IfSome (slice_get code.tables table) (MayChange code.keys tables table vars sets test)
MayDo code r tables vars cursors (Delete table test) = IfSome (slice_get code.tables table) (MayErase code.keys tables table vars test)
MayDo code r tables vars cursors (UpdateAt cursor sets) = OfCursor r cursors cursor (λ x c. OverQuery r x (λ n. IfSome (slice_get code.tables n) (MayChangeAt code.keys tables n vars sets c)))
MayDo code r tables vars cursors (DeleteAt cursor) = OfCursor r cursors cursor (λ x c. OverQuery r x (λ n. IfSome (slice_get code.tables n) (MayEraseAt code.keys tables n c)))

-- ---- well-formed code

-- a routine of well-formed code, over tables, variables and cursors that are as the code declares them
pub record RunsWellFormed (code : RawCode) (r : RawRoutine) (tables : List Contents) (vars : List Datum) (cursors : List Cursor) : Type 0 where
  pub well_formed_code : first_fault code ≡ None
  pub routine : ℕ
  pub there : routine_at code routine ≡ Some r
  pub kept : AreLawful code tables
  pub stored : IsTrue (are_stored (slots_of r) vars)
  pub opened : AreCursors code r r.cursors cursors
