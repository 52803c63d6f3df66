-- What an accepted module file always has (ISO/IEC 9075-4:1996, and 9075:1992, clause 13): what a statement names is in scope, each
-- cursor has a number of its own, arguments are for the parameters, and expressions are of letters.
use Rattle.std.specs.List.{concat, list_all}
use Rattle.std.specs.Prelude.{◌≡◌, ◌<◌, ℕ, suc, Bool, true, false, not, ◌||◌, List, [], ◌∷◌, ◌++◌, find, length, map, nat_eq, Option, Some, None}
use Rattle.psm_value.specs.declared.sqltype.SqlType.{SqlType}
use Rattle.psm_resolved.specs.declared.expr.ResolvedExpr.{ResolvedExpr}
use Rattle.psm_resolved.specs.declared.expr.ResolvedQuery.{ResolvedQuery}
use Rattle.psm_resolved.specs.declared.file.ResolvedFile.{ResolvedFile}
use Rattle.psm_resolved.specs.declared.file.ResolvedRoutine.{ResolvedRoutine}
use Rattle.psm_resolved.specs.declared.statement.ResolvedBlock.{ResolvedBlock, out-ResolvedBlock}
use Rattle.psm_resolved.specs.declared.statement.ResolvedBranch.{ResolvedBranch, out-ResolvedBranch}
use Rattle.psm_resolved.specs.declared.statement.ResolvedCondition.{ResolvedCondition}
use Rattle.psm_resolved.specs.declared.statement.ResolvedCondition.TheVariants as conditions
use Rattle.psm_resolved.specs.declared.statement.ResolvedCursor.{ResolvedCursor}
use Rattle.psm_resolved.specs.declared.statement.ResolvedDiagnostics.{ResolvedDiagnostics}
use Rattle.psm_resolved.specs.declared.statement.ResolvedDiagnostics.TheVariants as diagnostics
use Rattle.psm_resolved.specs.declared.statement.ResolvedFor.{ResolvedFor}
use Rattle.psm_resolved.specs.declared.statement.ResolvedHandler.{ResolvedHandler, out-ResolvedHandler}
use Rattle.psm_resolved.specs.declared.statement.ResolvedRows.{ResolvedRows}
use Rattle.psm_resolved.specs.declared.statement.ResolvedRows.TheVariants as given
use Rattle.psm_resolved.specs.declared.statement.ResolvedSet.{ResolvedSet}
use Rattle.psm_resolved.specs.declared.statement.ResolvedSignal.{ResolvedSignal}
use Rattle.psm_resolved.specs.declared.statement.ResolvedSimple.{ResolvedSimple}
use Rattle.psm_resolved.specs.declared.statement.ResolvedSimple.TheVariants as simples
use Rattle.psm_resolved.specs.declared.statement.ResolvedStatement.{ResolvedStatement, out-ResolvedStatement}
use Rattle.psm_resolved.specs.declared.statement.ResolvedStatement.TheFolds.{fold-ResolvedStatement}
use Rattle.psm_resolved.specs.declared.statement.ResolvedStatement.TheOpen.{ResolvedStatement-F, ResolvedBlock-F, ResolvedBranch-F, ResolvedHandler-F}
use Rattle.psm_resolved.specs.declared.statement.ResolvedStatement.TheOpen as layers
use Rattle.psm_resolved.specs.declared.statement.ResolvedWhere.{ResolvedWhere}
use Rattle.psm_resolved.specs.declared.statement.ResolvedWhere.TheVariants as which
use Rattle.psm_meaning.specs.Calls.{procedure_at}
use Rattle.psm_code.specs.RoutineRules.{is_undo}
use Rattle.psm_simulation.specs.Changes.{IsOver}
use Rattle.psm_simulation.specs.Scheme.{AreFor}
use Rattle.psm_exprgen.specs.Queries.{is_query, is_set, is_test_perhaps}
use Rattle.psm_exprgen.specs.Written.{letters_at}
use Rattle.psm_codegen.specs.Files.{known_of}
use Rattle.psm_codegen.specs.Outside.{ArgumentsOutside, ChecksAreTests, DefaultsOutside, Outside, PerhapsOutside, RowsOutside}

-- ---- the numbers of cursors, in the order of their declarations: a block's own, those in the actions of its handlers, and those in
-- its statements

abbrev pub numbers_of : List ResolvedCursor → List ℕ
numbers_of xs = map (λ x. x.number) xs

abbrev pub cursors_layer : ResolvedStatement-F (List ℕ) (List ℕ) (List ℕ) (List ℕ) → List ℕ
cursors_layer (layers.Compound level block) = block
cursors_layer (layers.Loop level statements) = concat statements
cursors_layer (layers.While level test statements) = concat statements
cursors_layer (layers.Repeat level statements until) = concat statements
cursors_layer (layers.For level head statements) = head.cursor.number ∷ concat statements
cursors_layer (layers.If branches otherwise) = concat branches ++ concat otherwise
cursors_layer (layers.Case operand branches otherwise) = concat branches ++ concat otherwise
cursors_layer (layers.Simple simple) = []

abbrev pub block_cursors_layer : ResolvedBlock-F (List ℕ) (List ℕ) (List ℕ) (List ℕ) → List ℕ
block_cursors_layer b = numbers_of b.cursors ++ (concat b.handlers ++ concat b.statements)

abbrev pub branch_cursors_layer : ResolvedBranch-F (List ℕ) (List ℕ) (List ℕ) (List ℕ) → List ℕ
branch_cursors_layer b = concat b.statements

abbrev pub handler_cursors_layer : ResolvedHandler-F (List ℕ) (List ℕ) (List ℕ) (List ℕ) → List ℕ
handler_cursors_layer h = h.action

abbrev pub cursors_of : ResolvedStatement → List ℕ
cursors_of = fold-ResolvedStatement (List ℕ) (List ℕ) (List ℕ) (List ℕ) cursors_layer block_cursors_layer branch_cursors_layer handler_cursors_layer

-- the numbers from one up to another, each once and in order
abbrev pub CountsUp : ℕ → List ℕ → ℕ → Type 0
CountsUp from [] to = from ≡ to
CountsUp from (n ∷ ns) to = (n ≡ from) × CountsUp (suc from) ns to

-- ---- what a statement sees

-- the levels of the blocks whose handlers are in scope, of what LEAVE can name and of what ITERATE can name, and the cursors
pub record BlockScope : Type 0 where
  pub blocks : List ℕ
  pub labels : List ℕ
  pub loops : List ℕ
  pub cursors : List ResolvedCursor

-- the body of a routine
abbrev pub outermost : BlockScope
outermost = record { blocks = []; labels = []; loops = []; cursors = [] }

abbrev pub in_loop : ℕ → BlockScope → BlockScope
in_loop level block_scope = record block_scope { labels = level ∷ block_scope.labels; loops = level ∷ block_scope.loops }

abbrev pub in_block : ℕ → List ResolvedCursor → BlockScope → BlockScope
in_block level cursors block_scope = record block_scope { blocks = level ∷ block_scope.blocks; labels = level ∷ block_scope.labels; cursors = cursors ++ block_scope.cursors }

-- the action of a handler stands outside the scope of its block's handlers, and can name no label from outside
abbrev pub in_action : List ResolvedCursor → BlockScope → BlockScope
in_action cursors block_scope = record block_scope { labels = []; loops = []; cursors = cursors ++ block_scope.cursors }

abbrev pub in_for : ℕ → ResolvedCursor → BlockScope → BlockScope
in_for level cursor block_scope = record (in_loop level block_scope) { cursors = cursor ∷ block_scope.cursors }

abbrev pub is_among : ℕ → List ℕ → Bool
is_among n [] = false
is_among n (x ∷ xs) = nat_eq n x || is_among n xs

-- the innermost cursor of that number is over the table
abbrev pub SeesOver : BlockScope → ℕ → ℕ → Type 0
SeesOver block_scope number table = (x : ResolvedCursor) × (find (λ y. nat_eq y.number number) block_scope.cursors ≡ Some x) × IsOver x table

abbrev pub SeesCursor : BlockScope → ℕ → Type 0
SeesCursor block_scope number = (x : ResolvedCursor) × (find (λ y. nat_eq y.number number) block_scope.cursors ≡ Some x)

-- ---- expressions

abbrev pub StandsOutside : ResolvedFile → ResolvedRoutine → ResolvedExpr → Type 0
StandsOutside file routine e = Outside file (known_of file routine) e

abbrev pub StandsPerhaps : ResolvedFile → ResolvedRoutine → Option ResolvedExpr → Type 0
StandsPerhaps file routine e = PerhapsOutside file (known_of file routine) e

abbrev pub QueryFits : ResolvedFile → ResolvedRoutine → ResolvedQuery → Type 0
QueryFits file routine query = is_query (known_of file routine) query ≡ true

abbrev pub CursorsFit : ResolvedFile → ResolvedRoutine → List ResolvedCursor → Type 0
CursorsFit file routine [] = Unit {0}
CursorsFit file routine (x ∷ xs) = QueryFits file routine x.query × CursorsFit file routine xs

-- the columns of a table that are set
abbrev pub SetsFit : ResolvedFile → ResolvedRoutine → ℕ → List ResolvedSet → Type 0
SetsFit file routine table sets = let known = known_of file routine in list_all (is_set (letters_at known.columns table) known.variables) sets ≡ true

abbrev pub TestFits : ResolvedFile → ResolvedRoutine → ℕ → Option ResolvedExpr → Type 0
TestFits file routine table test = let known = known_of file routine in is_test_perhaps (letters_at known.columns table) known.variables test ≡ true

-- the rows of a table that are changed
abbrev pub WhereFits : ResolvedFile → ResolvedRoutine → BlockScope → ℕ → ResolvedWhere → Type 0
WhereFits file routine block_scope table which.All = Unit {0}
WhereFits file routine block_scope table (which.Test e) = TestFits file routine table (Some e)
WhereFits file routine block_scope table (which.Current cursor) = SeesOver block_scope cursor table

-- ---- simple statements

abbrev pub ConditionFits : ResolvedRoutine → ResolvedCondition → Type 0
ConditionFits routine (conditions.State s) = Unit {0}
ConditionFits routine (conditions.Own n) = n < length routine.conditions

abbrev pub SignalFits : ResolvedFile → ResolvedRoutine → ResolvedSignal → Type 0
SignalFits file routine s = ConditionFits routine s.condition × StandsPerhaps file routine s.message

-- GET DIAGNOSTICS names an item
abbrev pub DiagnosticsFit : ResolvedDiagnostics → Type 0
DiagnosticsFit (diagnostics.Statement area []) = ⊥
DiagnosticsFit (diagnostics.Statement area (i ∷ items)) = Unit {0}
DiagnosticsFit (diagnostics.Condition area number []) = ⊥
DiagnosticsFit (diagnostics.Condition area number (i ∷ items)) = Unit {0}

abbrev pub RowsFit : ResolvedFile → ResolvedRoutine → ℕ → ResolvedRows → Type 0
RowsFit file routine width (given.Values rows) = RowsOutside file (known_of file routine) width rows
RowsFit file routine width (given.Query query) = QueryFits file routine query

abbrev pub SimpleFits : ResolvedFile → ResolvedRoutine → BlockScope → ResolvedSimple → Type 0
SimpleFits file routine block_scope (simples.Set slot e) = StandsOutside file routine e
SimpleFits file routine block_scope (simples.Call procedure args) = (q : ResolvedRoutine) × (procedure_at file procedure ≡ Some q) × AreFor args q.parameters × ArgumentsOutside file (known_of file routine) args
SimpleFits file routine block_scope (simples.Return e) = StandsOutside file routine e
SimpleFits file routine block_scope (simples.Leave level) = is_among level block_scope.labels ≡ true
SimpleFits file routine block_scope (simples.Iterate level) = is_among level block_scope.loops ≡ true
SimpleFits file routine block_scope (simples.Signal s) = SignalFits file routine s
SimpleFits file routine block_scope (simples.Resignal None) = Unit {0}
SimpleFits file routine block_scope (simples.Resignal (Some s)) = SignalFits file routine s
SimpleFits file routine block_scope (simples.GetDiagnostics d) = DiagnosticsFit d
SimpleFits file routine block_scope (simples.SelectInto query slots) = QueryFits file routine query
SimpleFits file routine block_scope (simples.Insert table columns rows) = RowsFit file routine (length columns) rows
SimpleFits file routine block_scope (simples.Update table sets rows) = SetsFit file routine table sets × WhereFits file routine block_scope table rows
SimpleFits file routine block_scope (simples.Delete table rows) = WhereFits file routine block_scope table rows
SimpleFits file routine block_scope (simples.Open cursor) = SeesCursor block_scope cursor
SimpleFits file routine block_scope (simples.Fetch cursor slots) = SeesCursor block_scope cursor
SimpleFits file routine block_scope (simples.Close cursor) = SeesCursor block_scope cursor

-- ---- statements

abbrev pub Layer : Type 0
Layer = ResolvedStatement-F ResolvedStatement ResolvedBlock ResolvedBranch ResolvedHandler

-- a block has a level that no block has whose handlers are in scope
abbrev pub IsNewLevel : ℕ → BlockScope → Type 0
IsNewLevel level block_scope = is_among level block_scope.blocks ≡ false

abbrev pub HasSome : {A : Type 0} → List A → Type 0
HasSome [] = ⊥
HasSome (x ∷ xs) = Unit {0}

mutual
  pub data Fits (file : ResolvedFile) (routine : ResolvedRoutine) : BlockScope → ResolvedStatement → Type 0 where
    fits : {block_scope : BlockScope} {s : ResolvedStatement} → LayerFits file routine block_scope (out-ResolvedStatement s) → Fits file routine block_scope s

  pub data LayerFits (file : ResolvedFile) (routine : ResolvedRoutine) : BlockScope → Layer → Type 0 where
    compound : {block_scope : BlockScope} {level : ℕ} {block : ResolvedBlock} → IsNewLevel level block_scope → DefaultsOutside file (known_of file routine) (out-ResolvedBlock block).declarations → CursorsFit file routine (out-ResolvedBlock block).cursors
        → HandlersFit file routine (in_action (out-ResolvedBlock block).cursors block_scope) (out-ResolvedBlock block).atomic (out-ResolvedBlock block).handlers
        → AllFit file routine (in_block level (out-ResolvedBlock block).cursors block_scope) (out-ResolvedBlock block).statements → LayerFits file routine block_scope (layers.Compound level block)
    loop : {block_scope : BlockScope} {level : ℕ} {statements : List ResolvedStatement} → AllFit file routine (in_loop level block_scope) statements → LayerFits file routine block_scope (layers.Loop level statements)
    while : {block_scope : BlockScope} {level : ℕ} {test : ResolvedExpr} {statements : List ResolvedStatement} → StandsOutside file routine test → AllFit file routine (in_loop level block_scope) statements → LayerFits file routine block_scope (layers.While level test statements)
    repeat : {block_scope : BlockScope} {level : ℕ} {statements : List ResolvedStatement} {until : ResolvedExpr} → AllFit file routine (in_loop level block_scope) statements → StandsOutside file routine until → LayerFits file routine block_scope (layers.Repeat level statements until)
    for_ : {block_scope : BlockScope} {level : ℕ} {head : ResolvedFor} {statements : List ResolvedStatement} → IsNewLevel level block_scope → QueryFits file routine head.cursor.query
        → AllFit file routine (in_for level head.cursor block_scope) statements → LayerFits file routine block_scope (layers.For level head statements)
    if_ : {block_scope : BlockScope} {branches : List ResolvedBranch} {otherwise : List ResolvedStatement} → BranchesFit file routine block_scope branches → AllFit file routine block_scope otherwise → LayerFits file routine block_scope (layers.If branches otherwise)
    case : {block_scope : BlockScope} {operand : Option ResolvedExpr} {branches : List ResolvedBranch} {otherwise : List ResolvedStatement} → StandsPerhaps file routine operand → BranchesFit file routine block_scope branches → AllFit file routine block_scope otherwise
        → LayerFits file routine block_scope (layers.Case operand branches otherwise)
    simple : {block_scope : BlockScope} {statement : ResolvedSimple} → SimpleFits file routine block_scope statement → LayerFits file routine block_scope (layers.Simple statement)

  pub data AllFit (file : ResolvedFile) (routine : ResolvedRoutine) : BlockScope → List ResolvedStatement → Type 0 where
    none : {block_scope : BlockScope} → AllFit file routine block_scope []
    more : {block_scope : BlockScope} {s : ResolvedStatement} {ss : List ResolvedStatement} → Fits file routine block_scope s → AllFit file routine block_scope ss → AllFit file routine block_scope (s ∷ ss)

  pub data BranchesFit (file : ResolvedFile) (routine : ResolvedRoutine) : BlockScope → List ResolvedBranch → Type 0 where
    no_branch : {block_scope : BlockScope} → BranchesFit file routine block_scope []
    branch : {block_scope : BlockScope} {x : ResolvedBranch} {xs : List ResolvedBranch} → StandsOutside file routine (out-ResolvedBranch x).test → AllFit file routine block_scope (out-ResolvedBranch x).statements
        → BranchesFit file routine block_scope xs → BranchesFit file routine block_scope (x ∷ xs)

  -- a handler has a value, and UNDO stands in an ATOMIC block alone
  pub data HandlersFit (file : ResolvedFile) (routine : ResolvedRoutine) : BlockScope → Bool → List ResolvedHandler → Type 0 where
    no_handler : {block_scope : BlockScope} {atomic : Bool} → HandlersFit file routine block_scope atomic []
    handler : {block_scope : BlockScope} {atomic : Bool} {h : ResolvedHandler} {hs : List ResolvedHandler} → HasSome (out-ResolvedHandler h).values → not (is_undo (out-ResolvedHandler h).kind) || atomic ≡ true
        → Fits file routine block_scope (out-ResolvedHandler h).action → HandlersFit file routine block_scope atomic hs → HandlersFit file routine block_scope atomic (h ∷ hs)

-- ---- routines and files

-- the parameters have the first slots
pub record RoutineFits (file : ResolvedFile) (routine : ResolvedRoutine) : Type 0 where
  pub variables : List SqlType
  pub slots : routine.slots ≡ map (λ p. p.kind) routine.parameters ++ variables
  pub cursors : CountsUp 0 (cursors_of routine.body) routine.cursors
  pub body : Fits file routine outermost routine.body

abbrev pub RoutinesFit : ResolvedFile → List ResolvedRoutine → Type 0
RoutinesFit file [] = Unit {0}
RoutinesFit file (r ∷ rs) = RoutineFits file r × RoutinesFit file rs

pub record CanStand (file : ResolvedFile) : Type 0 where
  pub tables : ChecksAreTests file
  pub routines : RoutinesFit file file.routines
