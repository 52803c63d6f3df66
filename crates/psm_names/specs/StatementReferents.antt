-- The referents that stand in a resolved statement, in the order of the source.
use Rattle.std.specs.Prelude.{ℕ, suc, List, [], ◌∷◌, ◌++◌, map, Option, option_map}
use Rattle.psm_cond.specs.declared.handlers.ConditionValue.{ConditionValue}
use Rattle.psm_cond.specs.declared.handlers.ConditionValue.TheVariants as values
use Rattle.psm_resolved.specs.declared.expr.ResolvedExpr.{ResolvedExpr}
use Rattle.psm_resolved.specs.declared.file.ResolvedRoutine.{ResolvedRoutine}
use Rattle.psm_resolved.specs.declared.statement.ResolvedArgument.{ResolvedArgument}
use Rattle.psm_resolved.specs.declared.statement.ResolvedArgument.TheVariants.{In, Out, InOut}
use Rattle.psm_resolved.specs.declared.statement.ResolvedBlock.{ResolvedBlock}
use Rattle.psm_resolved.specs.declared.statement.ResolvedBranch.{ResolvedBranch}
use Rattle.psm_resolved.specs.declared.statement.ResolvedCondition.TheVariants as conditions
use Rattle.psm_resolved.specs.declared.statement.ResolvedCursor.{ResolvedCursor}
use Rattle.psm_resolved.specs.declared.statement.ResolvedDeclaration.{ResolvedDeclaration}
use Rattle.psm_resolved.specs.declared.statement.ResolvedDiagnostics.{ResolvedDiagnostics}
use Rattle.psm_resolved.specs.declared.statement.ResolvedDiagnostics.TheVariants as gotten
use Rattle.psm_resolved.specs.declared.statement.ResolvedFor.{ResolvedFor}
use Rattle.psm_resolved.specs.declared.statement.ResolvedHandler.{ResolvedHandler}
use Rattle.psm_resolved.specs.declared.statement.ResolvedNumber.{ResolvedNumber}
use Rattle.psm_resolved.specs.declared.statement.ResolvedNumber.TheVariants as numbers
use Rattle.psm_resolved.specs.declared.statement.ResolvedRows.{ResolvedRows}
use Rattle.psm_resolved.specs.declared.statement.ResolvedRows.TheVariants as rows
use Rattle.psm_resolved.specs.declared.statement.ResolvedSet.{ResolvedSet}
use Rattle.psm_resolved.specs.declared.statement.ResolvedSignal.{ResolvedSignal}
use Rattle.psm_resolved.specs.declared.statement.ResolvedSimple.{ResolvedSimple}
use Rattle.psm_resolved.specs.declared.statement.ResolvedSimple.TheVariants as simples
use Rattle.psm_resolved.specs.declared.statement.ResolvedStatement.{ResolvedStatement}
use Rattle.psm_resolved.specs.declared.statement.ResolvedStatement.TheOpen.{ResolvedStatement-F, ResolvedBlock-F, ResolvedBranch-F, ResolvedHandler-F}
use Rattle.psm_resolved.specs.declared.statement.ResolvedStatement.TheOpen as layers
use Rattle.psm_resolved.specs.declared.statement.ResolvedStatement.TheFolds.{fold-ResolvedStatement, fold-ResolvedBlock, fold-ResolvedBranch, fold-ResolvedHandler}
use Rattle.psm_resolved.specs.declared.statement.ResolvedWhere.{ResolvedWhere}
use Rattle.psm_resolved.specs.declared.statement.ResolvedWhere.TheVariants as which_of
use Rattle.psm_names.specs.Referents.{Column, Variable, Cursor, Condition, Block, Table, Procedure, Declaration, together, perhaps}
use Rattle.psm_names.specs.ExprReferents.{R, expr_referents, query_referents}

abbrev pub optional_referents : Option ResolvedExpr → R
optional_referents e = perhaps (option_map expr_referents e)

abbrev pub of_exprs : List ResolvedExpr → R
of_exprs es = together (map expr_referents es)

abbrev pub of_slots : List ℕ → R
of_slots slots = map (λ k. Variable k) slots

-- ---- simple statements

abbrev pub of_argument : ResolvedArgument → R
of_argument (In e) = expr_referents e
of_argument (Out slot) = Variable slot ∷ []
of_argument (InOut slot) = Variable slot ∷ []

abbrev pub of_signal : ResolvedSignal → R
of_signal s = Condition s.condition ∷ optional_referents s.message

abbrev pub of_number : ResolvedNumber → R
of_number (numbers.Constant n) = []
of_number (numbers.Variable slot) = Variable slot ∷ []

abbrev pub of_diagnostics : ResolvedDiagnostics → R
of_diagnostics (gotten.Statement area items) = map (λ i. Variable i.0) items
of_diagnostics (gotten.Condition area number items) = of_number number ++ map (λ i. Variable i.0) items

abbrev pub of_rows : ResolvedRows → R
of_rows (rows.Values values) = together (map of_exprs values)
of_rows (rows.Query query) = query_referents query

abbrev pub of_set : ResolvedSet → R
of_set s = Column s.column ∷ expr_referents s.source

abbrev pub of_where : ResolvedWhere → R
of_where which_of.All = []
of_where (which_of.Test e) = expr_referents e
of_where (which_of.Current cursor) = Cursor cursor ∷ []

abbrev pub simple_referents : ResolvedSimple → R
simple_referents (simples.Set slot source) = Variable slot ∷ expr_referents source
simple_referents (simples.Call procedure arguments) = Procedure procedure ∷ together (map of_argument arguments)
simple_referents (simples.Return source) = expr_referents source
simple_referents (simples.Leave level) = Block level ∷ []
simple_referents (simples.Iterate level) = Block level ∷ []
simple_referents (simples.Signal s) = of_signal s
simple_referents (simples.Resignal s) = perhaps (option_map of_signal s)
simple_referents (simples.GetDiagnostics d) = of_diagnostics d
simple_referents (simples.SelectInto query slots) = query_referents query ++ of_slots slots
simple_referents (simples.Insert table columns rows) = Table table ∷ (map (λ i. Column i) columns ++ of_rows rows)
simple_referents (simples.Update table sets which) = Table table ∷ (together (map of_set sets) ++ of_where which)
simple_referents (simples.Delete table which) = Table table ∷ of_where which
simple_referents (simples.Open cursor) = Cursor cursor ∷ []
simple_referents (simples.Fetch cursor slots) = Cursor cursor ∷ of_slots slots
simple_referents (simples.Close cursor) = Cursor cursor ∷ []

-- ---- declarations

abbrev pub declaring_slots : List ℕ → R
declaring_slots slots = map (λ k. Declaration (Variable k)) slots

abbrev pub of_declaration : ResolvedDeclaration → R
of_declaration d = declaring_slots d.slots ++ optional_referents d.default

abbrev pub of_cursor : ResolvedCursor → R
of_cursor c = Declaration (Cursor c.number) ∷ query_referents c.query

abbrev pub of_head : ResolvedFor → R
of_head h = of_cursor h.cursor ++ declaring_slots h.slots

abbrev pub of_value : ConditionValue → R
of_value (values.State s) = Condition (conditions.State s) ∷ []
of_value (values.Named n) = Condition (conditions.Own n) ∷ []
of_value values.SqlException = []
of_value values.SqlWarning = []
of_value values.NotFound = []

-- ---- layers, in which the parts are what stands in them

abbrev pub statement_layer : ResolvedStatement-F R R R R → R
statement_layer (layers.Compound level block) = Declaration (Block level) ∷ block
statement_layer (layers.Loop level statements) = Declaration (Block level) ∷ together statements
statement_layer (layers.While level test statements) = Declaration (Block level) ∷ (expr_referents test ++ together statements)
statement_layer (layers.Repeat level statements until) = Declaration (Block level) ∷ (together statements ++ expr_referents until)
statement_layer (layers.For level head statements) = Declaration (Block level) ∷ (of_head head ++ together statements)
statement_layer (layers.If branches otherwise) = together branches ++ together otherwise
statement_layer (layers.Case operand branches otherwise) = optional_referents operand ++ (together branches ++ together otherwise)
statement_layer (layers.Simple simple) = simple_referents simple

abbrev pub block_layer : ResolvedBlock-F R R R R → R
block_layer b = (together (map of_declaration b.declarations) ++ together (map of_cursor b.cursors)) ++ (together b.handlers ++ together b.statements)

abbrev pub branch_layer : ResolvedBranch-F R R R R → R
branch_layer b = expr_referents b.test ++ together b.statements

abbrev pub handler_layer : ResolvedHandler-F R R R R → R
handler_layer h = together (map of_value h.values) ++ h.action

abbrev pub statement_referents : ResolvedStatement → R
statement_referents = fold-ResolvedStatement R R R R statement_layer block_layer branch_layer handler_layer

abbrev pub block_referents : ResolvedBlock → R
block_referents = fold-ResolvedBlock R R R R statement_layer block_layer branch_layer handler_layer

abbrev pub branch_referents : ResolvedBranch → R
branch_referents = fold-ResolvedBranch R R R R statement_layer block_layer branch_layer handler_layer

abbrev pub handler_referents : ResolvedHandler → R
handler_referents = fold-ResolvedHandler R R R R statement_layer block_layer branch_layer handler_layer

-- the first parameter has slot 0, and so on
abbrev pub slots_from : {A : Type 0} → ℕ → List A → List ℕ
slots_from k [] = []
slots_from k (x ∷ xs) = k ∷ slots_from (suc k) xs

abbrev pub routine_referents : ResolvedRoutine → R
routine_referents r = declaring_slots (slots_from 0 r.parameters) ++ statement_referents r.body
