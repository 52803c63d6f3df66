-- The size of each tree by its layer, and the routines of a file.
use Rattle.std.proofs.Common.{arith, ◌≡◌, ◌≤◌, ◌+◌, ℕ, zero, suc, Bool, List, [], ◌∷◌, map, filter, slice_get, length, IfSome, All, Contains, subst}
use Rattle.std.proofs.lemmas.List.Elements.{All-nil, All-head, All-tail, All-cons, All-filter}
use Rattle.psm_resolved.specs.declared.expr.ResolvedExpr.{ResolvedExpr, out-ResolvedExpr}
use Rattle.psm_resolved.specs.declared.expr.ResolvedExpr.TheOpen.{ResolvedExpr-F}
use Rattle.psm_resolved.specs.declared.expr.ResolvedExpr.TheOpen as exprs
use Rattle.psm_resolved.specs.declared.expr.ResolvedExpr.TheFolds.{map-ResolvedExpr, fold-ResolvedItems, fold-ResolvedItem, fold-ResolvedOperation, fold-ResolvedWhen, fold_out-ResolvedExpr, fold_out-ResolvedOperation, fold_out-ResolvedWhen}
use Rattle.psm_resolved.specs.declared.expr.ResolvedItems.{ResolvedItems}
use Rattle.psm_resolved.specs.declared.expr.ResolvedItem.{ResolvedItem}
use Rattle.psm_resolved.specs.declared.expr.ResolvedOperation.{ResolvedOperation, out-ResolvedOperation}
use Rattle.psm_resolved.specs.declared.expr.ResolvedQuery.{ResolvedQuery}
use Rattle.psm_resolved.specs.declared.expr.ResolvedWhen.{ResolvedWhen, out-ResolvedWhen}
use Rattle.psm_resolved.specs.declared.file.ResolvedFile.{ResolvedFile}
use Rattle.psm_resolved.specs.declared.file.ResolvedRoutine.{ResolvedRoutine}
use Rattle.psm_resolved.specs.declared.statement.ResolvedBlock.{ResolvedBlock, out-ResolvedBlock}
use Rattle.psm_resolved.specs.declared.statement.ResolvedBranch.{ResolvedBranch, out-ResolvedBranch}
use Rattle.psm_resolved.specs.declared.statement.ResolvedHandler.{ResolvedHandler, out-ResolvedHandler}
use Rattle.psm_resolved.specs.declared.statement.ResolvedStatement.{ResolvedStatement, out-ResolvedStatement}
use Rattle.psm_resolved.specs.declared.statement.ResolvedStatement.TheOpen.{ResolvedStatement-F}
use Rattle.psm_resolved.specs.declared.statement.ResolvedStatement.TheOpen as statements
use Rattle.psm_resolved.specs.declared.statement.ResolvedStatement.TheFolds.{map-ResolvedStatement, fold-ResolvedBlock, fold-ResolvedBranch, fold-ResolvedHandler, fold_out-ResolvedStatement, fold_out-ResolvedBlock, fold_out-ResolvedBranch, fold_out-ResolvedHandler}
use Rattle.psm_meaning.specs.Acts.{Task, Do, Round}
use Rattle.psm_meaning.specs.Fuel.{total, expr_layer, items_layer, item_layer, chain_link_layer, query_layer, when_layer, expr_size, query_size, declaration_size, cursor_size, for_size, statement_layer, block_layer, branch_layer, handler_layer, statement_size, routine_size, file_size}

-- ---- expressions

abbrev pub items_size : ResolvedItems → ℕ
items_size = fold-ResolvedItems ℕ ℕ ℕ ℕ ℕ ℕ expr_layer items_layer item_layer chain_link_layer query_layer when_layer

abbrev pub item_size : ResolvedItem → ℕ
item_size = fold-ResolvedItem ℕ ℕ ℕ ℕ ℕ ℕ expr_layer items_layer item_layer chain_link_layer query_layer when_layer

abbrev pub chain_link_size : ResolvedOperation → ℕ
chain_link_size = fold-ResolvedOperation ℕ ℕ ℕ ℕ ℕ ℕ expr_layer items_layer item_layer chain_link_layer query_layer when_layer

abbrev pub when_size : ResolvedWhen → ℕ
when_size = fold-ResolvedWhen ℕ ℕ ℕ ℕ ℕ ℕ expr_layer items_layer item_layer chain_link_layer query_layer when_layer

-- the size of an expression whose layer it is
abbrev pub size_of : ResolvedExpr-F ResolvedExpr ResolvedItems ResolvedItem ResolvedOperation ResolvedQuery ResolvedWhen → ℕ
size_of layer = expr_layer (map-ResolvedExpr ResolvedExpr ResolvedItems ResolvedItem ResolvedOperation ResolvedQuery ResolvedWhen ℕ ℕ ℕ ℕ ℕ ℕ expr_size items_size item_size chain_link_size query_size when_size layer)

pub expr_size-out : (e : ResolvedExpr) → expr_size e ≡ size_of (out-ResolvedExpr e)
expr_size-out e = fold_out-ResolvedExpr ℕ ℕ ℕ ℕ ℕ ℕ expr_layer items_layer item_layer chain_link_layer query_layer when_layer e

pub chain_link_size-out : (l : ResolvedOperation) → chain_link_size l ≡ expr_size (out-ResolvedOperation l).operand + 1
chain_link_size-out l = fold_out-ResolvedOperation ℕ ℕ ℕ ℕ ℕ ℕ expr_layer items_layer item_layer chain_link_layer query_layer when_layer l

pub when_size-out : (w : ResolvedWhen) → when_size w ≡ expr_size (out-ResolvedWhen w).test + expr_size (out-ResolvedWhen w).result + 1
when_size-out w = fold_out-ResolvedWhen ℕ ℕ ℕ ℕ ℕ ℕ expr_layer items_layer item_layer chain_link_layer query_layer when_layer w

-- ---- statements

abbrev pub block_size : ResolvedBlock → ℕ
block_size = fold-ResolvedBlock ℕ ℕ ℕ ℕ statement_layer block_layer branch_layer handler_layer

abbrev pub branch_size : ResolvedBranch → ℕ
branch_size = fold-ResolvedBranch ℕ ℕ ℕ ℕ statement_layer block_layer branch_layer handler_layer

abbrev pub handler_size : ResolvedHandler → ℕ
handler_size = fold-ResolvedHandler ℕ ℕ ℕ ℕ statement_layer block_layer branch_layer handler_layer

abbrev pub statements_size : List ResolvedStatement → ℕ
statements_size ss = total (map statement_size ss)

-- the size of a statement whose layer it is
abbrev pub size_of_statement : ResolvedStatement-F ResolvedStatement ResolvedBlock ResolvedBranch ResolvedHandler → ℕ
size_of_statement layer = statement_layer (map-ResolvedStatement ResolvedStatement ResolvedBlock ResolvedBranch ResolvedHandler ℕ ℕ ℕ ℕ statement_size block_size branch_size handler_size layer)

pub statement_size-out : (s : ResolvedStatement) → statement_size s ≡ size_of_statement (out-ResolvedStatement s)
statement_size-out s = fold_out-ResolvedStatement ℕ ℕ ℕ ℕ statement_layer block_layer branch_layer handler_layer s

pub block_size-out : (b : ResolvedBlock) → block_size b ≡ total (map declaration_size (out-ResolvedBlock b).declarations) + total (map cursor_size (out-ResolvedBlock b).cursors) + total (map handler_size (out-ResolvedBlock b).handlers) + statements_size (out-ResolvedBlock b).statements + 1
block_size-out b = fold_out-ResolvedBlock ℕ ℕ ℕ ℕ statement_layer block_layer branch_layer handler_layer b

pub branch_size-out : (b : ResolvedBranch) → branch_size b ≡ expr_size (out-ResolvedBranch b).test + statements_size (out-ResolvedBranch b).statements + 1
branch_size-out b = fold_out-ResolvedBranch ℕ ℕ ℕ ℕ statement_layer block_layer branch_layer handler_layer b

pub handler_size-out : (h : ResolvedHandler) → handler_size h ≡ length (out-ResolvedHandler h).values + statement_size (out-ResolvedHandler h).action + 1
handler_size-out h = fold_out-ResolvedHandler ℕ ℕ ℕ ℕ statement_layer block_layer branch_layer handler_layer h

-- the rounds of a FOR statement are a part of it
abbrev pub task_size : Task → ℕ
task_size (Do s) = statement_size s
task_size (Round level head ss) = for_size head + statements_size ss

-- ---- no tree is empty

layer-pos : (layer : ResolvedExpr-F ResolvedExpr ResolvedItems ResolvedItem ResolvedOperation ResolvedQuery ResolvedWhen) → 1 ≤ size_of layer
layer-pos exprs.Null = omega arith
layer-pos (exprs.Number n) = omega arith
layer-pos (exprs.Text t) = omega arith
layer-pos (exprs.Column i) = omega arith
layer-pos (exprs.Variable i) = omega arith
layer-pos (exprs.LogicalOperator j operands) = omega arith
layer-pos (exprs.Not condition) = omega arith
layer-pos (exprs.Compare operator left right) = omega arith
layer-pos (exprs.IsNull negated value) = omega arith
layer-pos (exprs.Between negated value low high) = omega arith
layer-pos (exprs.In negated value list) = omega arith
layer-pos (exprs.Like negated value pattern escape) = omega arith
layer-pos (exprs.OperatorChain first chain_links) = omega arith
layer-pos (exprs.Negated e) = omega arith
layer-pos (exprs.Call function arguments) = omega arith
layer-pos (exprs.Scalar query) = omega arith
layer-pos (exprs.Exists query) = omega arith
layer-pos (exprs.Case e whens otherwise scale) = omega arith
layer-pos (exprs.Coalesce values scale) = omega arith
layer-pos (exprs.Cast source to) = omega arith
layer-pos (exprs.NullIf left right) = omega arith
layer-pos (exprs.Function function argument) = omega arith
layer-pos (exprs.Position part whole) = omega arith
layer-pos (exprs.Substring text from length) = omega arith
layer-pos (exprs.Trim side text) = omega arith

pub expr_size-pos : (e : ResolvedExpr) → 1 ≤ expr_size e
expr_size-pos e = omega (arith, expr_size-out e, layer-pos (out-ResolvedExpr e))

statement_layer-pos : (layer : ResolvedStatement-F ResolvedStatement ResolvedBlock ResolvedBranch ResolvedHandler) → 1 ≤ size_of_statement layer
statement_layer-pos (statements.Compound level block) = omega arith
statement_layer-pos (statements.Loop level ss) = omega arith
statement_layer-pos (statements.While level test ss) = omega arith
statement_layer-pos (statements.Repeat level ss until) = omega arith
statement_layer-pos (statements.For level head ss) = omega arith
statement_layer-pos (statements.If branches otherwise) = omega arith
statement_layer-pos (statements.Case e branches otherwise) = omega arith
statement_layer-pos (statements.Simple s) = omega arith

pub task_size-pos : (t : Task) → 1 ≤ task_size t
task_size-pos (Do s) = omega (arith, statement_size-out s, statement_layer-pos (out-ResolvedStatement s))
task_size-pos (Round level head ss) = omega arith

-- ---- the routines of a file

abbrev pub BodyWithin : ℕ → ResolvedRoutine → Type 0
BodyWithin k r = statement_size r.body ≤ k

bodies : (k : ℕ) (rs : List ResolvedRoutine) → total (map routine_size rs) ≤ k → All (BodyWithin k) rs
bodies k [] p = All-nil (BodyWithin k)
bodies k (r ∷ rs) p = All-cons (BodyWithin k) r rs (omega (arith, p)) (bodies k rs (omega (arith, p)))

pub IfSome-slice_get : {A : Type 0} (P : A → Type 0) (xs : List A) (n : ℕ) → All P xs → IfSome (slice_get xs n) P
IfSome-slice_get P [] n h = tt
IfSome-slice_get P (x ∷ xs) zero h = All-head P x xs h
IfSome-slice_get P (x ∷ xs) (suc n) h = IfSome-slice_get P xs n (All-tail P x xs h)

bodies_of_file : (file : ResolvedFile) → All (BodyWithin (file_size file)) file.routines
bodies_of_file file = bodies (file_size file) file.routines (omega arith)

-- the routine that a number stands for has a body no greater than the file
pub body_of-le : (file : ResolvedFile) (test : ResolvedRoutine → Bool) (n : ℕ) → IfSome (slice_get (filter test file.routines) n) (BodyWithin (file_size file))
body_of-le file test n = IfSome-slice_get (BodyWithin (file_size file)) (filter test file.routines) n (All-filter test (BodyWithin (file_size file)) file.routines (bodies_of_file file))

pub body-le : (file : ResolvedFile) (r : ResolvedRoutine) → Contains file.routines r → statement_size r.body ≤ file_size file
body-le file r c = subst (BodyWithin (file_size file)) c.2 (bodies_of_file file c.0 r c.1)
