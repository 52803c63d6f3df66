-- How much fuel is enough: the size of a module file's routines, as the number of nodes and list cells of their trees, and
-- what a number of turns adds to it. Whatever is done at once is of that size at most, and whatever is done again uses a turn.
use Rattle.std.specs.Prelude.{ℕ, ◌+◌, ◌*◌, List, [], ◌∷◌, length, map, Option, Some, None}
use Rattle.psm_list.specs.Several.{Several}
use Rattle.psm_resolved.specs.declared.expr.ResolvedExpr.{ResolvedExpr}
use Rattle.psm_resolved.specs.declared.expr.ResolvedExpr.TheOpen.{ResolvedExpr-F, ResolvedItems-F, ResolvedItem-F, ResolvedOperation-F, ResolvedQuery-F, ResolvedWhen-F}
use Rattle.psm_resolved.specs.declared.expr.ResolvedExpr.TheOpen as layers
use Rattle.psm_resolved.specs.declared.expr.ResolvedExpr.TheFolds.{fold-ResolvedExpr, fold-ResolvedQuery}
use Rattle.psm_resolved.specs.declared.expr.ResolvedQuery.{ResolvedQuery}
use Rattle.psm_resolved.specs.declared.file.ResolvedFile.{ResolvedFile}
use Rattle.psm_resolved.specs.declared.file.ResolvedRoutine.{ResolvedRoutine}
use Rattle.psm_resolved.specs.declared.statement.ResolvedArgument.{ResolvedArgument}
use Rattle.psm_resolved.specs.declared.statement.ResolvedArgument.TheVariants.{In, Out, InOut}
use Rattle.psm_resolved.specs.declared.statement.ResolvedCursor.{ResolvedCursor}
use Rattle.psm_resolved.specs.declared.statement.ResolvedDeclaration.{ResolvedDeclaration}
use Rattle.psm_resolved.specs.declared.statement.ResolvedFor.{ResolvedFor}
use Rattle.psm_resolved.specs.declared.statement.ResolvedRows.{ResolvedRows}
use Rattle.psm_resolved.specs.declared.statement.ResolvedRows.TheVariants as rows
use Rattle.psm_resolved.specs.declared.statement.ResolvedSet.{ResolvedSet}
use Rattle.psm_resolved.specs.declared.statement.ResolvedSignal.{ResolvedSignal}
use Rattle.psm_resolved.specs.declared.statement.ResolvedSimple.{ResolvedSimple}
use Rattle.psm_resolved.specs.declared.statement.ResolvedSimple.TheVariants as simples
use Rattle.psm_resolved.specs.declared.statement.ResolvedStatement.{ResolvedStatement}
use Rattle.psm_resolved.specs.declared.statement.ResolvedStatement.TheOpen.{ResolvedStatement-F, ResolvedBlock-F, ResolvedBranch-F, ResolvedHandler-F}
use Rattle.psm_resolved.specs.declared.statement.ResolvedStatement.TheOpen as statements
use Rattle.psm_resolved.specs.declared.statement.ResolvedStatement.TheFolds.{fold-ResolvedStatement}
use Rattle.psm_resolved.specs.declared.statement.ResolvedWhere.{ResolvedWhere}
use Rattle.psm_resolved.specs.declared.statement.ResolvedWhere.TheVariants.{All, Test, Current}
use Rattle.psm_meaning.specs.Session.{Command, Session, session_to}

-- ---- lists: each item and its cell

abbrev pub total : List ℕ → ℕ
total [] = 0
total (n ∷ ns) = n + 1 + total ns

abbrev pub some_size : Option ℕ → ℕ
some_size None = 0
some_size (Some n) = n

abbrev pub several_size : Several ℕ → ℕ
several_size s = s.first + total s.rest

-- ---- expressions and queries

abbrev pub expr_layer : ResolvedExpr-F ℕ ℕ ℕ ℕ ℕ ℕ → ℕ
expr_layer layers.Null = 1
expr_layer (layers.Number n) = 1
expr_layer (layers.Text t) = 1
expr_layer (layers.Column i) = 1
expr_layer (layers.Variable i) = 1
expr_layer (layers.LogicalOperator j operands) = several_size operands + 1
expr_layer (layers.Not condition) = condition + 1
expr_layer (layers.Compare operator left right) = left + right + 1
expr_layer (layers.IsNull negated value) = value + 1
expr_layer (layers.Between negated value low high) = value + low + high + 1
expr_layer (layers.In negated value list) = value + several_size list + 1
expr_layer (layers.Like negated value pattern escape) = value + pattern + some_size escape + 1
expr_layer (layers.OperatorChain first chain_links) = first + total chain_links + 1
expr_layer (layers.Negated e) = e + 1
expr_layer (layers.Call function arguments) = total arguments + 1
expr_layer (layers.Scalar query) = query + 1
expr_layer (layers.Exists query) = query + 1
expr_layer (layers.Case e whens otherwise scale) = some_size e + several_size whens + some_size otherwise + 1
expr_layer (layers.Coalesce values scale) = several_size values + 1
expr_layer (layers.Cast source to) = source + 1
expr_layer (layers.NullIf left right) = left + right + 1
expr_layer (layers.Function function argument) = argument + 1
expr_layer (layers.Position part whole) = part + whole + 1
expr_layer (layers.Substring text from length) = text + from + some_size length + 1
expr_layer (layers.Trim side text) = text + 1

abbrev pub items_layer : ResolvedItems-F ℕ ℕ ℕ ℕ ℕ ℕ → ℕ
items_layer (layers.Rows es) = total es + 1
items_layer (layers.Sets sets) = total sets + 1

abbrev pub item_layer : ResolvedItem-F ℕ ℕ ℕ ℕ ℕ ℕ → ℕ
item_layer i = some_size i.operand + 1

abbrev pub chain_link_layer : ResolvedOperation-F ℕ ℕ ℕ ℕ ℕ ℕ → ℕ
chain_link_layer l = l.operand + 1

abbrev pub query_layer : ResolvedQuery-F ℕ ℕ ℕ ℕ ℕ ℕ → ℕ
query_layer q = q.items + some_size q.test + 1

abbrev pub when_layer : ResolvedWhen-F ℕ ℕ ℕ ℕ ℕ ℕ → ℕ
when_layer w = w.test + w.result + 1

abbrev pub expr_size : ResolvedExpr → ℕ
expr_size = fold-ResolvedExpr ℕ ℕ ℕ ℕ ℕ ℕ expr_layer items_layer item_layer chain_link_layer query_layer when_layer

abbrev pub query_size : ResolvedQuery → ℕ
query_size = fold-ResolvedQuery ℕ ℕ ℕ ℕ ℕ ℕ expr_layer items_layer item_layer chain_link_layer query_layer when_layer

abbrev pub option_size : Option ResolvedExpr → ℕ
option_size None = 0
option_size (Some e) = expr_size e

abbrev pub exprs_size : List ResolvedExpr → ℕ
exprs_size es = total (map expr_size es)

-- ---- simple statements

abbrev pub argument_size : ResolvedArgument → ℕ
argument_size (In e) = expr_size e + 1
argument_size (Out slot) = 1
argument_size (InOut slot) = 1

abbrev pub signal_size : ResolvedSignal → ℕ
signal_size s = option_size s.message + 1

abbrev pub perhaps_signal_size : Option ResolvedSignal → ℕ
perhaps_signal_size None = 0
perhaps_signal_size (Some s) = signal_size s

abbrev pub rows_size : ResolvedRows → ℕ
rows_size (rows.Values rs) = total (map exprs_size rs) + 1
rows_size (rows.Query query) = query_size query + 1

abbrev pub set_size : ResolvedSet → ℕ
set_size s = expr_size s.source + 1

abbrev pub where_size : ResolvedWhere → ℕ
where_size All = 1
where_size (Test e) = expr_size e + 1
where_size (Current cursor) = 1

abbrev pub simple_size : ResolvedSimple → ℕ
simple_size (simples.Set slot source) = expr_size source + 1
simple_size (simples.Call procedure arguments) = total (map argument_size arguments) + 1
simple_size (simples.Return e) = expr_size e + 1
simple_size (simples.Leave level) = 1
simple_size (simples.Iterate level) = 1
simple_size (simples.Signal s) = signal_size s + 1
simple_size (simples.Resignal s) = perhaps_signal_size s + 1
simple_size (simples.GetDiagnostics d) = 1
simple_size (simples.SelectInto query slots) = query_size query + length slots + 1
simple_size (simples.Insert table columns rows) = length columns + rows_size rows + 1
simple_size (simples.Update table sets which) = total (map set_size sets) + where_size which + 1
simple_size (simples.Delete table which) = where_size which + 1
simple_size (simples.Open cursor) = 1
simple_size (simples.Fetch cursor slots) = length slots + 1
simple_size (simples.Close cursor) = 1

-- ---- statements

abbrev pub declaration_size : ResolvedDeclaration → ℕ
declaration_size x = length x.slots + option_size x.default + 1

abbrev pub cursor_size : ResolvedCursor → ℕ
cursor_size x = query_size x.query + 1

abbrev pub for_size : ResolvedFor → ℕ
for_size head = cursor_size head.cursor + length head.slots + 1

abbrev pub statement_layer : ResolvedStatement-F ℕ ℕ ℕ ℕ → ℕ
statement_layer (statements.Compound level block) = block + 1
statement_layer (statements.Loop level ss) = total ss + 1
statement_layer (statements.While level test ss) = expr_size test + total ss + 1
statement_layer (statements.Repeat level ss until) = total ss + expr_size until + 1
statement_layer (statements.For level head ss) = for_size head + total ss + 1
statement_layer (statements.If branches otherwise) = total branches + total otherwise + 1
statement_layer (statements.Case e branches otherwise) = option_size e + total branches + total otherwise + 1
statement_layer (statements.Simple s) = simple_size s + 1

abbrev pub block_layer : ResolvedBlock-F ℕ ℕ ℕ ℕ → ℕ
block_layer b = total (map declaration_size b.declarations) + total (map cursor_size b.cursors) + total b.handlers + total b.statements + 1

abbrev pub branch_layer : ResolvedBranch-F ℕ ℕ ℕ ℕ → ℕ
branch_layer b = expr_size b.test + total b.statements + 1

abbrev pub handler_layer : ResolvedHandler-F ℕ ℕ ℕ ℕ → ℕ
handler_layer h = length h.values + h.action + 1

abbrev pub statement_size : ResolvedStatement → ℕ
statement_size = fold-ResolvedStatement ℕ ℕ ℕ ℕ statement_layer block_layer branch_layer handler_layer

-- ---- files and sessions

abbrev pub routine_size : ResolvedRoutine → ℕ
routine_size r = length r.parameters + statement_size r.body + 1

abbrev pub file_size : ResolvedFile → ℕ
file_size file = total (map routine_size file.routines)

-- the fuel for n turns
abbrev pub fuel_for : ResolvedFile → ℕ → ℕ
fuel_for file turns = (turns + 1) * (file_size file + 2)

-- what the commands of a script mean over a module file and n turns
abbrev pub session : ResolvedFile → List Command → ℕ → Session
session file commands turns = session_to file (fuel_for file turns) commands turns
