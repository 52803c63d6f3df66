-- The resolved command that stands for a command of an accepted script. The number 0 stands for what nothing declares.
use Rattle.std.specs.Prelude.{ℕ, Option, Some, None, List, [], ◌∷◌, map, length}
use Rattle.psm_value.specs.declared.datum.Datum.{Datum}
use Rattle.psm_scope.specs.Rows.{columns_known}
use Rattle.psm_scope.specs.Lookup.{named}
use Rattle.psm_scope.specs.Routines.{procedure}
use Rattle.psm_scope.specs.declared.procedures.ProcedureScope.{ProcedureScope}
use Rattle.psm_tree.specs.declared.types.Constant.{Constant}
use Rattle.psm_tree.specs.declared.statement.OrderedQuery.{OrderedQuery}
use Rattle.psm_tree.specs.declared.script.Argument.{Argument}
use Rattle.psm_tree.specs.declared.script.Argument.TheVariants.{Constant as Given, Placeholder}
use Rattle.psm_tree.specs.declared.script.Command.{Command as Written}
use Rattle.psm_tree.specs.declared.script.Command.TheVariants as written
use Rattle.psm_tree.specs.declared.script.ConstantRow.{ConstantRow}
use Rattle.psm_rules.specs.FileFaults.{datum_of}
use Rattle.psm_rules.specs.StatementFaults.{several}
use Rattle.psm_resolved.specs.declared.expr.ResolvedQuery.{ResolvedQuery}
use Rattle.psm_symbols.specs.Columns.{inserted}
use Rattle.psm_declare.specs.Declarations.{ordered_query}
use Rattle.psm_resolve_expr.specs.Exprs.{number_of}
use Rattle.psm_resolve_expr.specs.ResolverScope.{table_at}
use Rattle.psm_meaning.specs.Session.{Command, Call, Insert, Select, Commit, Rollback}
use Rattle.psm_check_script.specs.Known.{Known, resolver_scope_of}

abbrev pub value_of : Constant → Datum
value_of c = datum_of c.form

-- ---- CALL: values for IN and INOUT, in order

abbrev pub given_values : List Argument → List Datum
given_values [] = []
given_values (Given c ∷ more) = value_of c ∷ given_values more
given_values (Placeholder place ∷ more) = given_values more

abbrev pub procedure_number : Option ProcedureScope → ℕ
procedure_number None = 0
procedure_number (Some p) = p.number

-- ---- INSERT

abbrev pub row_of : ConstantRow → List Datum
row_of row = map value_of (several row.values)

-- ---- SELECT: an order is that of the key, all upwards or all downwards

abbrev pub selected : Known → OrderedQuery → ResolvedQuery
selected k q = ordered_query (resolver_scope_of k) q

-- ---- commands

abbrev pub command_of : Known → Written → Command
command_of k (written.Call place name given) = Call (procedure_number (procedure name.name (length given) k.procedures)) (given_values given)
command_of k (written.Insert place table names rows) =
    Insert (number_of (table_at (resolver_scope_of k) table.name)) (inserted (columns_known (named table.name k.tables)) names) (map row_of (several rows))
command_of k (written.Select query) = Select (selected k query)
command_of k (written.Commit place) = Commit
command_of k (written.Rollback place) = Rollback
