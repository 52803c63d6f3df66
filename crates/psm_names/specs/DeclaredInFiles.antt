-- Which table, column, procedure or function of a module file a name means: the one of that name whose number look-up gives, in the
-- order of the source.
use Rattle.std.specs.Prelude.{◌≡◌, ℕ, true, not, List, [], ◌∷◌, filter, length, map, slice_get, Option, Some, None, Result, Ok, Err}
use Rattle.psm_value.specs.declared.sqltype.SqlType.{SqlType}
use Rattle.psm_scope.specs.Choice.{all_go}
use Rattle.psm_scope.specs.Scopes.{Spelling}
use Rattle.psm_scope.specs.declared.fault.ChoiceFault.{ChoiceFault}
use Rattle.psm_scope.specs.declared.kinds.ArgKind.{ArgKind}
use Rattle.psm_scope.specs.declared.procedures.ProcedureScope.{ProcedureScope}
use Rattle.psm_rules.specs.CheckerScope.{Columns}
use Rattle.psm_rules.specs.FileFaults.{columns_of, is_function, kinds_of, parameter_of, table_elements}
use Rattle.psm_rules.specs.Types.{type_of}
use Rattle.psm_tree.specs.declared.file.Element.{Element}
use Rattle.psm_tree.specs.declared.file.Element.TheVariants as elements
use Rattle.psm_tree.specs.declared.file.FileTree.{FileTree}
use Rattle.psm_tree.specs.declared.file.Routine.{Routine}
use Rattle.psm_tree.specs.declared.file.TableTree.{TableTree}
use Rattle.psm_resolved.specs.declared.file.ResolvedTable.{ResolvedTable}
use Rattle.psm_names.specs.FileOccurrences.{AreNew, result_of}

-- ---- tables and their columns

abbrev pub columns_declared : List Element → Columns
columns_declared [] = []
columns_declared (elements.Column name kind default rules ∷ es) = (name.name, type_of kind) ∷ columns_declared es
columns_declared (elements.Rule rule ∷ es) = columns_declared es

abbrev pub table_declared : TableTree → Spelling × Columns
table_declared t = (t.name.name, columns_declared (table_elements t))

-- the names of a table and of its columns, in a file and in the resolved file
abbrev pub table_names : TableTree → Spelling × List Spelling
table_names t = (t.name.name, map (λ c. c.0) (columns_declared (table_elements t)))

abbrev pub resolved_names : ResolvedTable → Spelling × List Spelling
resolved_names t = (t.definition.name, map (λ c. c.name) t.definition.columns)

-- no two tables have one name, and no two columns of a table
pub record NamesEachOnce (f : FileTree) : Type 0 where
  pub tables : AreNew [] f.tables
  pub columns : map (λ t. columns_of (table_elements t)) f.tables ≡ map (λ t. columns_declared (table_elements t)) f.tables

-- ---- routines

abbrev pub procedures_in : List Routine → List Routine
procedures_in rs = filter (λ r. not (is_function r)) rs

abbrev pub function_routines : List Routine → List Routine
function_routines rs = filter is_function rs

-- what a CALL finds, if it finds something
abbrev pub IsProcedure : List Routine → Spelling → ℕ → Option ProcedureScope → Type 0
IsProcedure rs n count None = Unit {0}
IsProcedure rs n count (Some p) = (r : Routine) × (slice_get (procedures_in rs) p.number ≡ Some r) × (r.name.name ≡ n) × (length r.parameters ≡ count) × (p.parameters ≡ map parameter_of r.parameters)

-- what a call of a function means, if it means one: its arguments go to the parameters of that function, and it has its type
abbrev pub IsFunction : List Routine → Spelling → List ArgKind → Result (ℕ × Option SqlType) ChoiceFault → Type 0
IsFunction rs n kinds (Err fault) = Unit {0}
IsFunction rs n kinds (Ok p) =
    (r : Routine) × (slice_get (function_routines rs) p.0 ≡ Some r) × (r.name.name ≡ n) × (all_go kinds (kinds_of r) ≡ true) × (result_of r.returns ≡ p.1 ∷ [])
