-- What the checker sees at a place.
use Rattle.std.specs.Prelude.{Bool, Option, Some, List}
use Rattle.psm_value.specs.declared.sqltype.SqlType.{SqlType}
use Rattle.psm_scope.specs.Scopes.{Spelling, Scope}
use Rattle.psm_scope.specs.Lookup.{RowTable, named}
use Rattle.psm_scope.specs.Routines.{Callable, Header}
use Rattle.psm_scope.specs.declared.known.Variable.{Variable}
use Rattle.psm_scope.specs.declared.known.DeclaredCondition.{DeclaredCondition}
use Rattle.psm_scope.specs.declared.procedures.ProcedureScope.{ProcedureScope}
use Rattle.psm_rules.specs.declared.shape.Shape.{Shape}

-- What was declared with a type at fault has none. Slots and numbers play no part here: they are 0.

pub record Cursor : Type 0 where
  -- the name of the table that it walks
  pub table : Spelling
  -- it is plain and not FOR READ ONLY
  pub updatable : Bool
  pub of_for : Bool
  -- the shapes of its items, where these are known
  pub items : Option (List (Option Shape))

abbrev pub Scopes : Type 0
Scopes = List (Scope Variable DeclaredCondition Cursor)

abbrev pub Columns : Type 0
Columns = List (Spelling × Option SqlType)

-- the tables and routines of the file: each name once, and each procedure once by its name and number of parameters
pub record SymbolTable : Type 0 where
  pub tables : List (Spelling × Columns)
  -- the columns of each table's key
  pub keys : List (Spelling × List Spelling)
  pub functions : Callable
  pub procedures : List (Header × ProcedureScope)

pub record CheckerScope : Type 0 where
  pub symbols : SymbolTable
  pub scopes : Scopes
  -- the table of a row expression; there is none in a control expression
  pub row : Option (RowTable (Option SqlType))

abbrev pub on_row : CheckerScope → RowTable (Option SqlType) → CheckerScope
on_row checker_scope row = record checker_scope { row = Some row }

abbrev pub table_named : CheckerScope → Spelling → Option Columns
table_named checker_scope n = named n checker_scope.symbols.tables
