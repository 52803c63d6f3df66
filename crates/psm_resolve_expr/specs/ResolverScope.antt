-- What is seen at a place, with slots and numbers: those of the routine around it.
use Rattle.std.specs.Prelude.{ℕ, Option, Some, None, List}
use Rattle.psm_value.specs.declared.sqltype.SqlType.{SqlType}
use Rattle.psm_scope.specs.Scopes.{Spelling, Scope}
use Rattle.psm_scope.specs.Lookup.{RowTable, Meaning, meant, meant_on_row, as_variable, index_named}
use Rattle.psm_scope.specs.declared.known.Variable.{Variable}
use Rattle.psm_scope.specs.declared.known.DeclaredCondition.{DeclaredCondition}
use Rattle.psm_rules.specs.CheckerScope.{SymbolTable, Columns}
use Rattle.psm_tree.specs.declared.name.Target.{Target}
use Rattle.psm_rules.specs.ExprFaults.{spelling}

-- a cursor is known by its number
abbrev pub Scopes : Type 0
Scopes = List (Scope Variable DeclaredCondition ℕ)

pub record ResolverScope : Type 0 where
  pub symbols : SymbolTable
  pub scopes : Scopes
  -- the table of a row expression; there is none in a control expression
  pub row : Option (RowTable (Option SqlType))

abbrev pub on_row : ResolverScope → RowTable (Option SqlType) → ResolverScope
on_row resolver_scope row = record resolver_scope { row = Some row }

-- what a name means: on a row the table's columns come first
abbrev pub meant_in : Scopes → Option (RowTable (Option SqlType)) → Target → Option (Meaning Variable (Option SqlType))
meant_in scopes None t = as_variable (meant t.first.name (spelling t.second) scopes)
meant_in scopes (Some row) t = meant_on_row t.first.name (spelling t.second) row scopes

abbrev pub name_in : ResolverScope → Target → Option (Meaning Variable (Option SqlType))
name_in resolver_scope t = meant_in resolver_scope.scopes resolver_scope.row t

-- a table with its number
abbrev pub table_at : ResolverScope → Spelling → Option (ℕ × Columns)
table_at resolver_scope n = index_named 0 n resolver_scope.symbols.tables
