-- An item of FOR as it is kept, and scopes with the variables of items.
use Rattle.std.specs.Prelude.{List, Option, Some, None, option_map}
use Rattle.psm_value.specs.declared.sqltype.SqlType.{SqlType}
use Rattle.psm_scope.specs.Scopes.{Spelling}
use Rattle.psm_scope.specs.KeptScopes.{declared_here, redeclared}
use Rattle.psm_scope.specs.declared.known.Variable.{Variable}
use Rattle.psm_tree.specs.declared.statement.ForCursor.{ForCursor}
use Rattle.psm_rules.specs.CheckerScope.{Cursor, Scopes}
use Rattle.psm_rules.specs.BlockFaults.{ForItem, with_cursor}
use Rattle.psm_check_stmt.specs.declared.loops.ForItem.{ForItem as KeptItem}
use Rattle.psm_check_stmt.specs.declared.loops.NamedColumn.{NamedColumn}
use Rattle.psm_check_expr.specs.Seen.{pick_of}

abbrev pub column_of : NamedColumn → Spelling × Option SqlType
column_of c = (c.name.now, c.kind)

abbrev pub item_of : KeptItem → ForItem
item_of i = record { pick = pick_of i.pick; column = option_map column_of i.column }

-- the variables of the innermost scope, and others in their place
abbrev pub variables_here : Scopes → List (Spelling × Variable)
variables_here scopes = (declared_here scopes).variables

abbrev pub with_variables_here : Scopes → List (Spelling × Variable) → Scopes
with_variables_here scopes vs = redeclared scopes (record (declared_here scopes) { variables = vs })

-- the scopes with the cursor of FOR, where it has a name
abbrev pub with_for_cursor : Scopes → Option ForCursor → Option Cursor → Scopes
with_for_cursor scopes None known = scopes
with_for_cursor scopes (Some cursor) None = scopes
with_for_cursor scopes (Some cursor) (Some known) = with_cursor scopes cursor.name.name known
