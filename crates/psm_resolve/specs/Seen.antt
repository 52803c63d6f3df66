-- The items of a FOR statement and the key of a table, as they are kept.
use Rattle.std.specs.Prelude.{Option, Some, None, List, [], ◌∷◌}
use Rattle.std.specs.Option.{option_copied}
use Rattle.psm_value.specs.declared.sqltype.SqlType.{SqlType}
use Rattle.psm_scope.specs.Scopes.{Spelling}
use Rattle.psm_rules.specs.StatementFaults.{several}
use Rattle.psm_tree.specs.declared.name.Identifier.{Identifier}
use Rattle.psm_check_expr.specs.declared.symbols.Key.{Key}
use Rattle.psm_check_expr.specs.declared.symbols.Key.TheVariants as keys
use Rattle.psm_resolve.specs.Blocks.{ForItem}
use Rattle.psm_resolve.specs.declared.fors.ForItem.{ForItem as KeptItem}
use Rattle.psm_resolve.specs.declared.fors.NamedColumn.{NamedColumn}

abbrev pub item_seen : KeptItem → ForItem
item_seen i = (option_copied i.name, i.kind)

abbrev pub column_seen : NamedColumn → Spelling × Option SqlType
column_seen c = (c.name.now, c.kind)

abbrev pub key_seen : Key → Option (List Identifier)
key_seen keys.None = None
key_seen (keys.Column column) = Some (column.now ∷ [])
key_seen (keys.Rule names) = Some (several names.now)
