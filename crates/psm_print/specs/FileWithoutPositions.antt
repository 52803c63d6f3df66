-- Module files and scripts whose places are forgotten.
use Rattle.std.specs.Prelude.{map, option_map}
use Rattle.psm_list.specs.Several.{several_map}
use Rattle.psm_tree.specs.declared.file.FileTree.{FileTree}
use Rattle.psm_tree.specs.declared.file.TableTree.{TableTree}
use Rattle.psm_tree.specs.declared.file.Element.{Element}
use Rattle.psm_tree.specs.declared.file.Element.TheVariants as elements
use Rattle.psm_tree.specs.declared.file.ColumnRule.{ColumnRule}
use Rattle.psm_tree.specs.declared.file.ColumnRuleForm.{ColumnRuleForm}
use Rattle.psm_tree.specs.declared.file.ColumnRuleForm.TheVariants as column_rules
use Rattle.psm_tree.specs.declared.file.References.{References}
use Rattle.psm_tree.specs.declared.file.TableRule.{TableRule}
use Rattle.psm_tree.specs.declared.file.TableRuleForm.{TableRuleForm}
use Rattle.psm_tree.specs.declared.file.TableRuleForm.TheVariants as table_rules
use Rattle.psm_tree.specs.declared.file.Module.{Module}
use Rattle.psm_tree.specs.declared.file.Parameter.{Parameter}
use Rattle.psm_tree.specs.declared.file.Characteristic.{Characteristic}
use Rattle.psm_tree.specs.declared.file.Routine.{Routine}
use Rattle.psm_tree.specs.declared.script.ScriptTree.{ScriptTree}
use Rattle.psm_tree.specs.declared.script.Argument.{Argument}
use Rattle.psm_tree.specs.declared.script.Argument.TheVariants as arguments
use Rattle.psm_tree.specs.declared.script.ConstantRow.{ConstantRow}
use Rattle.psm_tree.specs.declared.script.Command.{Command}
use Rattle.psm_tree.specs.declared.script.Command.TheVariants as commands
use Rattle.psm_print.specs.WithoutPositions.{origin}
use Rattle.psm_print.specs.ExprWithoutPositions.{name_without_positions, names_without_positions, type_without_positions, constant_without_positions, expr_without_positions}
use Rattle.psm_print.specs.StatementWithoutPositions.{ordered_query_without_positions, statement_without_positions}

-- ---- tables

abbrev pub references_without_positions : References → References
references_without_positions to = record { table = name_without_positions to.table; columns = option_map names_without_positions to.columns }

abbrev pub column_form_without_positions : ColumnRuleForm → ColumnRuleForm
column_form_without_positions column_rules.NotNull = column_rules.NotNull
column_form_without_positions column_rules.PrimaryKey = column_rules.PrimaryKey
column_form_without_positions column_rules.Unique = column_rules.Unique
column_form_without_positions (column_rules.Check condition) = column_rules.Check (expr_without_positions condition)
column_form_without_positions (column_rules.References to) = column_rules.References (references_without_positions to)

abbrev pub column_rule_without_positions : ColumnRule → ColumnRule
column_rule_without_positions rule = record { place = origin; form = column_form_without_positions rule.form }

abbrev pub table_form_without_positions : TableRuleForm → TableRuleForm
table_form_without_positions (table_rules.PrimaryKey names) = table_rules.PrimaryKey (names_without_positions names)
table_form_without_positions (table_rules.Unique names) = table_rules.Unique (names_without_positions names)
table_form_without_positions (table_rules.Check condition) = table_rules.Check (expr_without_positions condition)
table_form_without_positions (table_rules.ForeignKey names to) = table_rules.ForeignKey (names_without_positions names) (references_without_positions to)

abbrev pub table_rule_without_positions : TableRule → TableRule
table_rule_without_positions rule = record { place = origin; form = table_form_without_positions rule.form }

abbrev pub element_without_positions : Element → Element
element_without_positions (elements.Column name kind default rules) = elements.Column (name_without_positions name) (type_without_positions kind) (option_map constant_without_positions default) (map column_rule_without_positions rules)
element_without_positions (elements.Rule rule) = elements.Rule (table_rule_without_positions rule)

abbrev pub table_without_positions : TableTree → TableTree
table_without_positions table = record { place = origin; name = name_without_positions table.name; elements = several_map element_without_positions table.elements }

-- ---- routines

abbrev pub parameter_without_positions : Parameter → Parameter
parameter_without_positions p = record { place = origin; mode = p.mode; name = name_without_positions p.name; kind = type_without_positions p.kind }

abbrev pub characteristic_without_positions : Characteristic → Characteristic
characteristic_without_positions characteristic = record { place = origin; form = characteristic.form }

abbrev pub routine_without_positions : Routine → Routine
routine_without_positions r = record { place = origin; name = name_without_positions r.name; parameters = map parameter_without_positions r.parameters; returns = option_map type_without_positions r.returns; characteristics = map characteristic_without_positions r.characteristics; body = statement_without_positions r.body }

-- ---- files

abbrev pub module_without_positions : Module → Module
module_without_positions m = record { place = origin; name = name_without_positions m.name; routines = map routine_without_positions m.routines }

abbrev pub file_without_positions : FileTree → FileTree
file_without_positions file = record { tables = map table_without_positions file.tables; «module» = module_without_positions file.«module» }

-- ---- scripts

abbrev pub argument_without_positions : Argument → Argument
argument_without_positions (arguments.Constant constant) = arguments.Constant (constant_without_positions constant)
argument_without_positions (arguments.Placeholder place) = arguments.Placeholder origin

abbrev pub row_without_positions : ConstantRow → ConstantRow
row_without_positions row = record { place = origin; values = several_map constant_without_positions row.values }

abbrev pub command_without_positions : Command → Command
command_without_positions (commands.Call place procedure arguments) = commands.Call origin (name_without_positions procedure) (map argument_without_positions arguments)
command_without_positions (commands.Insert place table columns rows) = commands.Insert origin (name_without_positions table) (option_map names_without_positions columns) (several_map row_without_positions rows)
command_without_positions (commands.Select query) = commands.Select (ordered_query_without_positions query)
command_without_positions (commands.Commit place) = commands.Commit origin
command_without_positions (commands.Rollback place) = commands.Rollback origin

abbrev pub script_without_positions : ScriptTree → ScriptTree
script_without_positions script = record { commands = map command_without_positions script.commands }
