-- The grammar of module files and scripts (ISO/IEC 9075-4:1996, module definitions; ISO/IEC 9075:1992, 11.3).
use Rattle.std.specs.Prelude.{List, [], ◌∷◌}
use Rattle.psm_token.specs.declared.place.Place.{Place}
use Rattle.psm_token.specs.declared.word.Word.TheVariants as w
use Rattle.psm_token.specs.declared.sign.Sign.TheVariants as s
use Rattle.psm_list.specs.Several.{Several}
use Rattle.psm_grammar.specs.Grammar.{token, seq, or, ahead, many, image}
use Rattle.psm_grammar.specs.Forms.{earlier, optional, after_token, before_token}
use Rattle.psm_token.specs.Words.{word_kind}
use Rattle.psm_token.specs.Signs.{sign_kind}
use Rattle.psm_tree.specs.Tests.{word, sign, name, char_word, mode}
use Rattle.psm_tree.specs.ExprValues.{pair, triple, several, cons, none}
use Rattle.psm_tree.specs.FileValues.{column_rule_at, column_rule_by, column_check, references_to, first_place, column_references, primary_key, unique, table_check, foreign_key, column_of, rule_element, TableRest, table_rest, moded, unmoded, characteristic_at, characteristic_by, returned_char, procedure_rest, procedure_of, function_rest, function_of, ModuleRest, module_rest, file_of, placeholder, constant_argument, constant_row, call_command, insert_command, select_command, commit_command, rollback_command, script_of}
use Rattle.psm_tree.specs.ExprGrammar.{Gram, closed, within_parens, names_in_parens, varying, char_length, plain_type, data_type, constant, expr}
use Rattle.psm_tree.specs.StatementGrammar.{all_statements, statement, ordered_select}
use Rattle.psm_tree.specs.declared.name.Identifier.{Identifier}
use Rattle.psm_tree.specs.declared.types.TypeForm.{TypeForm}
use Rattle.psm_tree.specs.declared.types.DataType.{DataType}
use Rattle.psm_tree.specs.declared.types.Constant.{Constant}
use Rattle.psm_tree.specs.declared.statement.Statement.{Statement}
use Rattle.psm_tree.specs.declared.file.FileTree.{FileTree}
use Rattle.psm_tree.specs.declared.file.Element.{Element}
use Rattle.psm_tree.specs.declared.file.ColumnRule.{ColumnRule}
use Rattle.psm_tree.specs.declared.file.ColumnRuleForm.TheVariants as column_rules
use Rattle.psm_tree.specs.declared.file.References.{References}
use Rattle.psm_tree.specs.declared.file.TableRule.{TableRule}
use Rattle.psm_tree.specs.declared.file.Parameter.{Parameter}
use Rattle.psm_tree.specs.declared.file.CharacteristicForm.TheVariants as characteristics
use Rattle.psm_tree.specs.declared.file.Characteristic.{Characteristic}
use Rattle.psm_tree.specs.declared.file.Routine.{Routine}
use Rattle.psm_tree.specs.declared.script.ScriptTree.{ScriptTree}
use Rattle.psm_tree.specs.declared.script.Argument.{Argument}
use Rattle.psm_tree.specs.declared.script.ConstantRow.{ConstantRow}
use Rattle.psm_tree.specs.declared.script.Command.{Command}

-- ---- tables

-- references = REFERENCES name [names] [ON DELETE NO ACTION [ON UPDATE NO ACTION] | ON UPDATE NO ACTION [ON DELETE NO ACTION]]
unfoldable pub no_action : Gram Place
no_action = after_token (word w.No) (token (word w.Action))

unfoldable pub delete_action : Gram Place
delete_action = after_token (word w.Delete) no_action

unfoldable pub update_action : Gram Place
update_action = after_token (word w.Update) no_action

unfoldable pub next_delete_action : Gram Place
next_delete_action = after_token (word w.On) delete_action

unfoldable pub next_update_action : Gram Place
next_update_action = after_token (word w.On) update_action

unfoldable pub either_action : Gram Place
either_action = or (seq first_place delete_action (optional next_update_action)) (seq first_place update_action (optional next_delete_action))

unfoldable pub actions : Gram Place
actions = after_token (word w.On) either_action

-- after REFERENCES
unfoldable pub references_rest : Gram References
references_rest = seq references_to (token name) (seq pair (optional names_in_parens) (optional actions))

unfoldable pub references : Gram References
references = after_token (word w.References) references_rest

-- column_rule = [CONSTRAINT name] (NOT NULL | PRIMARY KEY | UNIQUE | CHECK "(" expr ")" | references)
unfoldable pub plain_column_rule : Gram ColumnRule
plain_column_rule = or (seq (column_rule_by column_rules.NotNull) (token (word w.Not)) (token (word w.Null)))
    (or (seq (column_rule_by column_rules.PrimaryKey) (token (word w.Primary)) (token (word w.Key)))
    (or (image (column_rule_at column_rules.Unique) (token (word w.Unique)))
    (or (seq column_check (token (word w.Check)) (within_parens expr))
    (seq column_references (token (word w.References)) references_rest))))

unfoldable pub column_rule : Gram ColumnRule
column_rule = or (after_token (word w.Constraint) (after_token name plain_column_rule)) plain_column_rule

unfoldable pub column_rule_list : Gram (List ColumnRule)
column_rule_list = many column_rule

-- column = name type [DEFAULT const] {column_rule}
unfoldable pub default_constant : Gram Constant
default_constant = after_token (word w.Default) constant

unfoldable pub column : Gram Element
column = seq column_of (token name) (seq triple data_type (seq pair (optional default_constant) column_rule_list))

-- table_rule = [CONSTRAINT name] (PRIMARY KEY names | UNIQUE names | CHECK "(" expr ")" | FOREIGN KEY names references)
unfoldable pub plain_table_rule : Gram TableRule
plain_table_rule = or (seq primary_key (token (word w.Primary)) (after_token (word w.Key) names_in_parens))
    (or (seq unique (token (word w.Unique)) names_in_parens)
    (or (seq table_check (token (word w.Check)) (within_parens expr))
    (seq foreign_key (token (word w.Foreign)) (after_token (word w.Key) (seq pair names_in_parens references)))))

unfoldable pub table_rule : Gram TableRule
table_rule = or (after_token (word w.Constraint) (after_token name plain_table_rule)) plain_table_rule

-- table = name "(" element {"," element} ")"
unfoldable pub element : Gram Element
element = or column (image rule_element table_rule)

unfoldable pub next_element : Gram Element
next_element = after_token (sign s.Comma) element

unfoldable pub next_elements : Gram (List Element)
next_elements = many next_element

unfoldable pub elements : Gram (Several Element)
elements = seq several element next_elements

unfoldable pub table : Gram TableRest
table = seq table_rest (token name) (within_parens elements)

-- ---- routines

-- param = [IN|OUT|INOUT] name type
unfoldable pub named_type : Gram (Identifier × DataType)
named_type = seq pair (token name) data_type

unfoldable pub param : Gram Parameter
param = or (seq moded (token mode) named_type) (image unmoded named_type)

unfoldable pub next_param : Gram Parameter
next_param = after_token (sign s.Comma) param

unfoldable pub next_params : Gram (List Parameter)
next_params = many next_param

-- params = "(" [param {"," param}] ")"
unfoldable pub param_list : Gram (List Parameter)
param_list = closed (seq cons param next_params)

unfoldable pub param_rest : Gram (List Parameter)
param_rest = or (image none (token (sign s.RightParen))) param_list

unfoldable pub params : Gram (List Parameter)
params = after_token (sign s.LeftParen) param_rest

-- characteristic = LANGUAGE SQL | DETERMINISTIC | NOT DETERMINISTIC | CONTAINS SQL | READS SQL DATA | MODIFIES SQL DATA
unfoldable pub sql_data : Gram Place
sql_data = after_token (word w.Sql) (token (word w.Data))

unfoldable pub characteristic : Gram Characteristic
characteristic = or (seq (characteristic_by characteristics.Language) (token (word w.Language)) (token (word w.Sql)))
    (or (image (characteristic_at characteristics.Deterministic) (token (word w.Deterministic)))
    (or (seq (characteristic_by characteristics.NotDeterministic) (token (word w.Not)) (token (word w.Deterministic)))
    (or (seq (characteristic_by characteristics.ContainsSql) (token (word w.Contains)) (token (word w.Sql)))
    (or (seq (characteristic_by characteristics.ReadsSqlData) (token (word w.Reads)) sql_data)
    (seq (characteristic_by characteristics.ModifiesSqlData) (token (word w.Modifies)) sql_data)))))

unfoldable pub characteristic_list : Gram (List Characteristic)
characteristic_list = many characteristic

unfoldable pub noted_statement : Gram (List Characteristic × Statement)
noted_statement = seq pair characteristic_list statement

-- procedure = PROCEDURE name params {characteristic} statement
unfoldable pub procedure : Gram Routine
procedure = seq procedure_of (token (word w.Procedure)) (seq procedure_rest (token name) (seq pair params noted_statement))

-- returned = type {characteristic} statement, where VARYING may also be the label of the statement
unfoldable pub char_returned : Gram (TypeForm × (List Characteristic × Statement))
char_returned = ahead (word_kind w.Varying ∷ []) (sign_kind s.LeftParen ∷ []) (seq pair varying noted_statement) (seq pair char_length noted_statement)

unfoldable pub returned : Gram (DataType × (List Characteristic × Statement))
returned = or (seq returned_char (token char_word) char_returned) (seq pair plain_type noted_statement)

-- function = FUNCTION name params RETURNS returned
unfoldable pub function : Gram Routine
function = seq function_of (token (word w.Function)) (seq function_rest (token name) (seq pair params (after_token (word w.Returns) returned)))

-- routine = [DECLARE] (procedure | function)
unfoldable pub plain_routine : Gram Routine
plain_routine = or procedure function

unfoldable pub routine : Gram Routine
routine = or (after_token (word w.Declare) plain_routine) plain_routine

unfoldable pub ended_routine : Gram Routine
ended_routine = before_token routine (sign s.Semicolon)

unfoldable pub ended_routines : Gram (List Routine)
ended_routines = many ended_routine

-- ---- files

-- module_part = MODULE name [LANGUAGE SQL] {routine ";"} END MODULE
unfoldable pub language : Gram Place
language = after_token (word w.Language) (token (word w.Sql))

unfoldable pub module_body : Gram (List Routine)
module_body = before_token (before_token ended_routines (word w.End)) (word w.Module)

unfoldable pub module_part : Gram ModuleRest
module_part = after_token (word w.Module) (seq module_rest (token name) (seq pair (optional language) module_body))

-- file = CREATE {TABLE table ";" CREATE} module_part [";"]
unfoldable pub created_table : Gram (TableRest × Place)
created_table = after_token (word w.Table) (seq pair table (after_token (sign s.Semicolon) (token (word w.Create))))

unfoldable pub created_tables : Gram (List (TableRest × Place))
created_tables = many created_table

unfoldable pub last_module : Gram ModuleRest
last_module = seq earlier module_part (optional (token (sign s.Semicolon)))

unfoldable pub file : Gram FileTree
file = seq file_of (token (word w.Create)) (seq pair created_tables last_module)

-- ---- scripts

-- argument = const | "?"
unfoldable pub argument : Gram Argument
argument = or (image placeholder (token (sign s.QuestionMark))) (image constant_argument constant)

unfoldable pub next_argument : Gram Argument
next_argument = after_token (sign s.Comma) argument

unfoldable pub next_arguments : Gram (List Argument)
next_arguments = many next_argument

unfoldable pub script_argument_list : Gram (List Argument)
script_argument_list = closed (seq cons argument next_arguments)

unfoldable pub script_arguments : Gram (List Argument)
script_arguments = or (image none (token (sign s.RightParen))) script_argument_list

unfoldable pub script_call : Gram Command
script_call = seq call_command (token (word w.Call)) (seq pair (token name) (after_token (sign s.LeftParen) script_arguments))

-- row = "(" const {"," const} ")"
unfoldable pub next_constant : Gram Constant
next_constant = after_token (sign s.Comma) constant

unfoldable pub next_constants : Gram (List Constant)
next_constants = many next_constant

unfoldable pub constants : Gram (Several Constant)
constants = seq several constant next_constants

unfoldable pub row : Gram ConstantRow
row = seq constant_row (token (sign s.LeftParen)) (closed constants)

unfoldable pub next_row : Gram ConstantRow
next_row = after_token (sign s.Comma) row

unfoldable pub next_rows : Gram (List ConstantRow)
next_rows = many next_row

unfoldable pub rows : Gram (Several ConstantRow)
rows = seq several row next_rows

unfoldable pub script_values : Gram (Several ConstantRow)
script_values = after_token (word w.Values) rows

-- INSERT INTO name [names] VALUES row {"," row}
unfoldable pub script_insert : Gram Command
script_insert = seq insert_command (token (word w.Insert)) (after_token (word w.Into) (seq triple (token name) (seq pair (optional names_in_parens) script_values)))

-- command = CALL .. | INSERT .. | select [order] | COMMIT [WORK] | ROLLBACK [WORK]
unfoldable pub command : Gram Command
command = or script_call
    (or script_insert
    (or (image select_command ordered_select)
    (or (seq commit_command (token (word w.Commit)) (optional (token (word w.Work))))
    (seq rollback_command (token (word w.Rollback)) (optional (token (word w.Work)))))))

unfoldable pub ended_command : Gram Command
ended_command = before_token command (sign s.Semicolon)

unfoldable pub ended_commands : Gram (List Command)
ended_commands = many ended_command

-- script = {command ";"}
unfoldable pub script : Gram ScriptTree
script = image script_of ended_commands

-- ---- a name that opens every production of module files and scripts

unfoldable pub all_files : Unit {0}
unfolding all_statements no_action delete_action update_action next_delete_action next_update_action either_action actions references_rest references plain_column_rule column_rule column_rule_list default_constant column plain_table_rule table_rule element next_element next_elements elements table named_type param next_param next_params param_list param_rest params sql_data characteristic characteristic_list noted_statement procedure char_returned returned function plain_routine routine ended_routine ended_routines language module_body module_part created_table created_tables last_module file argument next_argument next_arguments script_argument_list script_arguments script_call next_constant next_constants constants row next_row next_rows rows script_values script_insert command ended_command ended_commands script
all_files = tt
