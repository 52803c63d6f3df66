-- Module files and scripts forget their places where their tokens do, part by part.
use Rattle.std.proofs.Common.{◌≡◌, List, [], ◌∷◌, map, refl, ap}
use Rattle.psm_list.specs.Several.{several_map}
use Rattle.psm_token.specs.declared.place.Place.{Place}
use Rattle.psm_tree.specs.Tests.{mode_of}
use Rattle.psm_tree.specs.FileValues.{TableRest, tables_from, table_of, last_place, ProcedureRest, FunctionRest, ModuleRest, file_of}
use Rattle.psm_tree.specs.FileGrammar
use Rattle.psm_tree.specs.declared.statement.Statement.{Statement}
use Rattle.psm_tree.specs.declared.file.Characteristic.{Characteristic}
use Rattle.psm_print.specs.WithoutPositions.{origin}
use Rattle.psm_print.specs.ExprWithoutPositions.{name_without_positions, type_without_positions}
use Rattle.psm_print.specs.StatementWithoutPositions.{statement_without_positions}
use Rattle.psm_print.specs.FileWithoutPositions.{references_without_positions, column_rule_without_positions, table_rule_without_positions, element_without_positions, table_without_positions, parameter_without_positions, characteristic_without_positions, routine_without_positions, file_without_positions, argument_without_positions, row_without_positions, command_without_positions, script_without_positions}
use Rattle.psm_print.proofs.ValuesWithoutPositions.{same, both, place_without_positions}
use Rattle.psm_print.proofs.Carried.{Carried, carried_place, carried_at, carried_name, carried_seq, carried_or, carried_ahead, carried_many, carried_image, carried_pair, carried_triple, carried_several, carried_cons, carried_optional, carried_after, carried_before, carried_within}
use Rattle.psm_print.proofs.ExprCarried.{names_in_parens_carried, varying_carried, char_length_carried, plain_type_carried, data_type_carried, constant_carried, expr_carried}
use Rattle.psm_print.proofs.StatementCarried.{ordered_select_carried, statement_carried}

-- ---- tables

no_action_carried : Carried place_without_positions FileGrammar.no_action
unfolding FileGrammar.all_files
no_action_carried = carried_after carried_place

actions_carried : Carried place_without_positions FileGrammar.actions
unfolding FileGrammar.all_files
actions_carried = carried_after (carried_or (carried_seq (carried_after no_action_carried) (carried_optional (carried_after (carried_after no_action_carried))) (λ x y. refl))
    (carried_seq (carried_after no_action_carried) (carried_optional (carried_after (carried_after no_action_carried))) (λ x y. refl)))

references_rest_carried : Carried references_without_positions FileGrammar.references_rest
unfolding FileGrammar.all_files
references_rest_carried = carried_seq carried_name (carried_pair (carried_optional names_in_parens_carried) (carried_optional actions_carried)) (λ x y. refl)

plain_column_rule_carried : Carried column_rule_without_positions FileGrammar.plain_column_rule
unfolding FileGrammar.all_files
plain_column_rule_carried = carried_or (carried_seq carried_place carried_place (λ x y. refl))
    (carried_or (carried_seq carried_place carried_place (λ x y. refl))
    (carried_or (carried_image carried_place (λ x. refl))
    (carried_or (carried_seq carried_place (carried_within expr_carried) (λ x y. refl))
    (carried_seq carried_place references_rest_carried (λ x y. refl)))))

column_rule_carried : Carried column_rule_without_positions FileGrammar.column_rule
unfolding FileGrammar.all_files
column_rule_carried = carried_or (carried_after (carried_seq carried_name plain_column_rule_carried (λ x y. refl))) plain_column_rule_carried

column_carried : Carried element_without_positions FileGrammar.column
unfolding FileGrammar.all_files
column_carried = carried_seq carried_name (carried_triple data_type_carried
    (carried_pair (carried_optional (carried_after constant_carried)) (carried_many column_rule_carried))) (λ x y. refl)

plain_table_rule_carried : Carried table_rule_without_positions FileGrammar.plain_table_rule
unfolding FileGrammar.all_files
plain_table_rule_carried = carried_or (carried_seq carried_place (carried_after names_in_parens_carried) (λ x y. refl))
    (carried_or (carried_seq carried_place names_in_parens_carried (λ x y. refl))
    (carried_or (carried_seq carried_place (carried_within expr_carried) (λ x y. refl))
    (carried_seq carried_place (carried_after (carried_pair names_in_parens_carried (carried_after references_rest_carried))) (λ x y. refl))))

table_rule_carried : Carried table_rule_without_positions FileGrammar.table_rule
unfolding FileGrammar.all_files
table_rule_carried = carried_or (carried_after (carried_seq carried_name plain_table_rule_carried (λ x y. refl))) plain_table_rule_carried

element_carried : Carried element_without_positions FileGrammar.element
unfolding FileGrammar.all_files
element_carried = carried_or column_carried (carried_image table_rule_carried (λ x. refl))

abbrev table_rest_without_positions : TableRest → TableRest
table_rest_without_positions t = record { name = name_without_positions t.name; elements = several_map element_without_positions t.elements }

table_carried : Carried table_rest_without_positions FileGrammar.table
unfolding FileGrammar.all_files
table_carried = carried_seq carried_name (carried_within (carried_several element_carried (carried_after element_carried))) (λ x y. refl)

-- ---- routines

named_type_carried : Carried (both name_without_positions type_without_positions) FileGrammar.named_type
unfolding FileGrammar.all_files
named_type_carried = carried_pair carried_name data_type_carried

param_carried : Carried parameter_without_positions FileGrammar.param
unfolding FileGrammar.all_files
param_carried = carried_or (carried_seq (carried_at mode_of) named_type_carried (λ x y. refl)) (carried_image named_type_carried (λ x. refl))

params_carried : Carried (map parameter_without_positions) FileGrammar.params
unfolding FileGrammar.all_files
params_carried = carried_after (carried_or (carried_image carried_place (λ x. refl)) (carried_before (carried_cons param_carried (carried_many (carried_after param_carried)))))

sql_data_carried : Carried place_without_positions FileGrammar.sql_data
unfolding FileGrammar.all_files
sql_data_carried = carried_after carried_place

characteristic_carried : Carried characteristic_without_positions FileGrammar.characteristic
unfolding FileGrammar.all_files
characteristic_carried = carried_or (carried_seq carried_place carried_place (λ x y. refl))
    (carried_or (carried_image carried_place (λ x. refl))
    (carried_or (carried_seq carried_place carried_place (λ x y. refl))
    (carried_or (carried_seq carried_place carried_place (λ x y. refl))
    (carried_or (carried_seq carried_place sql_data_carried (λ x y. refl))
    (carried_seq carried_place sql_data_carried (λ x y. refl))))))

abbrev noted_without_positions : List Characteristic × Statement → List Characteristic × Statement
noted_without_positions = both (map characteristic_without_positions) statement_without_positions

noted_carried : Carried noted_without_positions FileGrammar.noted_statement
unfolding FileGrammar.all_files
noted_carried = carried_pair (carried_many characteristic_carried) statement_carried

abbrev procedure_rest_without_positions : ProcedureRest → ProcedureRest
procedure_rest_without_positions r = record { name = name_without_positions r.name; parameters = map parameter_without_positions r.parameters; characteristics = map characteristic_without_positions r.characteristics; body = statement_without_positions r.body }

procedure_carried : Carried routine_without_positions FileGrammar.procedure
unfolding FileGrammar.all_files
procedure_carried = carried_seq carried_place (carried_seq {h = procedure_rest_without_positions} carried_name (carried_pair params_carried noted_carried) (λ x y. refl)) (λ x y. refl)

returned_carried : Carried (both type_without_positions noted_without_positions) FileGrammar.returned
unfolding FileGrammar.all_files
returned_carried = carried_or (carried_seq carried_place (carried_ahead {h = both same noted_without_positions} (carried_pair varying_carried noted_carried) (carried_pair char_length_carried noted_carried)) (λ x y. refl))
    (carried_pair plain_type_carried noted_carried)

abbrev function_rest_without_positions : FunctionRest → FunctionRest
function_rest_without_positions r = record { name = name_without_positions r.name; parameters = map parameter_without_positions r.parameters; returns = type_without_positions r.returns; characteristics = map characteristic_without_positions r.characteristics; body = statement_without_positions r.body }

function_carried : Carried routine_without_positions FileGrammar.function
unfolding FileGrammar.all_files
function_carried = carried_seq carried_place (carried_seq {h = function_rest_without_positions} carried_name (carried_pair params_carried (carried_after returned_carried)) (λ x y. refl)) (λ x y. refl)

routine_carried : Carried routine_without_positions FileGrammar.routine
unfolding FileGrammar.all_files
routine_carried = carried_or (carried_after (carried_or procedure_carried function_carried)) (carried_or procedure_carried function_carried)

-- ---- files

abbrev module_rest_without_positions : ModuleRest → ModuleRest
module_rest_without_positions m = record { name = name_without_positions m.name; routines = map routine_without_positions m.routines }

module_carried : Carried module_rest_without_positions FileGrammar.module_part
unfolding FileGrammar.all_files
module_carried = carried_after (carried_seq carried_name (carried_pair (carried_optional (carried_after carried_place)) (carried_before (carried_before (carried_many (carried_before routine_carried))))) (λ x y. refl))

created_tables_carried : Carried (map (both table_rest_without_positions place_without_positions)) FileGrammar.created_tables
unfolding FileGrammar.all_files
created_tables_carried = carried_many (carried_after (carried_pair table_carried (carried_after carried_place)))

tables_made : (place : Place) (ts : List (TableRest × Place)) → tables_from origin (map (both table_rest_without_positions place_without_positions) ts) ≡ map table_without_positions (tables_from place ts)
tables_made place [] = refl
tables_made place (t ∷ ts) = ap (λ tables. table_without_positions (table_of place t.0) ∷ tables) (tables_made t.1 ts)

last_place_made : (ts : List (TableRest × Place)) → last_place origin (map (both table_rest_without_positions place_without_positions) ts) ≡ origin
last_place_made [] = refl
last_place_made (t ∷ ts) = last_place_made ts

file_made : (place : Place) (p : List (TableRest × Place) × ModuleRest) → file_of origin (both (map (both table_rest_without_positions place_without_positions)) module_rest_without_positions p) ≡ file_without_positions (file_of place p)
file_made place p = λ i. record {
  tables = tables_made place p.0 i;
  «module» = record { place = last_place_made p.0 i; name = name_without_positions p.1.name; routines = map routine_without_positions p.1.routines };
}

pub file_carried : Carried file_without_positions FileGrammar.file
unfolding FileGrammar.all_files
file_carried = carried_seq carried_place (carried_pair created_tables_carried (carried_seq module_carried (carried_optional carried_place) (λ x y. refl))) file_made

-- ---- scripts

argument_carried : Carried argument_without_positions FileGrammar.argument
unfolding FileGrammar.all_files
argument_carried = carried_or (carried_image carried_place (λ x. refl)) (carried_image constant_carried (λ x. refl))

script_arguments_carried : Carried (map argument_without_positions) FileGrammar.script_arguments
unfolding FileGrammar.all_files
script_arguments_carried = carried_or (carried_image carried_place (λ x. refl)) (carried_before (carried_cons argument_carried (carried_many (carried_after argument_carried))))

row_carried : Carried row_without_positions FileGrammar.row
unfolding FileGrammar.all_files
row_carried = carried_seq carried_place (carried_before (carried_several constant_carried (carried_after constant_carried))) (λ x y. refl)

inserting_carried : Carried command_without_positions FileGrammar.script_insert
unfolding FileGrammar.all_files
inserting_carried = carried_seq carried_place (carried_after (carried_triple carried_name
    (carried_pair (carried_optional names_in_parens_carried) (carried_after (carried_several row_carried (carried_after row_carried)))))) (λ x y. refl)

command_carried : Carried command_without_positions FileGrammar.command
unfolding FileGrammar.all_files
command_carried = carried_or (carried_seq carried_place (carried_pair carried_name (carried_after script_arguments_carried)) (λ x y. refl))
    (carried_or inserting_carried
    (carried_or (carried_image ordered_select_carried (λ x. refl))
    (carried_or (carried_seq carried_place (carried_optional carried_place) (λ x y. refl))
    (carried_seq carried_place (carried_optional carried_place) (λ x y. refl)))))

pub script_carried : Carried script_without_positions FileGrammar.script
unfolding FileGrammar.all_files
script_carried = carried_image (carried_many (carried_before command_carried)) (λ x. refl)
