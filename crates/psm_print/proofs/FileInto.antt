-- Tables, routines and module files go over into printed ones.
use Rattle.std.proofs.Common.{◌≡◌, List, [], ◌∷◌, ◌++◌, map, option_map, refl, sym, ap, subst}
use Rattle.std.proofs.lemmas.List.{append_assoc, append-nil}
use native.Mathlib.Omega.{arith}
use Rattle.psm_list.specs.Several.{several_map}
use Rattle.psm_token.specs.declared.place.Place.{Place}
use Rattle.psm_token.specs.declared.word.Word.TheVariants as w
use Rattle.psm_token.specs.declared.sign.Sign.TheVariants as s
use Rattle.psm_grammar.specs.Grammar.{token, seq}
use Rattle.psm_tree.specs.Tests.{char_word}
use Rattle.psm_tree.specs.ExprValues.{pair, formed}
use Rattle.psm_tree.specs.FileValues.{TableRest, ProcedureRest, FunctionRest, ModuleRest, tables_from, file_of, returned_char}
use Rattle.psm_tree.specs.ExprGrammar.{varying, char_length}
use Rattle.psm_tree.specs.FileGrammar
use Rattle.psm_tree.specs.FileGrammar.{references_rest, plain_column_rule, column_rule, column_rule_list, column, plain_table_rule, table_rule, element, table, params, characteristic, noted_statement, procedure, returned, function, plain_routine, routine, module_part, created_tables, file}
use Rattle.psm_tree.specs.declared.types.DataType.{DataType}
use Rattle.psm_tree.specs.declared.types.TypeForm.{TypeForm}
use Rattle.psm_tree.specs.declared.statement.Statement.{Statement}
use Rattle.psm_tree.specs.declared.file.Characteristic.{Characteristic}
use Rattle.psm_print.specs.Spelling.{Spelling, word, sign, perhaps, each, separated, ended, in_parens}
use Rattle.psm_print.specs.ExprTokens.{name_tokens, enclosed_names_tokens, type_tokens, constant_tokens}
use Rattle.psm_print.specs.StatementTokens.{statement_tokens}
use Rattle.psm_print.specs.FileTokens.{referred_tokens, references_tokens, column_rule_tokens, table_rule_tokens, element_tokens, table_tree_tokens, parameter_tokens, parameters_tokens, characteristic_tokens, routine_tokens, module_tokens, file_tokens}
use Rattle.psm_print.proofs.Regrouped.{before2}
use Rattle.psm_print.proofs.Into.{PrintContext, Into, into_seq, into_seq_if, into_both, into_before, into_front, left_out, or_from, or_left, or_right, into_or, ahead_right, seq_ahead, seq_again, into_image, into_perhaps, into_each, into_ended}
use Rattle.psm_print.proofs.Tokens.{into_word, into_sign, after_word, after_sign, before_word, before_sign, into_closed, into_parens, into_commas}
use Rattle.psm_print.proofs.Chosen.{into_name, into_char}
use Rattle.psm_print.proofs.TypesInto.{names_in_parens_into, rest_tokens, IsChar, is_char, char_equal, plain_into, varying_into, char_length_into, data_type_into, constant_into}
use Rattle.psm_print.proofs.ExprInto.{expr_into}
use Rattle.psm_print.proofs.ParamInto.{param_into}
use Rattle.psm_print.proofs.StatementInto.{statement_into}

-- ---- tables

-- NO ACTION is left out
references_rest_into : {z : PrintContext} → Into z references_rest references_rest referred_tokens
unfolding FileGrammar.all_files
references_rest_into = into_before referred_tokens into_name (into_perhaps [] enclosed_names_tokens names_in_parens_into (λ x. refl)) (λ x y o. refl) (λ x y. refl)

plain_column_rule_into : {z : PrintContext} → Into z plain_column_rule plain_column_rule column_rule_tokens
unfolding FileGrammar.all_files
plain_column_rule_into = into_or (into_seq column_rule_tokens (into_word w.Not) (into_word w.Null) (λ x y. refl)) (into_or (into_seq column_rule_tokens (into_word w.Primary) (into_word w.Key) (λ x y. refl))
    (into_or (into_image column_rule_tokens (into_word w.Unique) (λ x. refl)) (into_or (into_seq column_rule_tokens (into_word w.Check) (into_parens expr_into) (λ x y. refl))
    (into_seq column_rule_tokens (into_word w.References) references_rest_into (λ x y. refl)))))

-- CONSTRAINT and the name of a rule are left out
column_rule_into : {z : PrintContext} → Into z column_rule column_rule column_rule_tokens
unfolding FileGrammar.all_files
column_rule_into = or_from (or_right (left_out (left_out plain_column_rule_into))) (or_right plain_column_rule_into)

column_rules_into : {z : PrintContext} → Into z column_rule_list column_rule_list (λ xs. each [] (map column_rule_tokens xs))
unfolding FileGrammar.all_files
column_rules_into = into_each [] column_rule_tokens column_rule_into (λ x. refl)

column_into : {z : PrintContext} → Into z column column element_tokens
unfolding FileGrammar.all_files
column_into = into_seq element_tokens into_name (into_seq (λ p. type_tokens p.0 ++ perhaps (word w.Default) (option_map constant_tokens p.1) ++ each [] (map column_rule_tokens p.2)) data_type_into
    (into_seq (λ p. perhaps (word w.Default) (option_map constant_tokens p.0) ++ each [] (map column_rule_tokens p.1)) (into_perhaps (word w.Default) constant_tokens (after_word w.Default constant_into) (λ x. refl)) column_rules_into (λ x y. refl))
    (λ x y. before2 (type_tokens x) (perhaps (word w.Default) (option_map constant_tokens y.0)) (each [] (map column_rule_tokens y.1)))) (λ x y. refl)

plain_table_rule_into : {z : PrintContext} → Into z plain_table_rule plain_table_rule table_rule_tokens
unfolding FileGrammar.all_files
plain_table_rule_into = into_or (into_seq table_rule_tokens (into_word w.Primary) (after_word w.Key names_in_parens_into) (λ x y. refl))
    (into_or (into_seq table_rule_tokens (into_word w.Unique) names_in_parens_into (λ x y. refl)) (into_or (into_seq table_rule_tokens (into_word w.Check) (into_parens expr_into) (λ x y. refl))
    (into_seq table_rule_tokens (into_word w.Foreign) (after_word w.Key (into_seq (λ p. enclosed_names_tokens p.0 ++ references_tokens p.1) names_in_parens_into (after_word w.References references_rest_into) (λ x y. refl))) (λ x y. refl))))

table_rule_into : {z : PrintContext} → Into z table_rule table_rule table_rule_tokens
unfolding FileGrammar.all_files
table_rule_into = or_from (or_right (left_out (left_out plain_table_rule_into))) (or_right plain_table_rule_into)

element_into : {z : PrintContext} → Into z element element element_tokens
unfolding FileGrammar.all_files
element_into = into_or column_into (into_image element_tokens table_rule_into (λ x. refl))

-- a table after TABLE
abbrev table_tokens : TableRest → Spelling
table_tokens x = name_tokens x.name ++ in_parens (separated (sign s.Comma) (several_map element_tokens x.elements))

table_into : {z : PrintContext} → Into z table table table_tokens
unfolding FileGrammar.all_files
table_into = into_seq table_tokens into_name (into_parens (into_commas element_tokens element_into)) (λ x y. refl)

-- ---- routines

params_into : {z : PrintContext} → Into z params params (λ ps. in_parens (parameters_tokens ps))
unfolding FileGrammar.all_files
params_into = after_sign s.LeftParen (into_or (into_image (λ ps. parameters_tokens ps ++ sign s.RightParen) (into_sign s.RightParen) (λ x. refl))
    (into_closed (into_seq parameters_tokens param_into (into_each (sign s.Comma) parameter_tokens (after_sign s.Comma param_into) (λ x. refl)) (λ x y. refl))))

characteristic_into : {z : PrintContext} → Into z characteristic characteristic characteristic_tokens
unfolding FileGrammar.all_files
characteristic_into = into_or (into_seq characteristic_tokens (into_word w.Language) (into_word w.Sql) (λ x y. refl)) (into_or (into_image characteristic_tokens (into_word w.Deterministic) (λ x. refl))
    (into_or (into_seq characteristic_tokens (into_word w.Not) (into_word w.Deterministic) (λ x y. refl)) (into_or (into_seq characteristic_tokens (into_word w.Contains) (into_word w.Sql) (λ x y. refl))
    (into_or (into_seq characteristic_tokens (into_word w.Reads) (after_word w.Sql (into_word w.Data)) (λ x y. refl)) (into_seq characteristic_tokens (into_word w.Modifies) (after_word w.Sql (into_word w.Data)) (λ x y. refl))))))

abbrev noted_tokens : List Characteristic × Statement → Spelling
noted_tokens p = each [] (map characteristic_tokens p.0) ++ statement_tokens p.1

noted_into : {z : PrintContext} → Into z noted_statement noted_statement noted_tokens
unfolding FileGrammar.all_files
noted_into = into_seq noted_tokens (into_each [] characteristic_tokens characteristic_into (λ x. refl)) statement_into (λ x y. refl)

procedure_left : (p n b : Spelling) → in_parens p ++ (n ++ b) ≡ in_parens p ++ [] ++ n ++ b
procedure_left p n b = grind (arith, append_assoc, append-nil)

abbrev procedure_tokens : ProcedureRest → Spelling
procedure_tokens r = name_tokens r.name ++ (in_parens (parameters_tokens r.parameters) ++ [] ++ each [] (map characteristic_tokens r.characteristics) ++ statement_tokens r.body)

procedure_into : {z : PrintContext} → Into z procedure procedure routine_tokens
unfolding FileGrammar.all_files
procedure_into = into_seq routine_tokens (into_word w.Procedure) (into_seq procedure_tokens into_name (into_seq (λ p. in_parens (parameters_tokens p.0) ++ noted_tokens p.1) params_into noted_into (λ x y. refl))
    (λ x y. ap (λ ts. name_tokens x ++ ts) (procedure_left (parameters_tokens y.0) (each [] (map characteristic_tokens y.1.0)) (statement_tokens y.1.1)))) (λ x y. refl)

-- ---- functions, where CHAR VARYING becomes VARCHAR

abbrev returned_tokens : DataType × (List Characteristic × Statement) → Spelling
returned_tokens p = type_tokens p.0 ++ noted_tokens p.1

varying_returned : {z : PrintContext} → Into z (seq returned_char (token char_word) (seq pair varying noted_statement)) returned returned_tokens
unfolding FileGrammar.all_files
varying_returned = seq_again pair formed (λ x y v. refl) (or_right (into_seq returned_tokens (or_right (or_right (or_right varying_into))) noted_into (λ x y. refl)))

abbrev OfChar : TypeForm × (List Characteristic × Statement) → Type 0
OfChar p = IsChar p.0

char_returned_into : {z : PrintContext} → Into z (seq returned_char (token char_word) (seq pair char_length noted_statement)) returned returned_tokens
unfolding FileGrammar.all_files
char_returned_into {z} = or_left (into_seq_if returned_tokens OfChar (λ u y l. subst OfChar (sym l.made) (is_char z l.front l.one l.left)) into_char
    (ahead_right (into_seq (λ p. rest_tokens p.0 ++ noted_tokens p.1) char_length_into noted_into (λ x y. refl))) (λ x y h. ap (λ ts. ts ++ noted_tokens y.1) (char_equal x y.0 h)))

returned_into : {z : PrintContext} → Into z returned returned returned_tokens
unfolding FileGrammar.all_files
returned_into = or_from (seq_ahead varying_returned char_returned_into) (or_right (into_seq returned_tokens plain_into noted_into (λ x y. refl)))

function_left : (p k n b : Spelling) → in_parens p ++ (word w.Returns ++ (k ++ (n ++ b))) ≡ in_parens p ++ (word w.Returns ++ k) ++ n ++ b
function_left p k n b = grind (arith, append_assoc)

abbrev function_tokens : FunctionRest → Spelling
function_tokens r = name_tokens r.name ++ (in_parens (parameters_tokens r.parameters) ++ (word w.Returns ++ type_tokens r.returns) ++ each [] (map characteristic_tokens r.characteristics) ++ statement_tokens r.body)

function_into : {z : PrintContext} → Into z function function routine_tokens
unfolding FileGrammar.all_files
function_into = into_seq routine_tokens (into_word w.Function) (into_seq function_tokens into_name (into_seq (λ p. in_parens (parameters_tokens p.0) ++ (word w.Returns ++ returned_tokens p.1)) params_into (after_word w.Returns returned_into) (λ x y. refl))
    (λ x y. ap (λ ts. name_tokens x ++ ts) (function_left (parameters_tokens y.0) (type_tokens y.1.0) (each [] (map characteristic_tokens y.1.1.0)) (statement_tokens y.1.1.1)))) (λ x y. refl)

plain_routine_into : {z : PrintContext} → Into z plain_routine plain_routine routine_tokens
unfolding FileGrammar.all_files
plain_routine_into = into_or procedure_into function_into

-- DECLARE is left out
routine_into : {z : PrintContext} → Into z routine routine routine_tokens
unfolding FileGrammar.all_files
routine_into = or_from (or_right (left_out plain_routine_into)) (or_right plain_routine_into)

-- ---- files

abbrev body_tokens : ModuleRest → Spelling
body_tokens m = word w.Module ++ name_tokens m.name ++ (ended (map routine_tokens m.routines) ++ word w.End ++ word w.Module)

-- LANGUAGE SQL is left out
module_into : {z : PrintContext} → Into z module_part module_part body_tokens
unfolding FileGrammar.all_files
module_into = after_word w.Module (into_both (λ m. name_tokens m.name ++ (ended (map routine_tokens m.routines) ++ word w.End ++ word w.Module)) into_name
    (before_word w.Module (before_word w.End (into_ended routine_tokens (before_sign s.Semicolon routine_into) (λ x. refl)))) (λ x o y. refl) (λ x y. refl))

abbrev created_tokens : TableRest × Place → Spelling
created_tokens p = word w.Table ++ table_tokens p.0 ++ (sign s.Semicolon ++ word w.Create)

created_into : {z : PrintContext} → Into z created_tables created_tables (λ xs. each [] (map created_tokens xs))
unfolding FileGrammar.all_files
created_into = into_each [] created_tokens (after_word w.Table (into_seq (λ p. table_tokens p.0 ++ (sign s.Semicolon ++ word w.Create)) table_into (after_sign s.Semicolon (into_word w.Create)) (λ x y. refl))) (λ x. refl)

-- each CREATE goes with what follows it
moved_left : (t c m e k : Spelling) → word w.Create ++ (c ++ m) ≡ e ++ k → word w.Create ++ ((word w.Table ++ t ++ (sign s.Semicolon ++ word w.Create)) ++ c ++ m) ≡ ((word w.Create ++ word w.Table ++ t) ++ sign s.Semicolon) ++ e ++ k
moved_left t c m e k h = grind (arith, append_assoc, h)

file_equal : (place : Place) (ts : List (TableRest × Place)) (m : ModuleRest) → word w.Create ++ (each [] (map created_tokens ts) ++ body_tokens m) ≡ file_tokens (file_of place (ts, m))
file_equal place [] m = refl
file_equal place (x ∷ ts) m = moved_left (table_tokens x.0) (each [] (map created_tokens ts)) (body_tokens m) (ended (map table_tree_tokens (tables_from x.1 ts))) (module_tokens (file_of x.1 (ts, m)).«module») (file_equal x.1 ts m)

-- the last semicolon is left out
pub file_into : {z : PrintContext} → Into z file file file_tokens
unfolding FileGrammar.all_files
file_into = into_seq file_tokens (into_word w.Create) (into_seq (λ p. each [] (map created_tokens p.0) ++ body_tokens p.1) created_into (into_front module_into) (λ x y. refl)) (λ x y. file_equal x y.0 y.1)
