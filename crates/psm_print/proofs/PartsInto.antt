-- The parts of statements go over into printed ones.
use Rattle.std.proofs.Common.{◌≡◌, [], ◌++◌, refl, sym, subst, ◌∙◌}
use Rattle.psm_list.specs.Several.{several_map}
use Rattle.psm_token.specs.declared.word.Word.TheVariants as w
use Rattle.psm_token.specs.declared.sign.Sign.TheVariants as s
use Rattle.psm_tree.specs.StatementGrammar
use Rattle.psm_tree.specs.StatementGrammar.{state, direction, column_order, order, ordered_select, message, signalled, state_signalled, name_signalled, current, where_part, values, insert_source, assignment, statement_info, condition_info, condition_number, exception_diagnostics, diagnostics, diagnostics_area, for_state, insert_values, read_only_part, updatability, insensitive, atomic, handler_value, handler_values}
use Rattle.psm_tree.specs.declared.statement.Updatability.{Updatability}
use Rattle.psm_tree.specs.declared.statement.Diagnostics.{Diagnostics}
use Rattle.psm_tree.specs.declared.statement.Diagnostics.TheVariants as diagnostic
use Rattle.psm_tree.specs.declared.statement.InsertSource.{InsertSource}
use Rattle.psm_tree.specs.declared.statement.InsertSource.TheVariants as inserted
use Rattle.psm_tree.specs.declared.statement.Where.{Where}
use Rattle.psm_tree.specs.declared.statement.Where.TheVariants as wheres
use Rattle.psm_print.specs.Spelling.{Spelling, word, sign, separated}
use Rattle.psm_print.specs.ExprTokens.{name_tokens, target_tokens, expr_tokens}
use Rattle.psm_print.specs.StatementTokens.{state_tokens, direction_tokens, column_order_tokens, order_tokens, ordered_query_tokens, condition_tokens, signalled_tokens, where_tokens, values_tokens, rows_tokens, insert_source_tokens, assignment_tokens, statement_item_tokens, condition_item_tokens, statement_info_tokens, condition_info_tokens, condition_number_tokens, diagnostics_tokens, area_tokens, updatability_tokens, insensitive_tokens, handler_value_tokens, handled_tokens, atomic_tokens}
use Rattle.psm_print.proofs.Regrouped.{before2}
use Rattle.psm_print.proofs.Into.{PrintContext, Into, into_equal, into_equal_if, into_seq, left_out, or_from, or_right, into_or, into_gone, into_image, into_nothing, into_perhaps}
use Rattle.psm_print.proofs.Tokens.{into_word, into_sign, after_word, after_sign, into_closed, into_commas}
use Rattle.psm_print.proofs.Chosen.{into_name, into_number, into_text, into_statement_item, into_condition_item, into_exception}
use Rattle.psm_print.proofs.TypesInto.{target_into}
use Rattle.psm_print.proofs.ExprInto.{expr_into, source_into, sources_into}
use Rattle.psm_print.proofs.QueryInto.{select_into}

-- ---- conditions and orders

-- VALUE is left out
pub state_into : {z : PrintContext} → Into z state state state_tokens
unfolding StatementGrammar.all_statements
state_into = into_seq state_tokens (into_word w.SqlState) (or_from (or_right (left_out into_text)) (or_right into_text)) (λ x y. refl)

-- ASC is left out
direction_into : {z : PrintContext} → Into z direction direction direction_tokens
unfolding StatementGrammar.all_statements
direction_into = into_or (into_image direction_tokens (into_word w.Desc) (λ x. refl)) (or_from (or_right (into_gone direction_tokens refl (λ u x l. l.made))) (or_right (into_nothing direction_tokens refl)))

column_order_into : {z : PrintContext} → Into z column_order column_order column_order_tokens
unfolding StatementGrammar.all_statements
column_order_into = into_seq column_order_tokens into_name direction_into (λ x y. refl)

order_into : {z : PrintContext} → Into z order order order_tokens
unfolding StatementGrammar.all_statements
order_into = into_seq order_tokens (into_word w.Order) (after_word w.By (into_commas column_order_tokens column_order_into)) (λ x y. refl)

pub ordered_into : {z : PrintContext} → Into z ordered_select ordered_select ordered_query_tokens
unfolding StatementGrammar.all_statements
ordered_into = into_seq ordered_query_tokens select_into (into_perhaps [] order_tokens order_into (λ x. refl)) (λ x y. refl)

-- ---- parts of simple statements

abbrev message_words : Spelling
message_words = word w.Set ++ word w.MessageText ++ sign s.Equal

message_into : {z : PrintContext} → Into z message message (λ e. message_words ++ expr_tokens e)
unfolding StatementGrammar.all_statements
message_into = after_word w.Set (after_word w.MessageText (after_sign s.Equal expr_into))

pub state_signalled_into : {z : PrintContext} → Into z state_signalled state_signalled signalled_tokens
unfolding StatementGrammar.all_statements
state_signalled_into = into_seq signalled_tokens (into_image condition_tokens state_into (λ x. refl)) (into_perhaps message_words expr_tokens message_into (λ x. refl)) (λ x y. refl)

pub name_signalled_into : {z : PrintContext} → Into z name_signalled name_signalled signalled_tokens
unfolding StatementGrammar.all_statements
name_signalled_into = into_seq signalled_tokens (into_image condition_tokens into_name (λ x. refl)) (into_perhaps message_words expr_tokens message_into (λ x. refl)) (λ x y. refl)

pub signalled_into : {z : PrintContext} → Into z signalled signalled signalled_tokens
unfolding StatementGrammar.all_statements
signalled_into = into_or state_signalled_into name_signalled_into

-- which rows, after WHERE
abbrev which_tokens : Where → Spelling
which_tokens (wheres.Condition condition) = expr_tokens condition
which_tokens (wheres.Current cursor) = word w.Current ++ word w.Of ++ name_tokens cursor

abbrev cursor_name : Where → Spelling
cursor_name (wheres.Condition condition) = []
cursor_name (wheres.Current cursor) = name_tokens cursor

abbrev IsCurrent : Where → Type 0
IsCurrent x = word w.Current ++ word w.Of ++ cursor_name x ≡ which_tokens x

current_into : {z : PrintContext} → Into z current current which_tokens
unfolding StatementGrammar.all_statements
current_into = into_equal_if which_tokens (λ u x l. subst IsCurrent (sym (l.made ∙ l.right.made ∙ l.right.right.made)) refl) (after_word w.Current (after_word w.Of (into_image cursor_name into_name (λ x. refl))))

where_equal : (x : Where) → word w.Where ++ which_tokens x ≡ where_tokens x
where_equal (wheres.Condition condition) = refl
where_equal (wheres.Current cursor) = refl

pub where_into : {z : PrintContext} → Into z where_part where_part where_tokens
unfolding StatementGrammar.all_statements
where_into = into_equal where_tokens where_equal (after_word w.Where (into_or current_into (into_image which_tokens expr_into (λ x. refl))))

pub values_into : {z : PrintContext} → Into z values values values_tokens
unfolding StatementGrammar.all_statements
values_into = into_seq values_tokens (into_sign s.LeftParen) (into_closed sources_into) (λ x y. refl)

abbrev inserted_tokens : InsertSource → Spelling
inserted_tokens (inserted.Values rows) = rows_tokens rows
inserted_tokens (inserted.Query query) = []

abbrev AreRows : InsertSource → Type 0
AreRows x = word w.Values ++ inserted_tokens x ≡ insert_source_tokens x

insert_values_into : {z : PrintContext} → Into z insert_values insert_values insert_source_tokens
unfolding StatementGrammar.all_statements
insert_values_into = into_equal_if insert_source_tokens (λ u x l. subst AreRows (sym (l.made ∙ l.right.made)) refl)
    (after_word w.Values (into_image inserted_tokens (into_commas values_tokens values_into) (λ x. refl)))

pub insert_source_into : {z : PrintContext} → Into z insert_source insert_source insert_source_tokens
unfolding StatementGrammar.all_statements
insert_source_into = into_or insert_values_into (into_image insert_source_tokens select_into (λ x. refl))

pub assignment_into : {z : PrintContext} → Into z assignment assignment assignment_tokens
unfolding StatementGrammar.all_statements
assignment_into = into_seq assignment_tokens into_name (after_sign s.Equal source_into) (λ x y. refl)

-- ---- GET DIAGNOSTICS

statement_info_into : {z : PrintContext} → Into z statement_info statement_info statement_info_tokens
unfolding StatementGrammar.all_statements
statement_info_into = into_seq statement_info_tokens target_into (after_sign s.Equal into_statement_item) (λ x y. before2 (target_tokens x) (sign s.Equal) (statement_item_tokens y.value))

condition_info_into : {z : PrintContext} → Into z condition_info condition_info condition_info_tokens
unfolding StatementGrammar.all_statements
condition_info_into = into_seq condition_info_tokens target_into (after_sign s.Equal into_condition_item) (λ x y. before2 (target_tokens x) (sign s.Equal) (condition_item_tokens y.value))

condition_number_into : {z : PrintContext} → Into z condition_number condition_number condition_number_tokens
unfolding StatementGrammar.all_statements
condition_number_into = into_or (into_image condition_number_tokens into_number (λ x. refl)) (into_image condition_number_tokens target_into (λ x. refl))

abbrev exception_tokens : Diagnostics → Spelling
exception_tokens (diagnostic.Statement items) = []
exception_tokens (diagnostic.Condition number items) = condition_number_tokens number ++ separated (sign s.Comma) (several_map condition_info_tokens items)

abbrev IsException : Diagnostics → Type 0
IsException x = word w.Exception ++ exception_tokens x ≡ diagnostics_tokens x

exception_into : {z : PrintContext} → Into z exception_diagnostics exception_diagnostics diagnostics_tokens
unfolding StatementGrammar.all_statements
exception_into = into_equal_if diagnostics_tokens (λ u x l. subst IsException (sym (l.made ∙ l.right.made)) refl)
    (into_seq (λ x. word w.Exception ++ exception_tokens x) into_exception (into_seq exception_tokens condition_number_into (into_commas condition_info_tokens condition_info_into) (λ x y. refl)) (λ x y. refl))

pub diagnostics_into : {z : PrintContext} → Into z diagnostics diagnostics diagnostics_tokens
unfolding StatementGrammar.all_statements
diagnostics_into = into_or exception_into (into_image diagnostics_tokens (into_commas statement_info_tokens statement_info_into) (λ x. refl))

-- CURRENT is left out
pub area_into : {z : PrintContext} → Into z diagnostics_area diagnostics_area area_tokens
unfolding StatementGrammar.all_statements
area_into = into_or (into_image area_tokens (into_word w.Stacked) (λ x. refl)) (or_from (or_right (into_gone area_tokens refl (λ u x l. l.made))) (or_right (into_nothing area_tokens refl)))

-- ---- parts of declarations

pub for_state_into : {z : PrintContext} → Into z for_state for_state (λ x. word w.For ++ state_tokens x)
unfolding StatementGrammar.all_statements
for_state_into = after_word w.For state_into

pub insensitive_into : {z : PrintContext} → Into z insensitive insensitive insensitive_tokens
unfolding StatementGrammar.all_statements
insensitive_into = into_or (into_image insensitive_tokens (into_word w.Insensitive) (λ x. refl)) (into_nothing insensitive_tokens refl)

abbrev IsReadOnly : Updatability → Type 0
IsReadOnly x = word w.Read ++ word w.Only ≡ updatability_tokens x

read_only_into : {z : PrintContext} → Into z read_only_part read_only_part updatability_tokens
unfolding StatementGrammar.all_statements
read_only_into = into_equal_if updatability_tokens (λ u x l. subst IsReadOnly (sym (l.made ∙ l.right.made)) refl) (after_word w.Read (into_image (λ x. word w.Only) (into_word w.Only) (λ x. refl)))

pub updatability_into : {z : PrintContext} → Into z updatability updatability (λ x. word w.For ++ updatability_tokens x)
unfolding StatementGrammar.all_statements
updatability_into = after_word w.For (into_or read_only_into (into_image updatability_tokens (into_word w.Update) (λ x. refl)))

-- NOT ATOMIC is left out
pub atomic_into : {z : PrintContext} → Into z atomic atomic atomic_tokens
unfolding StatementGrammar.all_statements
atomic_into = into_or (into_image atomic_tokens (into_word w.Atomic) (λ x. refl)) (or_from (or_right (into_gone atomic_tokens refl (λ u x l. l.made ∙ l.right.made))) (or_right (into_nothing atomic_tokens refl)))

handler_value_into : {z : PrintContext} → Into z handler_value handler_value handler_value_tokens
unfolding StatementGrammar.all_statements
handler_value_into = into_or (into_image handler_value_tokens state_into (λ x. refl)) (into_or (into_image handler_value_tokens (into_word w.SqlException) (λ x. refl))
    (into_or (into_image handler_value_tokens (into_word w.SqlWarning) (λ x. refl)) (into_or (into_seq handler_value_tokens (into_word w.Not) (into_word w.Found) (λ x y. refl)) (into_image handler_value_tokens into_name (λ x. refl)))))

pub handler_values_into : {z : PrintContext} → Into z handler_values handler_values handled_tokens
unfolding StatementGrammar.all_statements
handler_values_into = into_commas handler_value_tokens handler_value_into
