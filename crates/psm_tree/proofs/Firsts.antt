-- The kinds of tokens that parts of the grammar begin with.
use Rattle.std.proofs.Common.{◌≡◌, [], ◌∷◌, ◌++◌, refl}
use Rattle.psm_token.specs.declared.word.Word.TheVariants as w
use Rattle.psm_token.specs.declared.sign.Sign.TheVariants as s
use Rattle.psm_token.specs.Words.{word_kind}
use Rattle.psm_token.specs.Signs.{sign_kind}
use Rattle.psm_token.specs.Kinds.{kinds_of, number_kind, text_kind}
use Rattle.psm_grammar.specs.Readers.{first}
use Rattle.psm_tree.specs.FirstWords.{statement_words}
use Rattle.psm_tree.specs.Tests.{name_kinds}
use Rattle.psm_tree.specs.ExprGrammar
use Rattle.psm_tree.specs.StatementGrammar
use Rattle.psm_tree.specs.FileGrammar

pub first_second_name : first ExprGrammar.second_name ≡ sign_kind s.Period ∷ []
unfolding ExprGrammar.all_expressions
first_second_name = refl

pub first_target : first ExprGrammar.target ≡ name_kinds
unfolding ExprGrammar.all_expressions
first_target = refl

pub first_next_name : first ExprGrammar.next_name ≡ sign_kind s.Comma ∷ []
unfolding ExprGrammar.all_expressions
first_next_name = refl

pub first_next_names : first ExprGrammar.next_names ≡ sign_kind s.Comma ∷ []
unfolding ExprGrammar.all_expressions
first_next_names = refl

pub first_names : first ExprGrammar.names ≡ name_kinds
unfolding ExprGrammar.all_expressions
first_names = refl

pub first_names_in_parens : first ExprGrammar.names_in_parens ≡ sign_kind s.LeftParen ∷ []
unfolding ExprGrammar.all_expressions
first_names_in_parens = refl

pub first_next_target : first ExprGrammar.next_target ≡ sign_kind s.Comma ∷ []
unfolding ExprGrammar.all_expressions
first_next_target = refl

pub first_next_targets : first ExprGrammar.next_targets ≡ sign_kind s.Comma ∷ []
unfolding ExprGrammar.all_expressions
first_next_targets = refl

pub first_targets : first ExprGrammar.targets ≡ name_kinds
unfolding ExprGrammar.all_expressions
first_targets = refl

pub first_type_length : first ExprGrammar.type_length ≡ sign_kind s.LeftParen ∷ []
unfolding ExprGrammar.all_expressions
first_type_length = refl

pub first_scale : first ExprGrammar.scale ≡ sign_kind s.Comma ∷ []
unfolding ExprGrammar.all_expressions
first_scale = refl

pub first_precision : first ExprGrammar.precision ≡ sign_kind s.LeftParen ∷ []
unfolding ExprGrammar.all_expressions
first_precision = refl

pub first_numeric_type : first ExprGrammar.numeric_type ≡ word_kind w.Numeric ∷ word_kind w.Decimal ∷ word_kind w.Dec ∷ []
unfolding ExprGrammar.all_expressions
first_numeric_type = refl

pub first_varchar_type : first ExprGrammar.varchar_type ≡ word_kind w.VarChar ∷ []
unfolding ExprGrammar.all_expressions
first_varchar_type = refl

pub first_plain_type : first ExprGrammar.plain_type ≡ word_kind w.SmallInt ∷ word_kind w.Integer ∷ word_kind w.Int ∷ word_kind w.Numeric ∷ word_kind w.Decimal ∷ word_kind w.Dec ∷ word_kind w.VarChar ∷ []
unfolding ExprGrammar.all_expressions
first_plain_type = refl

pub first_varying : first ExprGrammar.varying ≡ word_kind w.Varying ∷ []
unfolding ExprGrammar.all_expressions
first_varying = refl

pub first_char_length : first ExprGrammar.char_length ≡ sign_kind s.LeftParen ∷ []
unfolding ExprGrammar.all_expressions
first_char_length = refl

pub first_char_rest : first ExprGrammar.char_rest ≡ word_kind w.Varying ∷ sign_kind s.LeftParen ∷ []
unfolding ExprGrammar.all_expressions
first_char_rest = refl

pub first_char_type : first ExprGrammar.char_type ≡ word_kind w.Char ∷ word_kind w.Character ∷ []
unfolding ExprGrammar.all_expressions
first_char_type = refl

pub first_data_type : first ExprGrammar.data_type ≡ word_kind w.Char ∷ word_kind w.Character ∷ word_kind w.SmallInt ∷ word_kind w.Integer ∷ word_kind w.Int ∷ word_kind w.Numeric ∷ word_kind w.Decimal ∷ word_kind w.Dec ∷ word_kind w.VarChar ∷ []
unfolding ExprGrammar.all_expressions
first_data_type = refl

pub first_constant : first ExprGrammar.constant ≡ number_kind ∷ text_kind ∷ word_kind w.Null ∷ sign_kind s.Plus ∷ sign_kind s.Minus ∷ []
unfolding ExprGrammar.all_expressions
first_constant = refl

pub first_name_rest : first ExprGrammar.name_rest ≡ sign_kind s.Period ∷ sign_kind s.LeftParen ∷ []
unfolding ExprGrammar.all_expressions
first_name_rest = refl

pub first_named_primary : first ExprGrammar.named_primary ≡ name_kinds
unfolding ExprGrammar.all_expressions
first_named_primary = refl

pub first_worded_primary : first ExprGrammar.worded_primary ≡ word_kind w.Exists ∷ word_kind w.Case ∷ word_kind w.Cast ∷ word_kind w.Coalesce ∷ word_kind w.NullIf ∷ word_kind w.Position ∷ word_kind w.Substring ∷ word_kind w.Trim ∷ word_kind w.CharLength ∷ word_kind w.CharacterLength ∷ word_kind w.Upper ∷ word_kind w.Lower ∷ []
unfolding ExprGrammar.all_expressions
first_worded_primary = refl

pub first_next_factor : first ExprGrammar.next_factor ≡ sign_kind s.Asterisk ∷ sign_kind s.Solidus ∷ []
unfolding ExprGrammar.all_expressions
first_next_factor = refl

pub first_next_factors : first ExprGrammar.next_factors ≡ sign_kind s.Asterisk ∷ sign_kind s.Solidus ∷ []
unfolding ExprGrammar.all_expressions
first_next_factors = refl

pub first_next_term : first ExprGrammar.next_term ≡ sign_kind s.Plus ∷ sign_kind s.Minus ∷ sign_kind s.Concatenation ∷ []
unfolding ExprGrammar.all_expressions
first_next_term = refl

pub first_next_terms : first ExprGrammar.next_terms ≡ sign_kind s.Plus ∷ sign_kind s.Minus ∷ sign_kind s.Concatenation ∷ []
unfolding ExprGrammar.all_expressions
first_next_terms = refl

pub first_between : first ExprGrammar.between ≡ word_kind w.Between ∷ []
unfolding ExprGrammar.all_expressions
first_between = refl

pub first_next_sum : first ExprGrammar.next_sum ≡ sign_kind s.Comma ∷ []
unfolding ExprGrammar.all_expressions
first_next_sum = refl

pub first_next_sums : first ExprGrammar.next_sums ≡ sign_kind s.Comma ∷ []
unfolding ExprGrammar.all_expressions
first_next_sums = refl

pub first_sums_in_parens : first ExprGrammar.sums_in_parens ≡ sign_kind s.LeftParen ∷ []
unfolding ExprGrammar.all_expressions
first_sums_in_parens = refl

pub first_in_list : first ExprGrammar.in_list ≡ word_kind w.In ∷ []
unfolding ExprGrammar.all_expressions
first_in_list = refl

pub first_escape : first ExprGrammar.escape ≡ word_kind w.Escape ∷ []
unfolding ExprGrammar.all_expressions
first_escape = refl

pub first_like : first ExprGrammar.like ≡ word_kind w.Like ∷ []
unfolding ExprGrammar.all_expressions
first_like = refl

pub first_is_null : first ExprGrammar.is_null ≡ word_kind w.Is ∷ []
unfolding ExprGrammar.all_expressions
first_is_null = refl

pub first_compare : first ExprGrammar.compare ≡ sign_kind s.Equal ∷ sign_kind s.NotEqual ∷ sign_kind s.Less ∷ sign_kind s.LessEqual ∷ sign_kind s.Greater ∷ sign_kind s.GreaterEqual ∷ []
unfolding ExprGrammar.all_expressions
first_compare = refl

pub first_negatable : first ExprGrammar.negatable ≡ word_kind w.Between ∷ word_kind w.In ∷ word_kind w.Like ∷ []
unfolding ExprGrammar.all_expressions
first_negatable = refl

pub first_negated_test : first ExprGrammar.negated_test ≡ word_kind w.Not ∷ []
unfolding ExprGrammar.all_expressions
first_negated_test = refl

pub first_predicate_rest : first ExprGrammar.predicate_rest ≡ sign_kind s.Equal ∷ sign_kind s.NotEqual ∷ sign_kind s.Less ∷ sign_kind s.LessEqual ∷ sign_kind s.Greater ∷ sign_kind s.GreaterEqual ∷ word_kind w.Is ∷ word_kind w.Not ∷ word_kind w.Between ∷ word_kind w.In ∷ word_kind w.Like ∷ []
unfolding ExprGrammar.all_expressions
first_predicate_rest = refl

pub first_next_negation : first ExprGrammar.next_negation ≡ word_kind w.And ∷ []
unfolding ExprGrammar.all_expressions
first_next_negation = refl

pub first_next_negations : first ExprGrammar.next_negations ≡ word_kind w.And ∷ []
unfolding ExprGrammar.all_expressions
first_next_negations = refl

pub first_next_conjunction : first ExprGrammar.next_conjunction ≡ word_kind w.Or ∷ []
unfolding ExprGrammar.all_expressions
first_next_conjunction = refl

pub first_next_conjunctions : first ExprGrammar.next_conjunctions ≡ word_kind w.Or ∷ []
unfolding ExprGrammar.all_expressions
first_next_conjunctions = refl

pub first_next_source : first ExprGrammar.next_source ≡ sign_kind s.Comma ∷ []
unfolding ExprGrammar.all_expressions
first_next_source = refl

pub first_next_sources : first ExprGrammar.next_sources ≡ sign_kind s.Comma ∷ []
unfolding ExprGrammar.all_expressions
first_next_sources = refl

pub first_count : first ExprGrammar.count ≡ word_kind w.Count ∷ []
unfolding ExprGrammar.all_expressions
first_count = refl

pub first_aggregate : first ExprGrammar.aggregate ≡ word_kind w.Sum ∷ word_kind w.Avg ∷ word_kind w.Min ∷ word_kind w.Max ∷ []
unfolding ExprGrammar.all_expressions
first_aggregate = refl

pub first_next_pick : first ExprGrammar.next_pick ≡ sign_kind s.Comma ∷ []
unfolding ExprGrammar.all_expressions
first_next_pick = refl

pub first_next_picks : first ExprGrammar.next_picks ≡ sign_kind s.Comma ∷ []
unfolding ExprGrammar.all_expressions
first_next_picks = refl

pub first_where_condition : first ExprGrammar.where_condition ≡ word_kind w.Where ∷ []
unfolding ExprGrammar.all_expressions
first_where_condition = refl

pub first_from_table : first ExprGrammar.from_table ≡ name_kinds
unfolding ExprGrammar.all_expressions
first_from_table = refl

pub first_select : first ExprGrammar.select ≡ word_kind w.Select ∷ []
unfolding ExprGrammar.all_expressions
first_select = refl

pub first_exists_rest : first ExprGrammar.exists_rest ≡ sign_kind s.LeftParen ∷ []
unfolding ExprGrammar.all_expressions
first_exists_rest = refl

pub first_when : first ExprGrammar.when ≡ word_kind w.When ∷ []
unfolding ExprGrammar.all_expressions
first_when = refl

pub first_next_whens : first ExprGrammar.next_whens ≡ word_kind w.When ∷ []
unfolding ExprGrammar.all_expressions
first_next_whens = refl

pub first_otherwise : first ExprGrammar.otherwise ≡ word_kind w.Else ∷ []
unfolding ExprGrammar.all_expressions
first_otherwise = refl

pub first_all_whens : first ExprGrammar.all_whens ≡ word_kind w.When ∷ []
unfolding ExprGrammar.all_expressions
first_all_whens = refl

pub first_whens : first ExprGrammar.whens ≡ word_kind w.When ∷ []
unfolding ExprGrammar.all_expressions
first_whens = refl

pub first_cast_rest : first ExprGrammar.cast_rest ≡ sign_kind s.LeftParen ∷ []
unfolding ExprGrammar.all_expressions
first_cast_rest = refl

pub first_coalesce_rest : first ExprGrammar.coalesce_rest ≡ sign_kind s.LeftParen ∷ []
unfolding ExprGrammar.all_expressions
first_coalesce_rest = refl

pub first_nullif_rest : first ExprGrammar.nullif_rest ≡ sign_kind s.LeftParen ∷ []
unfolding ExprGrammar.all_expressions
first_nullif_rest = refl

pub first_function_rest : first ExprGrammar.function_rest ≡ sign_kind s.LeftParen ∷ []
unfolding ExprGrammar.all_expressions
first_function_rest = refl

pub first_position_rest : first ExprGrammar.position_rest ≡ sign_kind s.LeftParen ∷ []
unfolding ExprGrammar.all_expressions
first_position_rest = refl

pub first_for_length : first ExprGrammar.for_length ≡ word_kind w.For ∷ []
unfolding ExprGrammar.all_expressions
first_for_length = refl

pub first_substring_rest : first ExprGrammar.substring_rest ≡ sign_kind s.LeftParen ∷ []
unfolding ExprGrammar.all_expressions
first_substring_rest = refl

pub first_sided : first ExprGrammar.sided ≡ word_kind w.Leading ∷ word_kind w.Trailing ∷ word_kind w.Both ∷ []
unfolding ExprGrammar.all_expressions
first_sided = refl

pub first_trim_rest : first ExprGrammar.trim_rest ≡ sign_kind s.LeftParen ∷ []
unfolding ExprGrammar.all_expressions
first_trim_rest = refl

pub ruleset expr_firsts = (first_second_name, first_target, first_next_name, first_next_names, first_names, first_names_in_parens, first_next_target, first_next_targets, first_targets, first_type_length, first_scale, first_precision, first_numeric_type, first_varchar_type, first_plain_type, first_varying, first_char_length, first_char_rest, first_char_type, first_data_type, first_constant, first_name_rest, first_named_primary, first_worded_primary, first_next_factor, first_next_factors, first_next_term, first_next_terms, first_between, first_next_sum, first_next_sums, first_sums_in_parens, first_in_list, first_escape, first_like, first_is_null, first_compare, first_negatable, first_negated_test, first_predicate_rest, first_next_negation, first_next_negations, first_next_conjunction, first_next_conjunctions, first_next_source, first_next_sources, first_count, first_aggregate, first_next_pick, first_next_picks, first_where_condition, first_from_table, first_select, first_exists_rest, first_when, first_next_whens, first_otherwise, first_all_whens, first_whens, first_cast_rest, first_coalesce_rest, first_nullif_rest, first_function_rest, first_position_rest, first_for_length, first_substring_rest, first_sided, first_trim_rest)

pub first_state_text : first StatementGrammar.state_text ≡ word_kind w.Value ∷ text_kind ∷ []
unfolding StatementGrammar.all_statements
first_state_text = refl

pub first_state : first StatementGrammar.state ≡ word_kind w.SqlState ∷ []
unfolding StatementGrammar.all_statements
first_state = refl

pub first_direction : first StatementGrammar.direction ≡ word_kind w.Desc ∷ word_kind w.Asc ∷ []
unfolding StatementGrammar.all_statements
first_direction = refl

pub first_column_order : first StatementGrammar.column_order ≡ name_kinds
unfolding StatementGrammar.all_statements
first_column_order = refl

pub first_next_column_order : first StatementGrammar.next_column_order ≡ sign_kind s.Comma ∷ []
unfolding StatementGrammar.all_statements
first_next_column_order = refl

pub first_next_column_orders : first StatementGrammar.next_column_orders ≡ sign_kind s.Comma ∷ []
unfolding StatementGrammar.all_statements
first_next_column_orders = refl

pub first_column_orders : first StatementGrammar.column_orders ≡ name_kinds
unfolding StatementGrammar.all_statements
first_column_orders = refl

pub first_order : first StatementGrammar.order ≡ word_kind w.Order ∷ []
unfolding StatementGrammar.all_statements
first_order = refl

pub first_ordered_select : first StatementGrammar.ordered_select ≡ word_kind w.Select ∷ []
unfolding StatementGrammar.all_statements
first_ordered_select = refl

pub first_message : first StatementGrammar.message ≡ word_kind w.Set ∷ []
unfolding StatementGrammar.all_statements
first_message = refl

pub first_state_signalled : first StatementGrammar.state_signalled ≡ word_kind w.SqlState ∷ []
unfolding StatementGrammar.all_statements
first_state_signalled = refl

pub first_name_signalled : first StatementGrammar.name_signalled ≡ name_kinds
unfolding StatementGrammar.all_statements
first_name_signalled = refl

pub first_current : first StatementGrammar.current ≡ word_kind w.Current ∷ []
unfolding StatementGrammar.all_statements
first_current = refl

pub first_where_part : first StatementGrammar.where_part ≡ word_kind w.Where ∷ []
unfolding StatementGrammar.all_statements
first_where_part = refl

pub first_values : first StatementGrammar.values ≡ sign_kind s.LeftParen ∷ []
unfolding StatementGrammar.all_statements
first_values = refl

pub first_next_values : first StatementGrammar.next_values ≡ sign_kind s.Comma ∷ []
unfolding StatementGrammar.all_statements
first_next_values = refl

pub first_more_values : first StatementGrammar.more_values ≡ sign_kind s.Comma ∷ []
unfolding StatementGrammar.all_statements
first_more_values = refl

pub first_all_values : first StatementGrammar.all_values ≡ sign_kind s.LeftParen ∷ []
unfolding StatementGrammar.all_statements
first_all_values = refl

pub first_insert_values : first StatementGrammar.insert_values ≡ word_kind w.Values ∷ []
unfolding StatementGrammar.all_statements
first_insert_values = refl

pub first_insert_source : first StatementGrammar.insert_source ≡ word_kind w.Values ∷ word_kind w.Select ∷ []
unfolding StatementGrammar.all_statements
first_insert_source = refl

pub first_assignment : first StatementGrammar.assignment ≡ name_kinds
unfolding StatementGrammar.all_statements
first_assignment = refl

pub first_next_assignment : first StatementGrammar.next_assignment ≡ sign_kind s.Comma ∷ []
unfolding StatementGrammar.all_statements
first_next_assignment = refl

pub first_next_assignments : first StatementGrammar.next_assignments ≡ sign_kind s.Comma ∷ []
unfolding StatementGrammar.all_statements
first_next_assignments = refl

pub first_statement_info : first StatementGrammar.statement_info ≡ name_kinds
unfolding StatementGrammar.all_statements
first_statement_info = refl

pub first_next_statement_info : first StatementGrammar.next_statement_info ≡ sign_kind s.Comma ∷ []
unfolding StatementGrammar.all_statements
first_next_statement_info = refl

pub first_next_statement_infos : first StatementGrammar.next_statement_infos ≡ sign_kind s.Comma ∷ []
unfolding StatementGrammar.all_statements
first_next_statement_infos = refl

pub first_statement_infos : first StatementGrammar.statement_infos ≡ name_kinds
unfolding StatementGrammar.all_statements
first_statement_infos = refl

pub first_condition_info : first StatementGrammar.condition_info ≡ name_kinds
unfolding StatementGrammar.all_statements
first_condition_info = refl

pub first_next_condition_info : first StatementGrammar.next_condition_info ≡ sign_kind s.Comma ∷ []
unfolding StatementGrammar.all_statements
first_next_condition_info = refl

pub first_next_condition_infos : first StatementGrammar.next_condition_infos ≡ sign_kind s.Comma ∷ []
unfolding StatementGrammar.all_statements
first_next_condition_infos = refl

pub first_condition_infos : first StatementGrammar.condition_infos ≡ name_kinds
unfolding StatementGrammar.all_statements
first_condition_infos = refl

pub first_exception_diagnostics : first StatementGrammar.exception_diagnostics ≡ word_kind w.Exception ∷ word_kind w.Condition ∷ []
unfolding StatementGrammar.all_statements
first_exception_diagnostics = refl

pub first_set_statement : first StatementGrammar.set_statement ≡ word_kind w.Set ∷ []
unfolding StatementGrammar.all_statements
first_set_statement = refl

pub first_call_statement : first StatementGrammar.call_statement ≡ word_kind w.Call ∷ []
unfolding StatementGrammar.all_statements
first_call_statement = refl

pub first_return_statement : first StatementGrammar.return_statement ≡ word_kind w.Return ∷ []
unfolding StatementGrammar.all_statements
first_return_statement = refl

pub first_leave_statement : first StatementGrammar.leave_statement ≡ word_kind w.Leave ∷ []
unfolding StatementGrammar.all_statements
first_leave_statement = refl

pub first_iterate_statement : first StatementGrammar.iterate_statement ≡ word_kind w.Iterate ∷ []
unfolding StatementGrammar.all_statements
first_iterate_statement = refl

pub first_signal_statement : first StatementGrammar.signal_statement ≡ word_kind w.Signal ∷ []
unfolding StatementGrammar.all_statements
first_signal_statement = refl

pub first_resignal_statement : first StatementGrammar.resignal_statement ≡ word_kind w.Resignal ∷ []
unfolding StatementGrammar.all_statements
first_resignal_statement = refl

pub first_diagnostics_area : first StatementGrammar.diagnostics_area ≡ word_kind w.Stacked ∷ word_kind w.Current ∷ []
unfolding StatementGrammar.all_statements
first_diagnostics_area = refl

pub first_diagnostics_statement : first StatementGrammar.diagnostics_statement ≡ word_kind w.Get ∷ []
unfolding StatementGrammar.all_statements
first_diagnostics_statement = refl

pub first_into_targets : first StatementGrammar.into_targets ≡ word_kind w.Into ∷ []
unfolding StatementGrammar.all_statements
first_into_targets = refl

pub first_select_statement : first StatementGrammar.select_statement ≡ word_kind w.Select ∷ []
unfolding StatementGrammar.all_statements
first_select_statement = refl

pub first_insert_statement : first StatementGrammar.insert_statement ≡ word_kind w.Insert ∷ []
unfolding StatementGrammar.all_statements
first_insert_statement = refl

pub first_assignments : first StatementGrammar.assignments ≡ word_kind w.Set ∷ []
unfolding StatementGrammar.all_statements
first_assignments = refl

pub first_update_statement : first StatementGrammar.update_statement ≡ word_kind w.Update ∷ []
unfolding StatementGrammar.all_statements
first_update_statement = refl

pub first_delete_statement : first StatementGrammar.delete_statement ≡ word_kind w.Delete ∷ []
unfolding StatementGrammar.all_statements
first_delete_statement = refl

pub first_open_statement : first StatementGrammar.open_statement ≡ word_kind w.Open ∷ []
unfolding StatementGrammar.all_statements
first_open_statement = refl

pub first_fetched : first StatementGrammar.fetched ≡ name_kinds
unfolding StatementGrammar.all_statements
first_fetched = refl

pub first_fetch_from : first StatementGrammar.fetch_from ≡ word_kind w.From ∷ []
unfolding StatementGrammar.all_statements
first_fetch_from = refl

pub first_fetch_statement : first StatementGrammar.fetch_statement ≡ word_kind w.Fetch ∷ []
unfolding StatementGrammar.all_statements
first_fetch_statement = refl

pub first_close_statement : first StatementGrammar.close_statement ≡ word_kind w.Close ∷ []
unfolding StatementGrammar.all_statements
first_close_statement = refl

pub first_data_statement : first StatementGrammar.data_statement ≡ word_kind w.Select ∷ word_kind w.Insert ∷ word_kind w.Update ∷ word_kind w.Delete ∷ word_kind w.Open ∷ word_kind w.Fetch ∷ word_kind w.Close ∷ []
unfolding StatementGrammar.all_statements
first_data_statement = refl

pub first_simple : first StatementGrammar.simple ≡ word_kind w.Set ∷ word_kind w.Call ∷ word_kind w.Return ∷ word_kind w.Leave ∷ word_kind w.Iterate ∷ word_kind w.Signal ∷ word_kind w.Resignal ∷ word_kind w.Get ∷ word_kind w.Select ∷ word_kind w.Insert ∷ word_kind w.Update ∷ word_kind w.Delete ∷ word_kind w.Open ∷ word_kind w.Fetch ∷ word_kind w.Close ∷ []
unfolding StatementGrammar.all_statements
first_simple = refl

pub first_block : first StatementGrammar.block ≡ word_kind w.Begin ∷ word_kind w.Loop ∷ word_kind w.While ∷ word_kind w.Repeat ∷ word_kind w.For ∷ []
unfolding StatementGrammar.all_statements
first_block = refl

pub first_labelled_block : first StatementGrammar.labelled_block ≡ sign_kind s.Colon ∷ []
unfolding StatementGrammar.all_statements
first_labelled_block = refl

pub first_labelled_statement : first StatementGrammar.labelled_statement ≡ name_kinds
unfolding StatementGrammar.all_statements
first_labelled_statement = refl

pub first_if_statement : first StatementGrammar.if_statement ≡ word_kind w.If ∷ []
unfolding StatementGrammar.all_statements
first_if_statement = refl

pub first_case_statement : first StatementGrammar.case_statement ≡ word_kind w.Case ∷ []
unfolding StatementGrammar.all_statements
first_case_statement = refl

pub first_otherwise_statements : first StatementGrammar.otherwise_statements ≡ word_kind w.Else ∷ []
unfolding StatementGrammar.all_statements
first_otherwise_statements = refl

pub first_elseif_branch : first StatementGrammar.elseif_branch ≡ word_kind w.ElseIf ∷ []
unfolding StatementGrammar.all_statements
first_elseif_branch = refl

pub first_elseif_branches : first StatementGrammar.elseif_branches ≡ word_kind w.ElseIf ∷ []
unfolding StatementGrammar.all_statements
first_elseif_branches = refl

pub first_if_end : first StatementGrammar.if_end ≡ word_kind w.Else ∷ word_kind w.End ∷ []
unfolding StatementGrammar.all_statements
first_if_end = refl

pub first_when_branch : first StatementGrammar.when_branch ≡ word_kind w.When ∷ []
unfolding StatementGrammar.all_statements
first_when_branch = refl

pub first_when_branches : first StatementGrammar.when_branches ≡ word_kind w.When ∷ []
unfolding StatementGrammar.all_statements
first_when_branches = refl

pub first_case_end : first StatementGrammar.case_end ≡ word_kind w.Else ∷ word_kind w.End ∷ []
unfolding StatementGrammar.all_statements
first_case_end = refl

pub first_all_when_branches : first StatementGrammar.all_when_branches ≡ word_kind w.When ∷ []
unfolding StatementGrammar.all_statements
first_all_when_branches = refl

pub first_case_branches : first StatementGrammar.case_branches ≡ word_kind w.When ∷ []
unfolding StatementGrammar.all_statements
first_case_branches = refl

pub first_while_body : first StatementGrammar.while_body ≡ word_kind w.Do ∷ []
unfolding StatementGrammar.all_statements
first_while_body = refl

pub first_until : first StatementGrammar.until ≡ word_kind w.Until ∷ []
unfolding StatementGrammar.all_statements
first_until = refl

pub first_insensitive : first StatementGrammar.insensitive ≡ word_kind w.Insensitive ∷ []
unfolding StatementGrammar.all_statements
first_insensitive = refl

pub first_for_cursor_part : first StatementGrammar.for_cursor_part ≡ name_kinds
unfolding StatementGrammar.all_statements
first_for_cursor_part = refl

pub first_for_body : first StatementGrammar.for_body ≡ word_kind w.Do ∷ []
unfolding StatementGrammar.all_statements
first_for_body = refl

pub first_for_rest : first StatementGrammar.for_rest ≡ name_kinds
unfolding StatementGrammar.all_statements
first_for_rest = refl

pub first_default_source : first StatementGrammar.default_source ≡ word_kind w.Default ∷ []
unfolding StatementGrammar.all_statements
first_default_source = refl

pub first_typed : first StatementGrammar.typed ≡ word_kind w.Char ∷ word_kind w.Character ∷ word_kind w.SmallInt ∷ word_kind w.Integer ∷ word_kind w.Int ∷ word_kind w.Numeric ∷ word_kind w.Decimal ∷ word_kind w.Dec ∷ word_kind w.VarChar ∷ []
unfolding StatementGrammar.all_statements
first_typed = refl

pub first_other_variables : first StatementGrammar.other_variables ≡ sign_kind s.Comma ∷ []
unfolding StatementGrammar.all_statements
first_other_variables = refl

pub first_for_state : first StatementGrammar.for_state ≡ word_kind w.For ∷ []
unfolding StatementGrammar.all_statements
first_for_state = refl

pub first_declaration_rest : first StatementGrammar.declaration_rest ≡ word_kind w.Condition ∷ sign_kind s.Comma ∷ word_kind w.Char ∷ word_kind w.Character ∷ word_kind w.SmallInt ∷ word_kind w.Integer ∷ word_kind w.Int ∷ word_kind w.Numeric ∷ word_kind w.Decimal ∷ word_kind w.Dec ∷ word_kind w.VarChar ∷ []
unfolding StatementGrammar.all_statements
first_declaration_rest = refl

pub first_read_only_part : first StatementGrammar.read_only_part ≡ word_kind w.Read ∷ []
unfolding StatementGrammar.all_statements
first_read_only_part = refl

pub first_updatability : first StatementGrammar.updatability ≡ word_kind w.For ∷ []
unfolding StatementGrammar.all_statements
first_updatability = refl

pub first_cursor_query : first StatementGrammar.cursor_query ≡ word_kind w.For ∷ []
unfolding StatementGrammar.all_statements
first_cursor_query = refl

pub first_cursor_rest : first StatementGrammar.cursor_rest ≡ word_kind w.Insensitive ∷ word_kind w.Cursor ∷ []
unfolding StatementGrammar.all_statements
first_cursor_rest = refl

pub first_next_handler_value : first StatementGrammar.next_handler_value ≡ sign_kind s.Comma ∷ []
unfolding StatementGrammar.all_statements
first_next_handler_value = refl

pub first_next_handler_values : first StatementGrammar.next_handler_values ≡ sign_kind s.Comma ∷ []
unfolding StatementGrammar.all_statements
first_next_handler_values = refl

pub first_handler_rest : first StatementGrammar.handler_rest ≡ word_kind w.Handler ∷ []
unfolding StatementGrammar.all_statements
first_handler_rest = refl

pub first_declared_handler : first StatementGrammar.declared_handler ≡ word_kind w.Continue ∷ word_kind w.Exit ∷ word_kind w.Undo ∷ []
unfolding StatementGrammar.all_statements
first_declared_handler = refl

pub first_declared_cursor : first StatementGrammar.declared_cursor ≡ word_kind w.Insensitive ∷ word_kind w.Cursor ∷ []
unfolding StatementGrammar.all_statements
first_declared_cursor = refl

pub first_declared_variables : first StatementGrammar.declared_variables ≡ word_kind w.Condition ∷ sign_kind s.Comma ∷ word_kind w.Char ∷ word_kind w.Character ∷ word_kind w.SmallInt ∷ word_kind w.Integer ∷ word_kind w.Int ∷ word_kind w.Numeric ∷ word_kind w.Decimal ∷ word_kind w.Dec ∷ word_kind w.VarChar ∷ []
unfolding StatementGrammar.all_statements
first_declared_variables = refl

pub first_not_atomic : first StatementGrammar.not_atomic ≡ word_kind w.Not ∷ []
unfolding StatementGrammar.all_statements
first_not_atomic = refl

pub first_atomic : first StatementGrammar.atomic ≡ word_kind w.Atomic ∷ word_kind w.Not ∷ []
unfolding StatementGrammar.all_statements
first_atomic = refl

pub first_ended_statement : first StatementGrammar.ended_statement ≡ name_kinds ++ kinds_of statement_words
unfolding StatementGrammar.all_statements
first_ended_statement = refl

pub ruleset statement_firsts = (first_ended_statement, first_state_text, first_state, first_direction, first_column_order, first_next_column_order, first_next_column_orders, first_column_orders, first_order, first_ordered_select, first_message, first_state_signalled, first_name_signalled, first_current, first_where_part, first_values, first_next_values, first_more_values, first_all_values, first_insert_values, first_insert_source, first_assignment, first_next_assignment, first_next_assignments, first_statement_info, first_next_statement_info, first_next_statement_infos, first_statement_infos, first_condition_info, first_next_condition_info, first_next_condition_infos, first_condition_infos, first_exception_diagnostics, first_set_statement, first_call_statement, first_return_statement, first_leave_statement, first_iterate_statement, first_signal_statement, first_resignal_statement, first_diagnostics_area, first_diagnostics_statement, first_into_targets, first_select_statement, first_insert_statement, first_assignments, first_update_statement, first_delete_statement, first_open_statement, first_fetched, first_fetch_from, first_fetch_statement, first_close_statement, first_data_statement, first_simple, first_block, first_labelled_block, first_labelled_statement, first_if_statement, first_case_statement, first_otherwise_statements, first_elseif_branch, first_elseif_branches, first_if_end, first_when_branch, first_when_branches, first_case_end, first_all_when_branches, first_case_branches, first_while_body, first_until, first_insensitive, first_for_cursor_part, first_for_body, first_for_rest, first_default_source, first_typed, first_other_variables, first_for_state, first_declaration_rest, first_read_only_part, first_updatability, first_cursor_query, first_cursor_rest, first_next_handler_value, first_next_handler_values, first_handler_rest, first_declared_handler, first_declared_cursor, first_declared_variables, first_not_atomic, first_atomic)

pub first_no_action : first FileGrammar.no_action ≡ word_kind w.No ∷ []
unfolding FileGrammar.all_files
first_no_action = refl

pub first_delete_action : first FileGrammar.delete_action ≡ word_kind w.Delete ∷ []
unfolding FileGrammar.all_files
first_delete_action = refl

pub first_update_action : first FileGrammar.update_action ≡ word_kind w.Update ∷ []
unfolding FileGrammar.all_files
first_update_action = refl

pub first_next_delete_action : first FileGrammar.next_delete_action ≡ word_kind w.On ∷ []
unfolding FileGrammar.all_files
first_next_delete_action = refl

pub first_next_update_action : first FileGrammar.next_update_action ≡ word_kind w.On ∷ []
unfolding FileGrammar.all_files
first_next_update_action = refl

pub first_either_action : first FileGrammar.either_action ≡ word_kind w.Delete ∷ word_kind w.Update ∷ []
unfolding FileGrammar.all_files
first_either_action = refl

pub first_actions : first FileGrammar.actions ≡ word_kind w.On ∷ []
unfolding FileGrammar.all_files
first_actions = refl

pub first_references_rest : first FileGrammar.references_rest ≡ name_kinds
unfolding FileGrammar.all_files
first_references_rest = refl

pub first_references : first FileGrammar.references ≡ word_kind w.References ∷ []
unfolding FileGrammar.all_files
first_references = refl

pub first_plain_column_rule : first FileGrammar.plain_column_rule ≡ word_kind w.Not ∷ word_kind w.Primary ∷ word_kind w.Unique ∷ word_kind w.Check ∷ word_kind w.References ∷ []
unfolding FileGrammar.all_files
first_plain_column_rule = refl

pub first_column_rule : first FileGrammar.column_rule ≡ word_kind w.Constraint ∷ word_kind w.Not ∷ word_kind w.Primary ∷ word_kind w.Unique ∷ word_kind w.Check ∷ word_kind w.References ∷ []
unfolding FileGrammar.all_files
first_column_rule = refl

pub first_column_rule_list : first FileGrammar.column_rule_list ≡ word_kind w.Constraint ∷ word_kind w.Not ∷ word_kind w.Primary ∷ word_kind w.Unique ∷ word_kind w.Check ∷ word_kind w.References ∷ []
unfolding FileGrammar.all_files
first_column_rule_list = refl

pub first_default_constant : first FileGrammar.default_constant ≡ word_kind w.Default ∷ []
unfolding FileGrammar.all_files
first_default_constant = refl

pub first_column : first FileGrammar.column ≡ name_kinds
unfolding FileGrammar.all_files
first_column = refl

pub first_plain_table_rule : first FileGrammar.plain_table_rule ≡ word_kind w.Primary ∷ word_kind w.Unique ∷ word_kind w.Check ∷ word_kind w.Foreign ∷ []
unfolding FileGrammar.all_files
first_plain_table_rule = refl

pub first_table_rule : first FileGrammar.table_rule ≡ word_kind w.Constraint ∷ word_kind w.Primary ∷ word_kind w.Unique ∷ word_kind w.Check ∷ word_kind w.Foreign ∷ []
unfolding FileGrammar.all_files
first_table_rule = refl

pub first_next_element : first FileGrammar.next_element ≡ sign_kind s.Comma ∷ []
unfolding FileGrammar.all_files
first_next_element = refl

pub first_next_elements : first FileGrammar.next_elements ≡ sign_kind s.Comma ∷ []
unfolding FileGrammar.all_files
first_next_elements = refl

pub first_table : first FileGrammar.table ≡ name_kinds
unfolding FileGrammar.all_files
first_table = refl

pub first_named_type : first FileGrammar.named_type ≡ name_kinds
unfolding FileGrammar.all_files
first_named_type = refl

pub first_next_param : first FileGrammar.next_param ≡ sign_kind s.Comma ∷ []
unfolding FileGrammar.all_files
first_next_param = refl

pub first_next_params : first FileGrammar.next_params ≡ sign_kind s.Comma ∷ []
unfolding FileGrammar.all_files
first_next_params = refl

pub first_params : first FileGrammar.params ≡ sign_kind s.LeftParen ∷ []
unfolding FileGrammar.all_files
first_params = refl

pub first_sql_data : first FileGrammar.sql_data ≡ word_kind w.Sql ∷ []
unfolding FileGrammar.all_files
first_sql_data = refl

pub first_characteristic : first FileGrammar.characteristic ≡ word_kind w.Language ∷ word_kind w.Deterministic ∷ word_kind w.Not ∷ word_kind w.Contains ∷ word_kind w.Reads ∷ word_kind w.Modifies ∷ []
unfolding FileGrammar.all_files
first_characteristic = refl

pub first_characteristic_list : first FileGrammar.characteristic_list ≡ word_kind w.Language ∷ word_kind w.Deterministic ∷ word_kind w.Not ∷ word_kind w.Contains ∷ word_kind w.Reads ∷ word_kind w.Modifies ∷ []
unfolding FileGrammar.all_files
first_characteristic_list = refl

pub first_procedure : first FileGrammar.procedure ≡ word_kind w.Procedure ∷ []
unfolding FileGrammar.all_files
first_procedure = refl

pub first_returned : first FileGrammar.returned ≡ word_kind w.Char ∷ word_kind w.Character ∷ word_kind w.SmallInt ∷ word_kind w.Integer ∷ word_kind w.Int ∷ word_kind w.Numeric ∷ word_kind w.Decimal ∷ word_kind w.Dec ∷ word_kind w.VarChar ∷ []
unfolding FileGrammar.all_files
first_returned = refl

pub first_function : first FileGrammar.function ≡ word_kind w.Function ∷ []
unfolding FileGrammar.all_files
first_function = refl

pub first_plain_routine : first FileGrammar.plain_routine ≡ word_kind w.Procedure ∷ word_kind w.Function ∷ []
unfolding FileGrammar.all_files
first_plain_routine = refl

pub first_routine : first FileGrammar.routine ≡ word_kind w.Declare ∷ word_kind w.Procedure ∷ word_kind w.Function ∷ []
unfolding FileGrammar.all_files
first_routine = refl

pub first_ended_routine : first FileGrammar.ended_routine ≡ word_kind w.Declare ∷ word_kind w.Procedure ∷ word_kind w.Function ∷ []
unfolding FileGrammar.all_files
first_ended_routine = refl

pub first_ended_routines : first FileGrammar.ended_routines ≡ word_kind w.Declare ∷ word_kind w.Procedure ∷ word_kind w.Function ∷ []
unfolding FileGrammar.all_files
first_ended_routines = refl

pub first_language : first FileGrammar.language ≡ word_kind w.Language ∷ []
unfolding FileGrammar.all_files
first_language = refl

pub first_module_body : first FileGrammar.module_body ≡ word_kind w.Declare ∷ word_kind w.Procedure ∷ word_kind w.Function ∷ word_kind w.End ∷ []
unfolding FileGrammar.all_files
first_module_body = refl

pub first_module_part : first FileGrammar.module_part ≡ word_kind w.Module ∷ []
unfolding FileGrammar.all_files
first_module_part = refl

pub first_created_table : first FileGrammar.created_table ≡ word_kind w.Table ∷ []
unfolding FileGrammar.all_files
first_created_table = refl

pub first_created_tables : first FileGrammar.created_tables ≡ word_kind w.Table ∷ []
unfolding FileGrammar.all_files
first_created_tables = refl

pub first_last_module : first FileGrammar.last_module ≡ word_kind w.Module ∷ []
unfolding FileGrammar.all_files
first_last_module = refl

pub first_file : first FileGrammar.file ≡ word_kind w.Create ∷ []
unfolding FileGrammar.all_files
first_file = refl

pub first_argument : first FileGrammar.argument ≡ sign_kind s.QuestionMark ∷ number_kind ∷ text_kind ∷ word_kind w.Null ∷ sign_kind s.Plus ∷ sign_kind s.Minus ∷ []
unfolding FileGrammar.all_files
first_argument = refl

pub first_next_argument : first FileGrammar.next_argument ≡ sign_kind s.Comma ∷ []
unfolding FileGrammar.all_files
first_next_argument = refl

pub first_next_arguments : first FileGrammar.next_arguments ≡ sign_kind s.Comma ∷ []
unfolding FileGrammar.all_files
first_next_arguments = refl

pub first_script_argument_list : first FileGrammar.script_argument_list ≡ sign_kind s.QuestionMark ∷ number_kind ∷ text_kind ∷ word_kind w.Null ∷ sign_kind s.Plus ∷ sign_kind s.Minus ∷ []
unfolding FileGrammar.all_files
first_script_argument_list = refl

pub first_script_arguments : first FileGrammar.script_arguments ≡ sign_kind s.RightParen ∷ sign_kind s.QuestionMark ∷ number_kind ∷ text_kind ∷ word_kind w.Null ∷ sign_kind s.Plus ∷ sign_kind s.Minus ∷ []
unfolding FileGrammar.all_files
first_script_arguments = refl

pub first_script_call : first FileGrammar.script_call ≡ word_kind w.Call ∷ []
unfolding FileGrammar.all_files
first_script_call = refl

pub first_next_constant : first FileGrammar.next_constant ≡ sign_kind s.Comma ∷ []
unfolding FileGrammar.all_files
first_next_constant = refl

pub first_next_constants : first FileGrammar.next_constants ≡ sign_kind s.Comma ∷ []
unfolding FileGrammar.all_files
first_next_constants = refl

pub first_constants : first FileGrammar.constants ≡ number_kind ∷ text_kind ∷ word_kind w.Null ∷ sign_kind s.Plus ∷ sign_kind s.Minus ∷ []
unfolding FileGrammar.all_files
first_constants = refl

pub first_row : first FileGrammar.row ≡ sign_kind s.LeftParen ∷ []
unfolding FileGrammar.all_files
first_row = refl

pub first_next_row : first FileGrammar.next_row ≡ sign_kind s.Comma ∷ []
unfolding FileGrammar.all_files
first_next_row = refl

pub first_next_rows : first FileGrammar.next_rows ≡ sign_kind s.Comma ∷ []
unfolding FileGrammar.all_files
first_next_rows = refl

pub first_rows : first FileGrammar.rows ≡ sign_kind s.LeftParen ∷ []
unfolding FileGrammar.all_files
first_rows = refl

pub first_script_values : first FileGrammar.script_values ≡ word_kind w.Values ∷ []
unfolding FileGrammar.all_files
first_script_values = refl

pub first_script_insert : first FileGrammar.script_insert ≡ word_kind w.Insert ∷ []
unfolding FileGrammar.all_files
first_script_insert = refl

pub first_command : first FileGrammar.command ≡ word_kind w.Call ∷ word_kind w.Insert ∷ word_kind w.Select ∷ word_kind w.Commit ∷ word_kind w.Rollback ∷ []
unfolding FileGrammar.all_files
first_command = refl

pub first_ended_command : first FileGrammar.ended_command ≡ word_kind w.Call ∷ word_kind w.Insert ∷ word_kind w.Select ∷ word_kind w.Commit ∷ word_kind w.Rollback ∷ []
unfolding FileGrammar.all_files
first_ended_command = refl

pub first_ended_commands : first FileGrammar.ended_commands ≡ word_kind w.Call ∷ word_kind w.Insert ∷ word_kind w.Select ∷ word_kind w.Commit ∷ word_kind w.Rollback ∷ []
unfolding FileGrammar.all_files
first_ended_commands = refl

pub first_script : first FileGrammar.script ≡ word_kind w.Call ∷ word_kind w.Insert ∷ word_kind w.Select ∷ word_kind w.Commit ∷ word_kind w.Rollback ∷ []
unfolding FileGrammar.all_files
first_script = refl

pub ruleset file_firsts = (first_no_action, first_delete_action, first_update_action, first_next_delete_action, first_next_update_action, first_either_action, first_actions, first_references_rest, first_references, first_plain_column_rule, first_column_rule, first_column_rule_list, first_default_constant, first_column, first_plain_table_rule, first_table_rule, first_next_element, first_next_elements, first_table, first_named_type, first_next_param, first_next_params, first_params, first_sql_data, first_characteristic, first_characteristic_list, first_procedure, first_returned, first_function, first_plain_routine, first_routine, first_ended_routine, first_ended_routines, first_language, first_module_body, first_module_part, first_created_table, first_created_tables, first_last_module, first_file, first_argument, first_next_argument, first_next_arguments, first_script_argument_list, first_script_arguments, first_script_call, first_next_constant, first_next_constants, first_constants, first_row, first_next_row, first_next_rows, first_rows, first_script_values, first_script_insert, first_command, first_ended_command, first_ended_commands, first_script)
