-- Simple statements go over into printed ones.
use Rattle.std.proofs.Common.{[], ◌++◌, map, option_map, refl, sym, ap}
use Rattle.psm_token.specs.declared.word.Word.TheVariants as w
use Rattle.psm_token.specs.declared.sign.Sign.TheVariants as s
use Rattle.psm_tree.specs.StatementGrammar
use Rattle.psm_tree.specs.StatementGrammar.{set_statement, call_statement, return_statement, leave_statement, iterate_statement, signal_statement, resignalled, resignal_statement, diagnostics_statement, into_targets, select_statement, insert_statement, assignments, update_statement, delete_statement, open_statement, fetched, fetch_rest, fetch_statement, close_statement, data_statement, simple}
use Rattle.psm_tree.specs.declared.expr.Select.{out-roll-Select}
use Rattle.psm_print.specs.Spelling.{word, sign, perhaps, listed, in_parens}
use Rattle.psm_print.specs.ExprTokens.{name_tokens, target_tokens, enclosed_names_tokens, targets_tokens, expr_tokens}
use Rattle.psm_print.specs.StatementTokens.{signalled_tokens, area_tokens, diagnostics_tokens, where_tokens, insert_source_tokens, assignment_tokens, assignments_tokens, select_into_tokens, simple_tokens}
use Rattle.psm_print.proofs.Regrouped.{before2, before3}
use Rattle.psm_print.proofs.Into.{PrintContext, Into, into_seq, left_out, or_from, or_right, into_or, ahead_from, ahead_right, into_image, into_nothing, into_perhaps}
use Rattle.psm_print.proofs.Tokens.{into_word, after_word, after_sign, into_commas}
use Rattle.psm_print.proofs.Chosen.{into_name}
use Rattle.psm_print.proofs.TypesInto.{target_into, names_in_parens_into, targets_into}
use Rattle.psm_print.proofs.ExprInto.{source_into}
use Rattle.psm_print.proofs.QueryInto.{picks_tokens, picks_into, from_tokens, from_into, arguments_into}
use Rattle.psm_print.proofs.PartsInto.{state_signalled_into, name_signalled_into, signalled_into, where_into, insert_source_into, assignment_into, diagnostics_into, area_into}

set_into : {z : PrintContext} → Into z set_statement set_statement simple_tokens
unfolding StatementGrammar.all_statements
set_into = into_seq simple_tokens (into_word w.Set) (into_seq (λ p. target_tokens p.0 ++ sign s.Equal ++ expr_tokens p.1) target_into (after_sign s.Equal source_into) (λ x y. before2 (target_tokens x) (sign s.Equal) (expr_tokens y))) (λ x y. refl)

call_into : {z : PrintContext} → Into z call_statement call_statement simple_tokens
unfolding StatementGrammar.all_statements
call_into = into_seq simple_tokens (into_word w.Call) (into_seq (λ p. name_tokens p.0 ++ in_parens (listed (map expr_tokens p.1))) into_name (after_sign s.LeftParen arguments_into) (λ x y. refl)) (λ x y. refl)

return_into : {z : PrintContext} → Into z return_statement return_statement simple_tokens
unfolding StatementGrammar.all_statements
return_into = into_seq simple_tokens (into_word w.Return) source_into (λ x y. refl)

leave_into : {z : PrintContext} → Into z leave_statement leave_statement simple_tokens
unfolding StatementGrammar.all_statements
leave_into = into_seq simple_tokens (into_word w.Leave) into_name (λ x y. refl)

iterate_into : {z : PrintContext} → Into z iterate_statement iterate_statement simple_tokens
unfolding StatementGrammar.all_statements
iterate_into = into_seq simple_tokens (into_word w.Iterate) into_name (λ x y. refl)

signal_into : {z : PrintContext} → Into z signal_statement signal_statement simple_tokens
unfolding StatementGrammar.all_statements
signal_into = into_seq simple_tokens (into_word w.Signal) signalled_into (λ x y. refl)

resignalled_into : {z : PrintContext} → Into z resignalled resignalled (λ x. perhaps [] (option_map signalled_tokens x))
unfolding StatementGrammar.all_statements
resignalled_into = into_or (into_image (λ x. perhaps [] (option_map signalled_tokens x)) state_signalled_into (λ x. refl)) (into_or (into_image (λ x. perhaps [] (option_map signalled_tokens x)) name_signalled_into (λ x. refl)) (into_nothing (λ x. perhaps [] (option_map signalled_tokens x)) refl))

resignal_into : {z : PrintContext} → Into z resignal_statement resignal_statement simple_tokens
unfolding StatementGrammar.all_statements
resignal_into = into_seq simple_tokens (into_word w.Resignal) resignalled_into (λ x y. refl)

get_into : {z : PrintContext} → Into z diagnostics_statement diagnostics_statement simple_tokens
unfolding StatementGrammar.all_statements
get_into = into_seq simple_tokens (into_word w.Get) (into_seq (λ p. area_tokens p.0 ++ word w.Diagnostics ++ diagnostics_tokens p.1) area_into (after_word w.Diagnostics diagnostics_into) (λ x y. before2 (area_tokens x) (word w.Diagnostics) (diagnostics_tokens y))) (λ x y. refl)

into_targets_into : {z : PrintContext} → Into z into_targets into_targets (λ x. word w.Into ++ targets_tokens x)
unfolding StatementGrammar.all_statements
into_targets_into = after_word w.Into targets_into

select_into_into : {z : PrintContext} → Into z select_statement select_statement simple_tokens
unfolding StatementGrammar.all_statements
select_into_into = into_seq simple_tokens (into_word w.Select) (into_seq (λ p. picks_tokens p.0 ++ word w.Into ++ targets_tokens p.1 ++ (word w.From ++ from_tokens p.2)) picks_into
    (into_seq (λ p. word w.Into ++ (targets_tokens p.0 ++ (word w.From ++ from_tokens p.1))) into_targets_into (after_word w.From from_into) (λ x y. refl))
    (λ x y. before3 (picks_tokens x) (word w.Into) (targets_tokens y.0) (word w.From ++ from_tokens y.1)))
    (λ x y. ap (λ o. select_into_tokens o y.1) (sym (out-roll-Select (record { place = x; picks = y.0; table = y.2.table; alias = y.2.alias; condition = y.2.condition }))))

insert_into : {z : PrintContext} → Into z insert_statement insert_statement simple_tokens
unfolding StatementGrammar.all_statements
insert_into = into_seq simple_tokens (into_word w.Insert) (after_word w.Into (into_seq (λ p. name_tokens p.0 ++ (perhaps [] (option_map enclosed_names_tokens p.1) ++ insert_source_tokens p.2)) into_name
    (into_seq (λ p. perhaps [] (option_map enclosed_names_tokens p.0) ++ insert_source_tokens p.1) (into_perhaps [] enclosed_names_tokens names_in_parens_into (λ x. refl)) insert_source_into (λ x y. refl)) (λ x y. refl))) (λ x y. refl)

assignments_into : {z : PrintContext} → Into z assignments assignments (λ x. word w.Set ++ assignments_tokens x)
unfolding StatementGrammar.all_statements
assignments_into = after_word w.Set (into_commas assignment_tokens assignment_into)

update_into : {z : PrintContext} → Into z update_statement update_statement simple_tokens
unfolding StatementGrammar.all_statements
update_into = into_seq simple_tokens (into_word w.Update) (into_seq (λ u. name_tokens u.0 ++ (word w.Set ++ assignments_tokens u.1 ++ perhaps [] (option_map where_tokens u.2))) into_name
    (into_seq (λ p. word w.Set ++ assignments_tokens p.0 ++ perhaps [] (option_map where_tokens p.1)) assignments_into (into_perhaps [] where_tokens where_into (λ x. refl)) (λ x y. refl)) (λ x y. refl)) (λ x y. refl)

delete_into : {z : PrintContext} → Into z delete_statement delete_statement simple_tokens
unfolding StatementGrammar.all_statements
delete_into = into_seq simple_tokens (into_word w.Delete) (after_word w.From (into_seq (λ p. name_tokens p.0 ++ perhaps [] (option_map where_tokens p.1)) into_name (into_perhaps [] where_tokens where_into (λ x. refl)) (λ x y. refl))) (λ x y. refl)

open_into : {z : PrintContext} → Into z open_statement open_statement simple_tokens
unfolding StatementGrammar.all_statements
open_into = into_seq simple_tokens (into_word w.Open) into_name (λ x y. refl)

fetched_into : {z : PrintContext} → Into z fetched fetched (λ p. name_tokens p.0 ++ (word w.Into ++ targets_tokens p.1))
unfolding StatementGrammar.all_statements
fetched_into = into_seq (λ p. name_tokens p.0 ++ (word w.Into ++ targets_tokens p.1)) into_name into_targets_into (λ x y. refl)

-- FROM and NEXT FROM are left out
fetch_rest_into : {z : PrintContext} → Into z fetch_rest fetch_rest (λ p. name_tokens p.0 ++ (word w.Into ++ targets_tokens p.1))
unfolding StatementGrammar.all_statements
fetch_rest_into = or_from (or_right (ahead_right (left_out fetched_into))) (or_right (ahead_from (ahead_right (left_out (left_out fetched_into))) (ahead_right fetched_into)))

fetch_into : {z : PrintContext} → Into z fetch_statement fetch_statement simple_tokens
unfolding StatementGrammar.all_statements
fetch_into = into_seq simple_tokens (into_word w.Fetch) fetch_rest_into (λ x y. refl)

close_into : {z : PrintContext} → Into z close_statement close_statement simple_tokens
unfolding StatementGrammar.all_statements
close_into = into_seq simple_tokens (into_word w.Close) into_name (λ x y. refl)

data_into : {z : PrintContext} → Into z data_statement data_statement simple_tokens
unfolding StatementGrammar.all_statements
data_into = into_or select_into_into (into_or insert_into (into_or update_into (into_or delete_into (into_or open_into (into_or fetch_into close_into)))))

pub simple_into : {z : PrintContext} → Into z simple simple simple_tokens
unfolding StatementGrammar.all_statements
simple_into = into_or set_into (into_or call_into (into_or return_into (into_or leave_into (into_or iterate_into (into_or signal_into (into_or resignal_into (into_or get_into data_into)))))))
