-- Statements, and what stands after their opening words, go over into printed ones.
use Rattle.std.proofs.Common.{◌≡◌, [], ◌++◌, Option, Some, None, map, option_map, refl, sym, ap, ◌∙◌}
use Rattle.std.proofs.lemmas.List.{append-nil}
use Rattle.psm_list.specs.Several.{several_map}
use Rattle.psm_token.specs.declared.word.Word.TheVariants as w
use Rattle.psm_token.specs.declared.sign.Sign.TheVariants as s
use Rattle.psm_tree.specs.Parts.{Statements, Body, WhileRest, RepeatRest, CaseStatementRest, LoopRest}
use Rattle.psm_tree.specs.StatementValues.{listed}
use Rattle.psm_tree.specs.StatementGrammar
use Rattle.psm_tree.specs.StatementGrammar.{block, labelled_block, statement, ended_statement, ended_statements, statements, branch, if_end, if_rest, case_end, case_branches, case_statement_rest, loop_rest, while_rest, repeat_rest, for_cursor_part, for_rest, handler_rest}
use Rattle.psm_print.specs.Spelling.{Spelling, word, sign, perhaps, each, separated, ended, all_of}
use Rattle.psm_print.specs.ExprTokens.{name_tokens, expr_tokens}
use Rattle.psm_print.specs.StatementTokens.{ordered_query_tokens, declaration_tokens, cursor_tokens, for_cursor_tokens, handled_tokens, atomic_tokens, else_tokens, block_tokens, statement_tokens, branch_tokens, handler_tokens}
use Rattle.psm_print.proofs.PartTokens.{statements_tokens, for_tokens, if_tokens, case_tokens, handler_parts_tokens, part_tokens}
use Rattle.psm_print.proofs.Regrouped.{before2, before3, before4, before5}
use Rattle.psm_print.proofs.Equations.{branch_rolled, block-Compound, block-Loop, block-While, block-Repeat, block-For, statement-Block, statement-If, statement-Case, statement-Simple}
use Rattle.psm_print.proofs.Into.{PrintContext, Into, into_equal, into_seq, into_or, into_image, into_perhaps, into_each, into_ended, into_separated}
use Rattle.psm_print.proofs.Tokens.{says_word, into_level, after_word, after_sign, before_word, before_sign}
use Rattle.psm_print.proofs.Chosen.{into_name}
use Rattle.psm_print.proofs.ExprInto.{expr_into}
use Rattle.psm_print.proofs.PartsInto.{ordered_into, insensitive_into, handler_values_into}
use Rattle.psm_print.proofs.SimpleInto.{simple_into}

-- ---- blocks

begin_equal : (atomic : Spelling) (b : Body) → atomic ++ (ended (map declaration_tokens b.declarations) ++ ended (map cursor_tokens b.cursors) ++ ended (map handler_tokens b.handlers) ++ ended (map statement_tokens b.statements) ++ word w.End)
    ≡ atomic ++ ended (map declaration_tokens b.declarations) ++ ended (map cursor_tokens b.cursors) ++ ended (map handler_tokens b.handlers) ++ ended (map statement_tokens b.statements) ++ word w.End
begin_equal atomic b = before5 atomic (ended (map declaration_tokens b.declarations)) (ended (map cursor_tokens b.cursors)) (ended (map handler_tokens b.handlers)) (ended (map statement_tokens b.statements)) (word w.End)

block_into : {z : PrintContext} → Into z block block block_tokens
unfolding StatementGrammar.all_statements
block_into = into_or (into_level block_tokens (says_word w.Begin) (λ a y. ap (λ ts. word w.Begin ++ ts) (begin_equal (atomic_tokens y.0) y.1) ∙ sym (block-Compound a y.0 y.1.declarations y.1.cursors y.1.handlers y.1.statements)))
    (into_or (into_level block_tokens (says_word w.Loop) (λ a y. sym (block-Loop a y)))
    (into_or (into_level block_tokens (says_word w.While) (λ a y. sym (block-While a y.0 y.1)))
    (into_or (into_level block_tokens (says_word w.Repeat) (λ a y. sym (block-Repeat a y.0 y.1)))
    (into_level block_tokens (says_word w.For) (λ a y. sym (block-For a y.head y.statements))))))

labelled_into : {z : PrintContext} → Into z labelled_block labelled_block (λ p. sign s.Colon ++ (block_tokens p.0 ++ perhaps [] (option_map name_tokens p.1)))
unfolding StatementGrammar.all_statements
labelled_into = after_sign s.Colon (into_seq (λ p. block_tokens p.0 ++ perhaps [] (option_map name_tokens p.1)) block_into (into_perhaps [] name_tokens into_name (λ x. refl)) (λ x y. refl))

-- ---- statements

pub statement_into : {z : PrintContext} → Into z statement statement statement_tokens
unfolding StatementGrammar.all_statements
statement_into = into_or (into_seq statement_tokens into_name labelled_into (λ x p. sym (statement-Block (Some (record { start = x; end = p.1 })) p.0)))
    (into_or (into_level statement_tokens (says_word w.If) (λ a y. sym (statement-If a y.branches y.otherwise)))
    (into_or (into_level statement_tokens (says_word w.Case) (λ a y. ap (λ ts. word w.Case ++ ts) (before4 (perhaps [] (option_map expr_tokens y.0)) (each (word w.When) (all_of (several_map branch_tokens y.1.branches))) (else_tokens (map statement_tokens y.1.otherwise)) (word w.End) (word w.Case))
    ∙ sym (statement-Case a y.0 y.1.branches y.1.otherwise)))
    (into_or (into_image statement_tokens block_into (λ x. sym (append-nil (block_tokens x)) ∙ sym (statement-Block None x)))
    (into_image statement_tokens simple_into (λ x. sym (statement-Simple x))))))

ended_into : {z : PrintContext} → Into z ended_statement ended_statement (λ x. statement_tokens x ++ sign s.Semicolon)
unfolding StatementGrammar.all_statements
ended_into = before_sign s.Semicolon statement_into

pub ended_statements_into : {z : PrintContext} → Into z ended_statements ended_statements (λ xs. ended (map statement_tokens xs))
unfolding StatementGrammar.all_statements
ended_statements_into = into_ended statement_tokens ended_into (λ x. refl)

statements_into : {z : PrintContext} → Into z statements statements statements_tokens
unfolding StatementGrammar.all_statements
statements_into = into_seq statements_tokens ended_into ended_statements_into (λ x y. refl)

-- ---- IF and CASE

branch_into : {z : PrintContext} → Into z branch branch branch_tokens
unfolding StatementGrammar.all_statements
branch_into = into_seq branch_tokens expr_into (after_word w.Then statements_into) (λ x y. before2 (expr_tokens x) (word w.Then) (statements_tokens y) ∙ sym (branch_rolled (record { test = x; statements = y })))

else_equal : (x : Option Statements) → perhaps (word w.Else) (option_map statements_tokens x) ≡ else_tokens (map statement_tokens (listed x))
else_equal None = refl
else_equal (Some x) = refl

abbrev end_tokens : Option Statements → Spelling
end_tokens x = else_tokens (map statement_tokens (listed x)) ++ word w.End

if_end_into : {z : PrintContext} → Into z if_end if_end (λ x. end_tokens x ++ word w.If)
unfolding StatementGrammar.all_statements
if_end_into = before_word w.If (before_word w.End (into_equal (λ x. else_tokens (map statement_tokens (listed x))) else_equal (into_perhaps (word w.Else) statements_tokens (after_word w.Else statements_into) (λ x. refl))))

case_end_into : {z : PrintContext} → Into z case_end case_end (λ x. end_tokens x ++ word w.Case)
unfolding StatementGrammar.all_statements
case_end_into = before_word w.Case (before_word w.End (into_equal (λ x. else_tokens (map statement_tokens (listed x))) else_equal (into_perhaps (word w.Else) statements_tokens (after_word w.Else statements_into) (λ x. refl))))

pub if_into : {z : PrintContext} → Into z if_rest if_rest if_tokens
unfolding StatementGrammar.all_statements
if_into = into_seq if_tokens (into_separated (word w.ElseIf) branch_tokens branch_into (after_word w.ElseIf branch_into) (λ x. refl)) if_end_into
    (λ x y. before3 (separated (word w.ElseIf) (several_map branch_tokens x)) (else_tokens (map statement_tokens (listed y))) (word w.End) (word w.If))

when_branches_into : {z : PrintContext} → Into z StatementGrammar.all_when_branches StatementGrammar.all_when_branches (λ xs. each (word w.When) (all_of (several_map branch_tokens xs)))
unfolding StatementGrammar.all_statements
when_branches_into = into_seq (λ xs. each (word w.When) (all_of (several_map branch_tokens xs))) (after_word w.When branch_into) (into_each (word w.When) branch_tokens (after_word w.When branch_into) (λ x. refl)) (λ x y. refl)

case_branches_into : {z : PrintContext} → Into z case_branches case_branches case_tokens
unfolding StatementGrammar.all_statements
case_branches_into = into_seq case_tokens when_branches_into case_end_into
    (λ x y. before3 (each (word w.When) (all_of (several_map branch_tokens x))) (else_tokens (map statement_tokens (listed y))) (word w.End) (word w.Case))

pub case_statement_into : {z : PrintContext} → Into z case_statement_rest case_statement_rest (part_tokens CaseStatementRest)
unfolding StatementGrammar.all_statements
case_statement_into = into_or (into_image (part_tokens CaseStatementRest) case_branches_into (λ x. refl)) (into_seq (part_tokens CaseStatementRest) expr_into case_branches_into (λ x y. refl))

-- ---- loops

pub loop_into : {z : PrintContext} → Into z loop_rest loop_rest (part_tokens LoopRest)
unfolding StatementGrammar.all_statements
loop_into = before_word w.Loop (before_word w.End statements_into)

pub while_into : {z : PrintContext} → Into z while_rest while_rest (part_tokens WhileRest)
unfolding StatementGrammar.all_statements
while_into = into_seq (part_tokens WhileRest) expr_into (after_word w.Do (before_word w.While (before_word w.End statements_into))) (λ x y. before4 (expr_tokens x) (word w.Do) (statements_tokens y) (word w.End) (word w.While))

pub repeat_into : {z : PrintContext} → Into z repeat_rest repeat_rest (part_tokens RepeatRest)
unfolding StatementGrammar.all_statements
repeat_into = into_seq (part_tokens RepeatRest) statements_into (after_word w.Until (before_word w.Repeat (before_word w.End expr_into))) (λ x y. before4 (statements_tokens x) (word w.Until) (expr_tokens y) (word w.End) (word w.Repeat))

for_cursor_into : {z : PrintContext} → Into z for_cursor_part for_cursor_part for_cursor_tokens
unfolding StatementGrammar.all_statements
for_cursor_into = into_seq for_cursor_tokens into_name (before_word w.For (before_word w.Cursor insensitive_into)) (λ x y. refl)

pub for_into : {z : PrintContext} → Into z for_rest for_rest for_tokens
unfolding StatementGrammar.all_statements
for_into = into_seq for_tokens into_name (after_word w.As (into_seq (λ p. perhaps [] (option_map for_cursor_tokens p.0) ++ ordered_query_tokens p.1 ++ word w.Do ++ statements_tokens p.2 ++ word w.End ++ word w.For) (into_perhaps [] for_cursor_tokens for_cursor_into (λ x. refl))
    (into_seq (λ p. ordered_query_tokens p.0 ++ word w.Do ++ statements_tokens p.1 ++ word w.End ++ word w.For) ordered_into (after_word w.Do (before_word w.For (before_word w.End statements_into)))
    (λ x y. before4 (ordered_query_tokens x) (word w.Do) (statements_tokens y) (word w.End) (word w.For)))
    (λ x y. before5 (perhaps [] (option_map for_cursor_tokens x)) (ordered_query_tokens y.0) (word w.Do) (statements_tokens y.1) (word w.End) (word w.For)))) (λ x y. refl)

-- ---- handlers

pub handler_into : {z : PrintContext} → Into z handler_rest handler_rest handler_parts_tokens
unfolding StatementGrammar.all_statements
handler_into = after_word w.Handler (after_word w.For (into_seq (λ p. handled_tokens p.values ++ statement_tokens p.action) handler_values_into statement_into (λ x y. refl)))
