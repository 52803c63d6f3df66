-- Statements, blocks and declarations are read by their first tokens, part by part.
use Rattle.std.proofs.Common.{◌≡◌, ℕ, true, List, [], ◌∷◌, ◌++◌, refl}
use Rattle.psm_token.specs.declared.word.Word.TheVariants as w
use Rattle.psm_token.specs.declared.sign.Sign.TheVariants as s
use Rattle.psm_grammar.specs.Grammar.{Grammar}
use Rattle.psm_grammar.specs.Follow.{apart}
use Rattle.psm_grammar.proofs.Fitting.{Fit, fit_fewer, fit_token, fit_level, fit_next, fit_nothing, fit_seq, fit_or, fit_many, fit_image}
use Rattle.psm_token.specs.Words.{word_kind}
use Rattle.psm_token.specs.Signs.{sign_kind}
use Rattle.psm_token.specs.Kinds.{kinds_of, kind}
use Rattle.psm_tree.specs.FirstWords.{statement_words}
use Rattle.psm_tree.specs.Tests.{name_kinds}
use Rattle.psm_tree.specs.Parts.{V, Phase, Declarations, Cursors, Handlers}
use Rattle.psm_tree.specs.StatementGrammar
use Rattle.psm_tree.proofs.ExprFits.{after, expr_fit, source_fit, sources_fit, picks_fit, from_fit, select_fit, arguments_fit}

abbrev Fits : {X : Type 0} → List ℕ → Grammar kind V X → Type 0
Fits follow g = Fit after follow g

-- what stands after a statement
abbrev pub semicolon : List ℕ
semicolon = sign_kind s.Semicolon ∷ []

-- ---- simple statements

-- what may stand after a query with its order
abbrev pub after_ordered : List ℕ
after_ordered = sign_kind s.Semicolon ∷ kinds_of (w.For ∷ w.Do ∷ [])

pub ordered_fit : Fits after_ordered StatementGrammar.ordered_select
unfolding StatementGrammar.all_statements
ordered_fit = fit_seq (fit_fewer refl select_fit) (record { holds = refl })

set_fit : Fits semicolon StatementGrammar.set_statement
unfolding StatementGrammar.all_statements
set_fit = fit_seq (fit_token refl) (fit_seq (record { holds = refl }) (fit_seq (fit_token refl) (fit_fewer refl source_fit)))

call_fit : Fits semicolon StatementGrammar.call_statement
unfolding StatementGrammar.all_statements
call_fit = fit_seq (fit_token refl) (fit_seq (fit_token refl) (fit_seq (fit_token refl) (arguments_fit semicolon)))

return_fit : Fits semicolon StatementGrammar.return_statement
unfolding StatementGrammar.all_statements
return_fit = fit_seq (fit_token refl) (fit_fewer refl source_fit)

leave_fit : Fits semicolon StatementGrammar.leave_statement
unfolding StatementGrammar.all_statements
leave_fit = record { holds = refl }

iterate_fit : Fits semicolon StatementGrammar.iterate_statement
unfolding StatementGrammar.all_statements
iterate_fit = record { holds = refl }

message_fit : Fits semicolon StatementGrammar.message
unfolding StatementGrammar.all_statements
message_fit = fit_seq (fit_token refl) (fit_seq (fit_token refl) (fit_seq (fit_token refl) (fit_fewer refl expr_fit)))

state_signalled_fit : Fits semicolon StatementGrammar.state_signalled
unfolding StatementGrammar.all_statements
state_signalled_fit = fit_seq (record { holds = refl }) (fit_or refl refl (fit_image message_fit) fit_nothing)

name_signalled_fit : Fits semicolon StatementGrammar.name_signalled
unfolding StatementGrammar.all_statements
name_signalled_fit = fit_seq (record { holds = refl }) (fit_or refl refl (fit_image message_fit) fit_nothing)

signal_fit : Fits semicolon StatementGrammar.signal_statement
unfolding StatementGrammar.all_statements
signal_fit = fit_seq (fit_token refl) (fit_or refl refl state_signalled_fit name_signalled_fit)

resignal_fit : Fits semicolon StatementGrammar.resignal_statement
unfolding StatementGrammar.all_statements
resignal_fit = fit_seq (fit_token refl) (fit_or refl refl (fit_image state_signalled_fit) (fit_or refl refl (fit_image name_signalled_fit) fit_nothing))

diagnostics_fit : Fits semicolon StatementGrammar.diagnostics_statement
unfolding StatementGrammar.all_statements
diagnostics_fit = record { holds = refl }

select_into_fit : Fits semicolon StatementGrammar.select_statement
unfolding StatementGrammar.all_statements
select_into_fit = fit_seq (fit_token refl) (fit_seq (fit_fewer refl picks_fit) (fit_seq (record { holds = refl }) (fit_seq (fit_token refl) (fit_fewer refl from_fit))))

values_fit : Fits (sign_kind s.Comma ∷ semicolon) StatementGrammar.values
unfolding StatementGrammar.all_statements
values_fit = fit_seq (fit_token refl) (fit_seq sources_fit (fit_token refl))

more_values_fit : Fits semicolon StatementGrammar.more_values
unfolding StatementGrammar.all_statements
more_values_fit = fit_many refl refl (fit_seq (fit_token refl) values_fit)

insert_source_fit : Fits semicolon StatementGrammar.insert_source
unfolding StatementGrammar.all_statements
insert_source_fit = fit_or refl refl (fit_seq (fit_token refl) (fit_image (fit_seq values_fit more_values_fit))) (fit_image (fit_fewer refl select_fit))

insert_fit : Fits semicolon StatementGrammar.insert_statement
unfolding StatementGrammar.all_statements
insert_fit = fit_seq (fit_token refl) (fit_seq (fit_token refl) (fit_seq (fit_token refl) (fit_seq (record { holds = refl }) insert_source_fit)))

where_fit : Fits semicolon StatementGrammar.where_part
unfolding StatementGrammar.all_statements
where_fit = fit_seq (fit_token refl) (fit_or refl refl (record { holds = refl }) (fit_image (fit_fewer refl expr_fit)))

assignment_fit : Fits (sign_kind s.Comma ∷ sign_kind s.Semicolon ∷ word_kind w.Where ∷ []) StatementGrammar.assignment
unfolding StatementGrammar.all_statements
assignment_fit = fit_seq (fit_token refl) (fit_seq (fit_token refl) (fit_fewer refl source_fit))

assignments_fit : Fits (sign_kind s.Semicolon ∷ word_kind w.Where ∷ []) StatementGrammar.assignments
unfolding StatementGrammar.all_statements
assignments_fit = fit_seq (fit_token refl) (fit_seq assignment_fit (fit_many refl refl (fit_seq (fit_token refl) assignment_fit)))

update_fit : Fits semicolon StatementGrammar.update_statement
unfolding StatementGrammar.all_statements
update_fit = fit_seq (fit_token refl) (fit_seq (fit_token refl) (fit_seq (fit_fewer refl assignments_fit) (fit_or refl refl (fit_image where_fit) fit_nothing)))

delete_fit : Fits semicolon StatementGrammar.delete_statement
unfolding StatementGrammar.all_statements
delete_fit = fit_seq (fit_token refl) (fit_seq (fit_token refl) (fit_seq (fit_token refl) (fit_or refl refl (fit_image where_fit) fit_nothing)))

open_fit : Fits semicolon StatementGrammar.open_statement
unfolding StatementGrammar.all_statements
open_fit = record { holds = refl }

fetch_fit : Fits semicolon StatementGrammar.fetch_statement
unfolding StatementGrammar.all_statements
fetch_fit = record { holds = refl }

close_fit : Fits semicolon StatementGrammar.close_statement
unfolding StatementGrammar.all_statements
close_fit = record { holds = refl }

data_fit : Fits semicolon StatementGrammar.data_statement
unfolding StatementGrammar.all_statements
data_fit = fit_or refl refl select_into_fit
    (fit_or refl refl insert_fit
    (fit_or refl refl update_fit
    (fit_or refl refl delete_fit
    (fit_or refl refl open_fit
    (fit_or refl refl fetch_fit close_fit)))))

simple_fit : Fits semicolon StatementGrammar.simple
unfolding StatementGrammar.all_statements
simple_fit = fit_or refl refl set_fit
    (fit_or refl refl call_fit
    (fit_or refl refl return_fit
    (fit_or refl refl leave_fit
    (fit_or refl refl iterate_fit
    (fit_or refl refl signal_fit
    (fit_or refl refl resignal_fit
    (fit_or refl refl diagnostics_fit data_fit)))))))

-- ---- statements

block_fit : (follow : List ℕ) → Fits follow StatementGrammar.block
unfolding StatementGrammar.all_statements
block_fit follow = fit_or refl refl (fit_level refl refl)
    (fit_or refl refl (fit_level refl refl)
    (fit_or refl refl (fit_level refl refl)
    (fit_or refl refl (fit_level refl refl) (fit_level refl refl))))

labelled_fit : Fits semicolon StatementGrammar.labelled_statement
unfolding StatementGrammar.all_statements
labelled_fit = fit_seq (fit_token refl) (fit_seq (fit_token refl) (fit_seq (block_fit (name_kinds ++ semicolon)) (record { holds = refl })))

pub statement_fit : Fits semicolon StatementGrammar.statement
unfolding StatementGrammar.all_statements
statement_fit = fit_or refl refl labelled_fit
    (fit_or refl refl (fit_level refl refl)
    (fit_or refl refl (fit_level refl refl)
    (fit_or refl refl (fit_image (block_fit semicolon)) (fit_image simple_fit))))

ended_statement_fit : (follow : List ℕ) → Fits follow StatementGrammar.ended_statement
unfolding StatementGrammar.all_statements
ended_statement_fit follow = fit_seq statement_fit (fit_token refl)

-- statements before what no statement begins with
statements_fit : (follow : List ℕ) → apart (name_kinds ++ kinds_of statement_words) follow ≡ true → Fits follow StatementGrammar.statements
unfolding StatementGrammar.all_statements
statements_fit follow a = fit_seq (ended_statement_fit ((name_kinds ++ kinds_of statement_words) ++ follow)) (fit_many refl a (ended_statement_fit ((name_kinds ++ kinds_of statement_words) ++ follow)))

-- ---- IF and CASE

otherwise_fit : Fits (word_kind w.End ∷ []) StatementGrammar.otherwise_statements
unfolding StatementGrammar.all_statements
otherwise_fit = fit_seq (fit_token refl) (statements_fit (word_kind w.End ∷ []) refl)

branch_fit : Fits (kinds_of (w.ElseIf ∷ w.When ∷ w.Else ∷ w.End ∷ [])) StatementGrammar.branch
unfolding StatementGrammar.all_statements
branch_fit = fit_seq (fit_fewer refl expr_fit) (fit_seq (fit_token refl) (statements_fit (kinds_of (w.ElseIf ∷ w.When ∷ w.Else ∷ w.End ∷ [])) refl))

if_end_fit : (follow : List ℕ) → Fits follow StatementGrammar.if_end
unfolding StatementGrammar.all_statements
if_end_fit follow = fit_seq (fit_seq (fit_or refl refl (fit_image otherwise_fit) fit_nothing) (fit_token refl)) (fit_token refl)

case_end_fit : (follow : List ℕ) → Fits follow StatementGrammar.case_end
unfolding StatementGrammar.all_statements
case_end_fit follow = fit_seq (fit_seq (fit_or refl refl (fit_image otherwise_fit) fit_nothing) (fit_token refl)) (fit_token refl)

pub if_fit : (follow : List ℕ) → Fits follow StatementGrammar.if_rest
unfolding StatementGrammar.all_statements
if_fit follow = fit_seq (fit_seq (fit_fewer refl branch_fit) (fit_many refl refl (fit_seq (fit_token refl) (fit_fewer refl branch_fit)))) (if_end_fit follow)

case_branches_fit : (follow : List ℕ) → Fits follow StatementGrammar.case_branches
unfolding StatementGrammar.all_statements
case_branches_fit follow = fit_seq (fit_seq (fit_seq (fit_token refl) (fit_fewer refl branch_fit)) (fit_many refl refl (fit_seq (fit_token refl) (fit_fewer refl branch_fit)))) (case_end_fit follow)

pub case_fit : (follow : List ℕ) → Fits follow StatementGrammar.case_statement_rest
unfolding StatementGrammar.all_statements
case_fit follow = fit_or refl refl (fit_image (case_branches_fit follow)) (fit_seq (fit_fewer refl expr_fit) (case_branches_fit follow))

-- ---- loops

pub loop_fit : (follow : List ℕ) → Fits follow StatementGrammar.loop_rest
unfolding StatementGrammar.all_statements
loop_fit follow = fit_seq (fit_seq (statements_fit (word_kind w.End ∷ []) refl) (fit_token refl)) (fit_token refl)

pub while_fit : (follow : List ℕ) → Fits follow StatementGrammar.while_rest
unfolding StatementGrammar.all_statements
while_fit follow = fit_seq (fit_fewer refl expr_fit) (fit_seq (fit_token refl) (fit_seq (fit_seq (statements_fit (word_kind w.End ∷ []) refl) (fit_token refl)) (fit_token refl)))

pub repeat_fit : (follow : List ℕ) → Fits follow StatementGrammar.repeat_rest
unfolding StatementGrammar.all_statements
repeat_fit follow = fit_seq (statements_fit (word_kind w.Until ∷ []) refl) (fit_seq (fit_token refl) (fit_seq (fit_seq (fit_fewer refl expr_fit) (fit_token refl)) (fit_token refl)))

for_body_fit : (follow : List ℕ) → Fits follow StatementGrammar.for_body
unfolding StatementGrammar.all_statements
for_body_fit follow = fit_seq (fit_token refl) (fit_seq (fit_seq (statements_fit (word_kind w.End ∷ []) refl) (fit_token refl)) (fit_token refl))

pub for_fit : (follow : List ℕ) → Fits follow StatementGrammar.for_rest
unfolding StatementGrammar.all_statements
for_fit follow = fit_seq (fit_token refl) (fit_seq (fit_token refl) (fit_seq (record { holds = refl }) (fit_seq (fit_fewer refl ordered_fit) (for_body_fit follow))))

-- ---- declarations

default_fit : Fits semicolon StatementGrammar.default_source
unfolding StatementGrammar.all_statements
default_fit = fit_seq (fit_token refl) (fit_fewer refl source_fit)

typed_fit : Fits semicolon StatementGrammar.typed
unfolding StatementGrammar.all_statements
typed_fit = fit_seq (record { holds = refl }) (fit_or refl refl (fit_image default_fit) fit_nothing)

declaration_fit : Fits semicolon StatementGrammar.declaration_rest
unfolding StatementGrammar.all_statements
declaration_fit = fit_or refl refl (record { holds = refl })
    (fit_or refl refl (fit_seq (record { holds = refl }) typed_fit)
    (fit_seq (record { holds = refl }) (fit_or refl refl (fit_image default_fit) fit_nothing)))

cursor_fit : Fits semicolon StatementGrammar.cursor_rest
unfolding StatementGrammar.all_statements
cursor_fit = fit_seq (record { holds = refl }) (fit_seq (fit_token refl) (fit_seq (fit_fewer refl ordered_fit) (record { holds = refl })))

pub handler_fit : Fits semicolon StatementGrammar.handler_rest
unfolding StatementGrammar.all_statements
handler_fit = fit_seq (fit_token refl) (fit_seq (fit_token refl) (fit_seq (record { holds = refl }) statement_fit))

-- ---- blocks

ending_fit : (follow : List ℕ) → Fits follow StatementGrammar.ending
unfolding StatementGrammar.all_statements
ending_fit follow = fit_image (fit_seq (fit_many refl refl (ended_statement_fit ((name_kinds ++ kinds_of statement_words) ++ word_kind w.End ∷ []))) (fit_token refl))

pub body_fit : (phase : Phase) (follow : List ℕ) → Fits follow (StatementGrammar.body_rest phase)
unfolding StatementGrammar.all_statements
body_fit phase follow = fit_or refl refl (fit_next refl refl) (ending_fit follow)

declared_handler_fit : (follow : List ℕ) → Fits follow StatementGrammar.declared_handler
unfolding StatementGrammar.all_statements
declared_handler_fit follow = fit_seq (fit_level refl refl) (fit_next refl refl)

declared_cursor_fit : (follow : List ℕ) → Fits follow StatementGrammar.declared_cursor
unfolding StatementGrammar.all_statements
declared_cursor_fit follow = fit_seq cursor_fit (fit_next refl refl)

declared_variables_fit : (follow : List ℕ) → Fits follow StatementGrammar.declared_variables
unfolding StatementGrammar.all_statements
declared_variables_fit follow = fit_seq declaration_fit (fit_next refl refl)

pub declare_fit : (phase : Phase) (follow : List ℕ) → Fits follow (StatementGrammar.declare_rest phase)
unfolding StatementGrammar.all_statements
declare_fit Declarations follow = fit_or refl refl (declared_handler_fit follow) (fit_seq (fit_token refl) (fit_or refl refl (declared_cursor_fit follow) (declared_variables_fit follow)))
declare_fit Cursors follow = fit_or refl refl (declared_handler_fit follow) (fit_seq (fit_token refl) (declared_cursor_fit follow))
declare_fit Handlers follow = declared_handler_fit follow

pub begin_fit : (follow : List ℕ) → Fits follow StatementGrammar.begin_rest
unfolding StatementGrammar.all_statements
begin_fit follow = fit_seq (record { holds = refl }) (body_fit Declarations follow)
