-- NULL stands in each simple statement that tokens spell where it may stand.
use Rattle.std.proofs.Common.{List, [], ◌∷◌, map, Option, Some, None}
use Rattle.std.specs.Prelude.{IsTrue}
use Rattle.std.specs.List.{list_all}
use Rattle.psm_list.specs.Several.{Several}
use Rattle.psm_token.specs.declared.place.Place.{Place}
use Rattle.psm_grammar.specs.Forms.{optional}
use Rattle.psm_scope.proofs.Lists.{both}
use Rattle.psm_tree.specs.StatementValues as values
use Rattle.psm_tree.specs.declared.expr.Expr.{Expr}
use Rattle.psm_tree.specs.declared.expr.Pick.{Pick}
use Rattle.psm_checker_sound.specs.Stands.{as_source, select_stands, stands}
use Rattle.psm_checker_sound.proofs.StandingForms.{AllSourced, OptionStood, PicksStood, Stood, select-stood}
use Rattle.psm_checker_sound.proofs.Saying.{Says, anything, says_before, says_after, says_image, says_nothing, says_optional, says_or, says_seq, says_several}
use Rattle.psm_checker_sound.proofs.Spelled.{arguments-says, expr-says, from-says, optional_operand, picks-says, select-says, source-says, sources-says}
use Rattle.psm_checker_sound.specs.Simples.{AssignmentsStand, InsertStands, SignalStands, SimpleStands, Sourced, WhichStands}
use Rattle.psm_typing.specs.TypingContext.{Each}
use Rattle.psm_rules.specs.StatementFaults.{several}
use Rattle.psm_tree.specs.StatementGrammar
use Rattle.psm_tree.specs.ExprValues.{From}
use Rattle.psm_tree.specs.Names.{Targets}
use Rattle.psm_tree.specs.declared.statement.Assignment.{Assignment}
use Rattle.psm_tree.specs.declared.statement.Signalled.{Signalled}
use Rattle.psm_tree.specs.declared.statement.Where.{Where}

-- ---- parts of simple statements

each_sourced : (es : List Expr) → AllSourced es → Each Sourced es
each_sourced [] h = tt
each_sourced (e ∷ es) h = let parts = both (as_source (stands e)) (list_all as_source (map stands es)) h in (parts.0, each_sourced es parts.1)

pub ordered-says : Says (λ o. IsTrue (select_stands o.query)) StatementGrammar.ordered_select
unfolding StatementGrammar.all_statements
ordered-says = says_seq select-says anything (λ query order h k. h)

message-says : Says Stood StatementGrammar.message
unfolding StatementGrammar.all_statements
message-says = says_after (says_after (says_after expr-says))

state_signalled-says : Says SignalStands StatementGrammar.state_signalled
unfolding StatementGrammar.all_statements
state_signalled-says = says_seq anything (optional_operand message-says) (λ condition message h k. k)

name_signalled-says : Says SignalStands StatementGrammar.name_signalled
unfolding StatementGrammar.all_statements
name_signalled-says = says_seq anything (optional_operand message-says) (λ condition message h k. k)

signalled-says : Says SignalStands StatementGrammar.signalled
unfolding StatementGrammar.all_statements
signalled-says = says_or state_signalled-says name_signalled-says

where-says : Says (λ x. WhichStands (Some x)) StatementGrammar.where_part
unfolding StatementGrammar.all_statements
where-says = says_after (says_or (says_after (says_after (says_image anything (λ cursor h. tt)))) (says_image expr-says (λ e h. h)))

which-says : Says WhichStands (optional StatementGrammar.where_part)
which-says = says_optional where-says tt

values-says : Says (λ row. Each Sourced (several row.values)) StatementGrammar.values
unfolding StatementGrammar.all_statements
values-says = says_seq anything (says_before sources-says) (λ place xs h k. each_sourced (several xs) k)

insert_source-says : Says InsertStands StatementGrammar.insert_source
unfolding StatementGrammar.all_statements
insert_source-says = says_or (says_after (says_image (says_several values-says (says_after values-says)) (λ rows h. h))) (says_image select-says (λ query h. h))

assignment-says : Says (λ a. Sourced a.source) StatementGrammar.assignment
unfolding StatementGrammar.all_statements
assignment-says = says_seq anything (says_after source-says) (λ column source h k. k)

assignments-says : Says (λ xs. AssignmentsStand (several xs)) StatementGrammar.assignments
unfolding StatementGrammar.all_statements
assignments-says = says_after (says_several assignment-says (says_after assignment-says))

-- ---- simple statements

set-says : Says SimpleStands StatementGrammar.set_statement
unfolding StatementGrammar.all_statements
set-says = says_seq anything (says_seq {Q = λ p. Sourced p.1} anything (says_after source-says) (λ target source h k. k)) (λ place p h k. k)

call-says : Says SimpleStands StatementGrammar.call_statement
unfolding StatementGrammar.all_statements
call-says = says_seq anything (says_seq {Q = λ p. AllSourced p.1} anything (says_after arguments-says) (λ name arguments h k. k)) (λ place p h k. each_sourced p.1 k)

return-says : Says SimpleStands StatementGrammar.return_statement
unfolding StatementGrammar.all_statements
return-says = says_seq anything source-says (λ place source h k. k)

leave-says : Says SimpleStands StatementGrammar.leave_statement
unfolding StatementGrammar.all_statements
leave-says = says_seq anything anything (λ place label h k. tt)

iterate-says : Says SimpleStands StatementGrammar.iterate_statement
unfolding StatementGrammar.all_statements
iterate-says = says_seq anything anything (λ place label h k. tt)

signal-says : Says SimpleStands StatementGrammar.signal_statement
unfolding StatementGrammar.all_statements
signal-says = says_seq anything signalled-says (λ place signalled h k. k)

-- the condition of RESIGNAL where it has one
abbrev Resignals : Option Signalled → Type 0
Resignals None = Unit {0}
Resignals (Some signalled) = SignalStands signalled

resignal-stands : (place : Place) (signalled : Option Signalled) → Resignals signalled → SimpleStands (values.resignal_of place signalled)
resignal-stands place None h = tt
resignal-stands place (Some signalled) h = h

resignal-says : Says SimpleStands StatementGrammar.resignal_statement
unfolding StatementGrammar.all_statements
resignal-says = says_seq anything (says_or (says_image {Q = Resignals} state_signalled-says (λ s h. h)) (says_or (says_image name_signalled-says (λ s h. h)) (says_nothing tt))) (λ place signalled h k. resignal-stands place signalled k)

diagnostics-says : Says SimpleStands StatementGrammar.diagnostics_statement
unfolding StatementGrammar.all_statements
diagnostics-says = says_seq anything anything (λ place diagnostics h k. tt)

-- the picks of a query after SELECT, the targets between, and what it is from
abbrev IntoStands : Several Pick × Targets × From → Type 0
IntoStands p = PicksStood p.0 × OptionStood p.2.condition

select_into-says : Says SimpleStands StatementGrammar.select_statement
unfolding StatementGrammar.all_statements
select_into-says = says_seq anything (says_seq {Q = IntoStands} picks-says (says_seq {Q = λ p. OptionStood p.1.condition} anything (says_after from-says) (λ targets from h k. k)) (λ picks p h k. (h, k))) (λ place p h k. select-stood place (p.0, p.2) k)

insert-says : Says SimpleStands StatementGrammar.insert_statement
unfolding StatementGrammar.all_statements
insert-says = says_seq anything (says_after (says_seq {Q = λ p. InsertStands p.2} anything (says_seq {Q = λ p. InsertStands p.1} anything insert_source-says (λ columns source h k. k)) (λ table p h k. k))) (λ place p h k. k)

abbrev UpdateStands : Several Assignment × Option Where → Type 0
UpdateStands p = AssignmentsStand (several p.0) × WhichStands p.1

update-says : Says SimpleStands StatementGrammar.update_statement
unfolding StatementGrammar.all_statements
update-says = says_seq anything (says_seq {Q = λ p. UpdateStands (p.1, p.2)} anything (says_seq {Q = UpdateStands} assignments-says which-says (λ assignments which h k. (h, k))) (λ table p h k. k)) (λ place p h k. k)

delete-says : Says SimpleStands StatementGrammar.delete_statement
unfolding StatementGrammar.all_statements
delete-says = says_seq anything (says_after (says_seq {Q = λ p. WhichStands p.1} anything which-says (λ table which h k. k))) (λ place p h k. k)

open-says : Says SimpleStands StatementGrammar.open_statement
unfolding StatementGrammar.all_statements
open-says = says_seq anything anything (λ place cursor h k. tt)

fetch-says : Says SimpleStands StatementGrammar.fetch_statement
unfolding StatementGrammar.all_statements
fetch-says = says_seq anything anything (λ place p h k. tt)

close-says : Says SimpleStands StatementGrammar.close_statement
unfolding StatementGrammar.all_statements
close-says = says_seq anything anything (λ place cursor h k. tt)

data-says : Says SimpleStands StatementGrammar.data_statement
unfolding StatementGrammar.all_statements
data-says = says_or select_into-says (says_or insert-says (says_or update-says (says_or delete-says (says_or open-says (says_or fetch-says close-says)))))

pub simple-says : Says SimpleStands StatementGrammar.simple
unfolding StatementGrammar.all_statements
simple-says = says_or set-says (says_or call-says (says_or return-says (says_or leave-says (says_or iterate-says (says_or signal-says (says_or resignal-says (says_or diagnostics-says data-says)))))))
