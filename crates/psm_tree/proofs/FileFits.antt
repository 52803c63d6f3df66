-- Module files and scripts are read by their first tokens.
use Rattle.std.proofs.Common.{ℕ, List, [], ◌∷◌, ◌++◌, refl}
use Rattle.psm_token.specs.declared.word.Word.TheVariants as w
use Rattle.psm_token.specs.declared.sign.Sign.TheVariants as s
use Rattle.psm_grammar.specs.Grammar.{Grammar}
use Rattle.psm_grammar.proofs.Fitting.{Fit, fit_fewer, fit_token, fit_seq, fit_or, fit_ahead, fit_many, fit_image}
use Rattle.psm_token.specs.Signs.{sign_kind}
use Rattle.psm_token.specs.Kinds.{kinds_of, kind}
use Rattle.psm_tree.specs.FirstWords.{column_rule_words}
use Rattle.psm_tree.specs.Parts.{V}
use Rattle.psm_tree.specs.FileGrammar
use Rattle.psm_tree.proofs.ExprFits.{after, expr_fit, parens_fit}
use Rattle.psm_tree.proofs.StatementFits.{semicolon, ordered_fit, statement_fit}

abbrev Fits : {X : Type 0} → List ℕ → Grammar kind V X → Type 0
Fits follow g = Fit after follow g

-- ---- tables

abbrev after_element : List ℕ
after_element = sign_kind s.Comma ∷ sign_kind s.RightParen ∷ []

-- a rule of a column is followed by another one, or ends the column
abbrev after_column_rule : List ℕ
after_column_rule = kinds_of column_rule_words ++ after_element

references_rest_fit : Fits after_column_rule FileGrammar.references_rest
unfolding FileGrammar.all_files
references_rest_fit = record { holds = refl }

plain_column_rule_fit : Fits after_column_rule FileGrammar.plain_column_rule
unfolding FileGrammar.all_files
plain_column_rule_fit = fit_or refl refl (fit_seq (fit_token refl) (fit_token refl))
    (fit_or refl refl (fit_seq (fit_token refl) (fit_token refl))
    (fit_or refl refl (fit_image (fit_token refl))
    (fit_or refl refl (fit_seq (fit_token refl) (parens_fit after_column_rule (fit_fewer refl expr_fit)))
    (fit_seq (fit_token refl) references_rest_fit))))

column_rule_fit : Fits after_column_rule FileGrammar.column_rule
unfolding FileGrammar.all_files
column_rule_fit = fit_or refl refl (fit_seq (fit_token refl) (fit_seq (fit_token refl) plain_column_rule_fit)) plain_column_rule_fit

column_fit : Fits after_element FileGrammar.column
unfolding FileGrammar.all_files
column_fit = fit_seq (fit_token refl) (fit_seq (record { holds = refl }) (fit_seq (record { holds = refl }) (fit_many refl refl column_rule_fit)))

plain_table_rule_fit : Fits after_element FileGrammar.plain_table_rule
unfolding FileGrammar.all_files
plain_table_rule_fit = fit_or refl refl (fit_seq (fit_token refl) (fit_seq (fit_token refl) (parens_fit after_element (record { holds = refl }))))
    (fit_or refl refl (fit_seq (fit_token refl) (parens_fit after_element (record { holds = refl })))
    (fit_or refl refl (fit_seq (fit_token refl) (parens_fit after_element (fit_fewer refl expr_fit)))
    (fit_seq (fit_token refl) (fit_seq (fit_token refl) (fit_seq (record { holds = refl }) (fit_seq (fit_token refl) (fit_fewer refl references_rest_fit)))))))

table_rule_fit : Fits after_element FileGrammar.table_rule
unfolding FileGrammar.all_files
table_rule_fit = fit_or refl refl (fit_seq (fit_token refl) (fit_seq (fit_token refl) plain_table_rule_fit)) plain_table_rule_fit

element_fit : Fits after_element FileGrammar.element
unfolding FileGrammar.all_files
element_fit = fit_or refl refl column_fit (fit_image table_rule_fit)

table_fit : (follow : List ℕ) → Fits follow FileGrammar.table
unfolding FileGrammar.all_files
table_fit follow = fit_seq (fit_token refl) (parens_fit follow (fit_seq element_fit (fit_many refl refl (fit_seq (fit_token refl) element_fit))))

-- ---- routines

noted_fit : Fits semicolon FileGrammar.noted_statement
unfolding FileGrammar.all_files
noted_fit = fit_seq (record { holds = refl }) statement_fit

procedure_fit : Fits semicolon FileGrammar.procedure
unfolding FileGrammar.all_files
procedure_fit = fit_seq (fit_token refl) (fit_seq (fit_token refl) (fit_seq (record { holds = refl }) noted_fit))

returned_fit : Fits semicolon FileGrammar.returned
unfolding FileGrammar.all_files
returned_fit = fit_or refl refl (fit_seq (fit_token refl) (fit_ahead refl (fit_seq (record { holds = refl }) noted_fit) (fit_seq (record { holds = refl }) noted_fit)))
    (fit_seq (record { holds = refl }) noted_fit)

function_fit : Fits semicolon FileGrammar.function
unfolding FileGrammar.all_files
function_fit = fit_seq (fit_token refl) (fit_seq (fit_token refl) (fit_seq (record { holds = refl }) (fit_seq (fit_token refl) returned_fit)))

routine_fit : Fits semicolon FileGrammar.routine
unfolding FileGrammar.all_files
routine_fit = fit_or refl refl (fit_seq (fit_token refl) (fit_or refl refl procedure_fit function_fit)) (fit_or refl refl procedure_fit function_fit)

-- ---- files

module_fit : Fits semicolon FileGrammar.module_part
unfolding FileGrammar.all_files
module_fit = fit_seq (fit_token refl) (fit_seq (fit_token refl) (fit_seq (record { holds = refl })
    (fit_seq (fit_seq (fit_many refl refl (fit_seq routine_fit (fit_token refl))) (fit_token refl)) (fit_token refl))))

created_table_fit : (follow : List ℕ) → Fits follow FileGrammar.created_table
unfolding FileGrammar.all_files
created_table_fit follow = fit_seq (fit_token refl) (fit_seq (table_fit semicolon) (fit_seq (fit_token refl) (fit_token refl)))

pub file_fit : Fits [] FileGrammar.file
unfolding FileGrammar.all_files
file_fit = fit_seq (fit_token refl) (fit_seq (fit_many refl refl (created_table_fit (kinds_of (w.Table ∷ w.Module ∷ [])))) (fit_seq module_fit (record { holds = refl })))

-- ---- scripts

insert_fit : Fits semicolon FileGrammar.script_insert
unfolding FileGrammar.all_files
insert_fit = record { holds = refl }

command_fit : Fits semicolon FileGrammar.command
unfolding FileGrammar.all_files
command_fit = fit_or refl refl (record { holds = refl })
    (fit_or refl refl insert_fit
    (fit_or refl refl (fit_image (fit_fewer refl ordered_fit))
    (fit_or refl refl (record { holds = refl }) (record { holds = refl }))))

pub script_fit : Fits [] FileGrammar.script
unfolding FileGrammar.all_files
script_fit = fit_image (fit_many refl refl (fit_seq command_fit (fit_token refl)))
