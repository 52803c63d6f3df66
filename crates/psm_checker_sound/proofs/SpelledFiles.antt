-- NULL stands in each module file and in each script that tokens spell where it may stand.
use Rattle.std.proofs.Common.{ℕ, List, [], ◌∷◌}
use Rattle.std.specs.Prelude.{IsTrue}
use Rattle.psm_token.specs.declared.place.Place.{Place}
use Rattle.psm_token.specs.declared.token.Placed.{Placed}
use Rattle.psm_grammar.specs.Language.{Words}
use Rattle.psm_grammar.specs.Grammar.{Spells, seq}
use Rattle.psm_tree.specs.Productions.{productions}
use Rattle.psm_checker_sound.specs.Stands.{are_small}
use Rattle.psm_tree.specs.ExprGrammar.{Gram}
use Rattle.psm_tree.specs.ExprValues as exprs
use Rattle.psm_tree.specs.FileGrammar
use Rattle.psm_tree.specs.FileValues as values
use Rattle.psm_tree.specs.FileValues.{ModuleRest, TableRest}
use Rattle.psm_tree.specs.declared.file.FileTree.{FileTree}
use Rattle.psm_tree.specs.declared.file.Routine.{Routine}
use Rattle.psm_tree.specs.declared.script.ScriptTree.{ScriptTree}
use Rattle.psm_rules.specs.StatementFaults.{several}
use Rattle.psm_typing.specs.TypingContext.{Each}
use Rattle.psm_checker_sound.specs.StatementsStand.{ColumnRuleStands, ElementStands, FileStands, StatementStands, TableRuleStands, TableStands}
use Rattle.psm_checker_sound.specs.ScriptsStand.{CommandStands, ScriptStands}
use Rattle.psm_checker_sound.proofs.Saying.{Says, anything, says_ahead, says_before, says_after, says_each, says_image, says_or, says_seq, says_several, says_within}
use Rattle.psm_checker_sound.proofs.Spelled.{expr-says}
use Rattle.psm_checker_sound.proofs.SpelledSimples.{ordered-says}
use Rattle.psm_checker_sound.proofs.SpelledStatements.{statement-says}
use Rattle.psm_checker_sound.proofs.SpelledWhole.{spelled_so}

-- ---- tables

plain_column_rule-says : Says ColumnRuleStands FileGrammar.plain_column_rule
unfolding FileGrammar.all_files
plain_column_rule-says = says_or (says_seq anything anything (λ place second h k. tt))
    (says_or (says_seq anything anything (λ place second h k. tt))
    (says_or (says_image anything (λ place h. tt))
    (says_or (says_seq anything (says_within expr-says) (λ place test h k. k))
    (says_seq anything anything (λ place to h k. tt)))))

column_rule-says : Says ColumnRuleStands FileGrammar.column_rule
unfolding FileGrammar.all_files
column_rule-says = says_or (says_after (says_after plain_column_rule-says)) plain_column_rule-says

column-says : Says ElementStands FileGrammar.column
unfolding FileGrammar.all_files
column-says = says_seq anything (says_seq {Q = λ p. Each ColumnRuleStands p.2} anything (says_seq {Q = λ p. Each ColumnRuleStands p.1} anything (says_each column_rule-says) (λ default rules h k. k)) (λ kind p h k. k)) (λ name p h k. k)

plain_table_rule-says : Says (λ r. TableRuleStands r.form) FileGrammar.plain_table_rule
unfolding FileGrammar.all_files
plain_table_rule-says = says_or (says_seq anything anything (λ place names h k. tt))
    (says_or (says_seq anything anything (λ place names h k. tt))
    (says_or (says_seq anything (says_within expr-says) (λ place test h k. k))
    (says_seq anything anything (λ place p h k. tt))))

table_rule-says : Says (λ r. TableRuleStands r.form) FileGrammar.table_rule
unfolding FileGrammar.all_files
table_rule-says = says_or (says_after (says_after plain_table_rule-says)) plain_table_rule-says

element-says : Says ElementStands FileGrammar.element
unfolding FileGrammar.all_files
element-says = says_or column-says (says_image table_rule-says (λ rule h. h))

-- what stands after TABLE
abbrev RestStands : TableRest → Type 0
RestStands t = Each ElementStands (several t.elements)

table-says : Says RestStands FileGrammar.table
unfolding FileGrammar.all_files
table-says = says_seq anything (says_within (says_several element-says (says_after element-says))) (λ name elements h k. k)

tables_stand : (place : Place) (ts : List (TableRest × Place)) → Each (λ t. RestStands t.0) ts → Each TableStands (values.tables_from place ts)
tables_stand place [] h = tt
tables_stand place (t ∷ ts) h = (h.0, tables_stand t.1 ts h.1)

-- ---- routines

noted-says : Says (λ p. StatementStands p.1) FileGrammar.noted_statement
unfolding FileGrammar.all_files
noted-says = says_seq anything statement-says (λ characteristics body h k. k)

abbrev RoutineStands : Routine → Type 0
RoutineStands r = StatementStands r.body

procedure-says : Says RoutineStands FileGrammar.procedure
unfolding FileGrammar.all_files
procedure-says = says_seq anything (says_seq {Q = λ r. StatementStands r.body} anything (says_seq {Q = λ p. StatementStands p.1.1} anything noted-says (λ parameters p h k. k)) (λ name p h k. k)) (λ place r h k. k)

-- the characteristics and the statement after a type
after_type : {X : Type 0} {p : Gram X} → Says (λ p. StatementStands p.1.1) (seq exprs.pair p FileGrammar.noted_statement)
after_type = says_seq anything noted-says (λ kind p h k. k)

returned-says : Says (λ p. StatementStands p.1.1) FileGrammar.returned
unfolding FileGrammar.all_files
returned-says = says_or (says_seq {B = λ p. StatementStands p.1.1} anything (says_ahead after_type after_type) (λ place p h k. k)) after_type

function_routine-says : Says RoutineStands FileGrammar.function
unfolding FileGrammar.all_files
function_routine-says = says_seq anything (says_seq {Q = λ r. StatementStands r.body} anything (says_seq {Q = λ p. StatementStands p.1.1.1} anything (says_after returned-says) (λ parameters p h k. k)) (λ name p h k. k)) (λ place r h k. k)

plain_routine-says : Says RoutineStands FileGrammar.plain_routine
unfolding FileGrammar.all_files
plain_routine-says = says_or procedure-says function_routine-says

routine-says : Says RoutineStands FileGrammar.routine
unfolding FileGrammar.all_files
routine-says = says_or (says_after plain_routine-says) plain_routine-says

-- ---- module files

module-says : Says (λ m. Each RoutineStands m.routines) FileGrammar.module_part
unfolding FileGrammar.all_files
module-says = says_after (says_seq anything (says_seq {Q = λ p. Each RoutineStands p.1} anything (says_before (says_before (says_each (says_before routine-says)))) (λ language routines h k. k)) (λ name p h k. k))

tables-says : Says (Each (λ t. RestStands t.0)) FileGrammar.created_tables
unfolding FileGrammar.all_files
tables-says = says_each (says_after (says_seq {Q = λ t. RestStands t.0} table-says anything (λ table place h k. h)))

last-says : Says (λ m. Each RoutineStands m.routines) FileGrammar.last_module
unfolding FileGrammar.all_files
last-says = says_seq module-says anything (λ m semicolon h k. h)

-- the tables after the first CREATE, and the module
abbrev BothStand : List (TableRest × Place) × ModuleRest → Type 0
BothStand p = Each (λ t. RestStands t.0) p.0 × Each RoutineStands p.1.routines

file-says : Says FileStands FileGrammar.file
unfolding FileGrammar.all_files
file-says = says_seq anything (says_seq {Q = BothStand} tables-says last-says (λ tables m h k. (h, k))) (λ place p h k. record { tables = tables_stand place p.0 k.0; routines = k.1 })

pub files-stand : (depth : ℕ) (w : Words Placed) (f : FileTree) → IsTrue (are_small w) → Spells productions depth FileGrammar.file w f → FileStands f
files-stand = spelled_so file-says

-- ---- scripts

command-says : Says CommandStands FileGrammar.command
unfolding FileGrammar.all_files
command-says = says_or (says_seq anything anything (λ place p h k. tt))
    (says_or (says_seq anything anything (λ place p h k. tt))
    (says_or (says_image ordered-says (λ query h. h))
    (says_or (says_seq anything anything (λ place work h k. tt))
    (says_seq anything anything (λ place work h k. tt)))))

script-says : Says ScriptStands FileGrammar.script
unfolding FileGrammar.all_files
script-says = says_image (says_each (says_before command-says)) (λ commands h. h)

pub scripts-stand : (depth : ℕ) (w : Words Placed) (s : ScriptTree) → IsTrue (are_small w) → Spells productions depth FileGrammar.script w s → ScriptStands s
scripts-stand = spelled_so script-says
