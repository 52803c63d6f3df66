-- NULL stands in each statement, and in each part of a block, that tokens spell where it may stand.
use Rattle.std.proofs.Common.{Bool, List, [], ◌∷◌, Option, Some, None, refl, sym, subst}
use Rattle.std.specs.Prelude.{IsTrue}
use denote.Hole.Carrier
use Rattle.psm_token.specs.declared.place.Place.{Place}
use Rattle.psm_token.specs.declared.token.Placed.{Placed}
use Rattle.psm_grammar.specs.Language.{Test}
use Rattle.psm_grammar.specs.Grammar.{seq, many}
use Rattle.psm_grammar.specs.Forms.{optional, before_token}
use Rattle.psm_tree.specs.StatementValues as values
use Rattle.psm_tree.specs.declared.name.Identifier.{Identifier}
use Rattle.psm_tree.specs.declared.expr.Expr.{Expr}
use Rattle.psm_checker_sound.specs.Stands.{select_stands}
use Rattle.psm_tree.specs.ExprGrammar.{Gram}
use Rattle.psm_tree.specs.ExprValues as exprs
use Rattle.psm_checker_sound.proofs.StandingForms.{OptionStood, Stood}
use Rattle.psm_checker_sound.proofs.Saying.{BodyStands, ChoiceStands, DeclaredStands, NamedStands, Says, anything, says_before, says_after, says_each, says_image, says_level, says_next, says_optional, says_or, says_seq, says_several, says_weaker}
use Rattle.psm_checker_sound.proofs.Spelled.{expr-says, source-says}
use Rattle.psm_checker_sound.proofs.SpelledSimples.{ordered-says, simple-says}
use Rattle.psm_checker_sound.specs.Simples.{SimpleStands}
use Rattle.psm_typing.specs.TypingContext.{Each}
use Rattle.psm_rules.specs.StatementFaults.{several}
use Rattle.psm_checker_sound.specs.StatementsStand.{AllStand, BlockLayerStands, BlockStands, BranchesStand, DefaultStands, HeadStands, LayerStands, StatementStands}
use Rattle.psm_checker_sound.specs.StatementsStand as stood
use Rattle.psm_tree.specs.StatementGrammar
use Rattle.psm_tree.specs.Parts.{DeclareRest, Statements, Branches, ForParts, Phase, Declarations, Cursors, Handlers, Body, NamedRest, Variables, Condition, Cursor, Declared, Named, Handled}
use Rattle.psm_tree.specs.declared.statement.Statement.{Statement, roll-Statement, out-roll-Statement}
use Rattle.psm_tree.specs.declared.statement.Statement.TheVariants as statements
use Rattle.psm_tree.specs.declared.statement.Block.{Block, roll-Block, out-roll-Block}
use Rattle.psm_tree.specs.declared.statement.Block.TheOpen.{Block-F, Statement-F}
use Rattle.psm_tree.specs.declared.statement.Block.TheOpen as layers
use Rattle.psm_tree.specs.declared.statement.Branch.{Branch, out-Branch, out-roll-Branch}
use Rattle.psm_tree.specs.declared.statement.Handler.{Handler, out-roll-Handler}
use Rattle.psm_tree.specs.declared.statement.Label.{Label}
use Rattle.psm_tree.specs.declared.statement.Simple.{Simple}
use Rattle.psm_tree.specs.declared.statement.OrderedQuery.{OrderedQuery}

-- ---- what each form of statement needs

statement_of : (layer : Statement-F Block Statement Branch Handler) → LayerStands layer → StatementStands (roll-Statement layer)
statement_of layer h = stood.statement_stands (subst LayerStands (sym (out-roll-Statement layer)) h)

block_of : (layer : Block-F Block Statement Branch Handler) → BlockLayerStands layer → BlockStands (roll-Block layer)
block_of layer h = stood.block_stands (subst BlockLayerStands (sym (out-roll-Block layer)) h)

block-stands : (label : Option Label) (b : Block) → BlockStands b → StatementStands (statements.Block label b)
unfolding roll-Statement Carrier.roll
block-stands label b h = statement_of (layers.Block label b) (stood.block h)

if-stands : (place : Place) (b : Branches) → ChoiceStands b → StatementStands (values.if_of place b)
unfolding roll-Statement Carrier.roll
if-stands place b h = statement_of (layers.If place b.branches b.otherwise) (stood.if h.0 h.1)

-- the operand of CASE, and its branches
abbrev CaseStands : Option Expr × Branches → Type 0
CaseStands p = OptionStood p.0 × ChoiceStands p.1

case-stands : (place : Place) (p : Option Expr × Branches) → CaseStands p → StatementStands (values.case_statement_of place p)
unfolding roll-Statement Carrier.roll
case-stands place p h = statement_of (layers.Case place p.0 p.1.branches p.1.otherwise) (stood.case h.0 h.1.0 h.1.1)

simple-stands : (x : Simple) → SimpleStands x → StatementStands (values.simple_statement x)
unfolding roll-Statement Carrier.roll
simple-stands x h = statement_of (layers.Simple x) (stood.simple h)

compound-stands : (place : Place) (p : Bool × Body) → BodyStands p.1 → BlockStands (values.compound_of place p)
unfolding roll-Block Carrier.roll
compound-stands place p h = block_of (layers.Compound place p.0 p.1.declarations p.1.cursors p.1.handlers p.1.statements) (stood.compound h.declarations h.cursors h.handlers h.statements)

loop-stands : (place : Place) (xs : Statements) → AllStand (several xs) → BlockStands (values.loop_of place xs)
unfolding roll-Block Carrier.roll
loop-stands place xs h = block_of (layers.Loop place xs) (stood.loop h)

while-stands : (place : Place) (p : Expr × Statements) → Stood p.0 × AllStand (several p.1) → BlockStands (values.while_of place p)
unfolding roll-Block Carrier.roll
while-stands place p h = block_of (layers.While place p.0 p.1) (stood.while h.0 h.1)

repeat-stands : (place : Place) (p : Statements × Expr) → AllStand (several p.0) × Stood p.1 → BlockStands (values.repeat_of place p)
unfolding roll-Block Carrier.roll
repeat-stands place p h = block_of (layers.Repeat place p.0 p.1) (stood.repeat h.0 h.1)

for-stands : (place : Place) (p : ForParts) → HeadStands p.head × AllStand (several p.statements) → BlockStands (values.for_of place p)
unfolding roll-Block Carrier.roll
for-stands place p h = block_of (layers.For place p.head p.statements) (stood.for_each h.0 h.1)

-- ---- lists of statements and of branches, as what is claimed of each of them

all_stand : (xs : List Statement) → Each StatementStands xs → AllStand xs
all_stand [] h = stood.none
all_stand (x ∷ xs) h = stood.more h.0 (all_stand xs h.1)

abbrev BranchStands : Branch → Type 0
BranchStands b = Stood (out-Branch b).test × AllStand (several (out-Branch b).statements)

branches_stand : (bs : List Branch) → Each BranchStands bs → BranchesStand bs
branches_stand [] h = stood.no_branch
branches_stand (b ∷ bs) h = stood.branch h.0.0 h.0.1 (branches_stand bs h.1)

branch-stands : (test : Expr) (xs : Statements) → Stood test → AllStand (several xs) → BranchStands (values.branch_of test xs)
branch-stands test xs h k = let is = sym (out-roll-Branch (record { test = test; statements = xs })) in (subst (λ b. Stood b.test) is h, subst (λ b. AllStand (several b.statements)) is k)

-- ---- a declaration before the rest of a block

named-stands : (place : Place) (name : Identifier) (rest : NamedRest) (body : Body) → NamedStands rest → BodyStands body → BodyStands (values.with_named place name rest body)
named-stands place name (Variables others kind default) body h k = record { declarations = (h, k.declarations); cursors = k.cursors; handlers = k.handlers; statements = k.statements }
named-stands place name (Condition state) body h k = record { declarations = (tt, k.declarations); cursors = k.cursors; handlers = k.handlers; statements = k.statements }
named-stands place name (Cursor insensitive query updatability) body h k = record { declarations = k.declarations; cursors = (h, k.cursors); handlers = k.handlers; statements = k.statements }

declared-stands : (place : Place) (d : Declared) (body : Body) → DeclaredStands d → BodyStands body → BodyStands (values.with_declared place d body)
declared-stands place (Named name rest) body h k = named-stands place name rest body h k
declared-stands place (Handled kind p) body h k = record {
  declarations = k.declarations;
  cursors = k.cursors;
  handlers = stood.handler (subst (λ y. StatementStands y.action) (sym (out-roll-Handler (record { place = place; «at» = kind.place; kind = kind.value; values = p.values; action = p.action }))) h) k.handlers;
  statements = k.statements;
}

-- ---- statements

block-says : Says BlockStands StatementGrammar.block
unfolding StatementGrammar.all_statements
block-says = says_or (says_level compound-stands) (says_or (says_level loop-stands) (says_or (says_level while-stands) (says_or (says_level repeat-stands) (says_level for-stands))))

labelled-says : Says StatementStands StatementGrammar.labelled_statement
unfolding StatementGrammar.all_statements
labelled-says = says_seq anything (says_after (says_seq {Q = λ p. BlockStands p.0} block-says anything (λ block label h k. h))) (λ start p h k. block-stands (Some (record { start = start; end = p.1 })) p.0 k)

if-says : Says StatementStands StatementGrammar.if_statement
unfolding StatementGrammar.all_statements
if-says = says_level if-stands

case-says : Says StatementStands StatementGrammar.case_statement
unfolding StatementGrammar.all_statements
case-says = says_level case-stands

pub statement-says : Says StatementStands StatementGrammar.statement
unfolding StatementGrammar.all_statements
statement-says = says_or labelled-says (says_or if-says (says_or case-says (says_or (says_image block-says (λ block h. block-stands None block h)) (says_image simple-says simple-stands))))

ended-says : Says StatementStands StatementGrammar.ended_statement
unfolding StatementGrammar.all_statements
ended-says = says_before statement-says

statements-says : Says (λ xs. AllStand (several xs)) StatementGrammar.statements
unfolding StatementGrammar.all_statements
statements-says = says_weaker (says_several ended-says ended-says) (λ xs h. all_stand (several xs) h)

-- ---- IF and CASE

branch-says : Says BranchStands StatementGrammar.branch
unfolding StatementGrammar.all_statements
branch-says = says_seq expr-says (says_after statements-says) branch-stands

several_branches : {p : Gram Branch} → Says BranchStands p → {q : Gram Branch} → Says BranchStands q → Says (λ bs. BranchesStand (several bs)) (seq exprs.several p (many q))
several_branches a b = says_weaker (says_several a b) (λ bs h. branches_stand (several bs) h)

abbrev ElseStands : Option Statements → Type 0
ElseStands o = AllStand (values.listed o)

else-says : Says ElseStands (optional StatementGrammar.otherwise_statements)
unfolding StatementGrammar.all_statements
else-says = says_optional (says_after statements-says) stood.none

pub if_rest-says : Says ChoiceStands StatementGrammar.if_rest
unfolding StatementGrammar.all_statements
if_rest-says = says_seq (several_branches branch-says (says_after branch-says)) (says_before (says_before else-says)) (λ branches otherwise h k. (h, k))

case_branches-says : Says ChoiceStands StatementGrammar.case_branches
unfolding StatementGrammar.all_statements
case_branches-says = says_seq (several_branches (says_after branch-says) (says_after branch-says)) (says_before (says_before else-says)) (λ branches otherwise h k. (h, k))

pub case_rest-says : Says CaseStands StatementGrammar.case_statement_rest
unfolding StatementGrammar.all_statements
case_rest-says = says_or (says_image case_branches-says (λ branches h. (refl, h))) (says_seq expr-says case_branches-says (λ operand branches h k. (h, k)))

-- ---- loops

ended_by : {A B : Type 0} {first : Test Placed A} {second : Test Placed B} → Says (λ xs. AllStand (several xs)) (before_token (before_token StatementGrammar.statements first) second)
ended_by = says_before (says_before statements-says)

pub loop_rest-says : Says (λ xs. AllStand (several xs)) StatementGrammar.loop_rest
unfolding StatementGrammar.all_statements
loop_rest-says = ended_by

pub while_rest-says : Says (λ p. Stood p.0 × AllStand (several p.1)) StatementGrammar.while_rest
unfolding StatementGrammar.all_statements
while_rest-says = says_seq expr-says (says_after ended_by) (λ test xs h k. (h, k))

pub repeat_rest-says : Says (λ p. AllStand (several p.0) × Stood p.1) StatementGrammar.repeat_rest
unfolding StatementGrammar.all_statements
repeat_rest-says = says_seq statements-says (says_after (says_before (says_before expr-says))) (λ xs until h k. (h, k))

-- a query, and the statements for each of its rows
abbrev RowsStand : OrderedQuery × Statements → Type 0
RowsStand p = IsTrue (select_stands p.0.query) × AllStand (several p.1)

pub for_rest-says : Says (λ p. HeadStands p.head × AllStand (several p.statements)) StatementGrammar.for_rest
unfolding StatementGrammar.all_statements
for_rest-says = says_seq anything (says_after (says_seq {Q = λ p. RowsStand (p.1, p.2)} anything (says_seq {Q = RowsStand} ordered-says (says_after ended_by) (λ query xs h k. (h, k))) (λ cursor p h k. k))) (λ name p h k. k)

-- ---- blocks

pub handler_rest-says : Says (λ p. StatementStands p.action) StatementGrammar.handler_rest
unfolding StatementGrammar.all_statements
handler_rest-says = says_after (says_after (says_seq anything statement-says (λ values action h k. k)))

ending-says : Says BodyStands StatementGrammar.ending
unfolding StatementGrammar.all_statements
ending-says = says_image (says_before (says_each ended-says)) (λ xs h. record { declarations = tt; cursors = tt; handlers = stood.no_handler; statements = all_stand xs h })

pub body-says : (phase : Phase) → Says BodyStands (StatementGrammar.body_rest phase)
unfolding StatementGrammar.all_statements
body-says phase = says_or (says_next {n = DeclareRest phase} (λ place p h. declared-stands place p.0 p.1 h.0 h.1)) ending-says

default-says : Says DefaultStands (optional StatementGrammar.default_source)
unfolding StatementGrammar.all_statements
default-says = says_optional (says_after source-says) tt

declaration-says : Says NamedStands StatementGrammar.declaration_rest
unfolding StatementGrammar.all_statements
declaration-says = says_or (says_seq anything anything (λ place state h k. tt))
    (says_or (says_seq anything (says_seq {Q = λ p. DefaultStands p.1} anything default-says (λ kind default h k. k)) (λ others p h k. k))
    (says_seq anything default-says (λ kind default h k. k)))

cursor-says : Says NamedStands StatementGrammar.cursor_rest
unfolding StatementGrammar.all_statements
cursor-says = says_seq anything (says_after (says_seq {Q = λ p. IsTrue (select_stands p.0.query)} ordered-says anything (λ query updatability h k. h))) (λ insensitive p h k. k)

abbrev DeclareStands : Declared × Body → Type 0
DeclareStands p = DeclaredStands p.0 × BodyStands p.1

abbrev NameStands : NamedRest × Body → Type 0
NameStands p = NamedStands p.0 × BodyStands p.1

handler-says : Says DeclareStands StatementGrammar.declared_handler
unfolding StatementGrammar.all_statements
handler-says = says_seq (says_level {Q = DeclaredStands} (λ kind p h. h)) (says_next {Q = BodyStands} (λ end body h. h)) (λ d body h k. (h, k))

declared_cursor-says : Says NameStands StatementGrammar.declared_cursor
unfolding StatementGrammar.all_statements
declared_cursor-says = says_seq cursor-says (says_next {Q = BodyStands} (λ end body h. h)) (λ rest body h k. (h, k))

declared_variables-says : Says NameStands StatementGrammar.declared_variables
unfolding StatementGrammar.all_statements
declared_variables-says = says_seq declaration-says (says_next {Q = BodyStands} (λ end body h. h)) (λ rest body h k. (h, k))

pub declare-says : (phase : Phase) → Says DeclareStands (StatementGrammar.declare_rest phase)
unfolding StatementGrammar.all_statements
declare-says Declarations = says_or handler-says (says_seq anything (says_or declared_cursor-says declared_variables-says) (λ name p h k. k))
declare-says Cursors = says_or handler-says (says_seq anything declared_cursor-says (λ name p h k. k))
declare-says Handlers = handler-says

pub begin_rest-says : Says (λ p. BodyStands p.1) StatementGrammar.begin_rest
unfolding StatementGrammar.all_statements
begin_rest-says = says_seq anything (body-says Declarations) (λ atomic body h k. k)
