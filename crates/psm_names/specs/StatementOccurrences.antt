-- The occurrences of names and of declarations in a statement and in a routine, in the order of the source (ISO/IEC 9075-4:1996).
use Rattle.std.specs.Prelude.{ℕ, List, [], ◌∷◌, ◌++◌, length, map, Option, Some}
use Rattle.psm_scope.specs.Scopes.{Spelling, Scope, Compound, Loop, Action, undeclared}
use Rattle.psm_scope.specs.Scopes as scope
use Rattle.psm_rules.specs.CheckerScope.{SymbolTable}
use Rattle.psm_rules.specs.StatementFaults.{several, label_name}
use Rattle.psm_rules.specs.Types.{type_of}
use Rattle.psm_resolve_expr.specs.Exprs.{type_known}
use Rattle.psm_tree.specs.declared.file.Parameter.{Parameter}
use Rattle.psm_tree.specs.declared.file.Routine.{Routine}
use Rattle.psm_tree.specs.declared.statement.Block.{Block}
use Rattle.psm_tree.specs.declared.statement.Branch.{Branch}
use Rattle.psm_tree.specs.declared.statement.CursorDeclaration.{CursorDeclaration}
use Rattle.psm_tree.specs.declared.statement.Declaration.{Declaration}
use Rattle.psm_tree.specs.declared.statement.ForHead.{ForHead}
use Rattle.psm_tree.specs.declared.statement.Handler.{Handler}
use Rattle.psm_tree.specs.declared.statement.HandlerValue.{HandlerValue}
use Rattle.psm_tree.specs.declared.statement.HandlerValue.TheVariants as handled
use Rattle.psm_tree.specs.declared.statement.Statement.{Statement}
use Rattle.psm_tree.specs.declared.statement.Block.TheOpen.{Statement-F, Block-F, Branch-F, Handler-F}
use Rattle.psm_tree.specs.declared.statement.Block.TheOpen as layers
use Rattle.psm_tree.specs.declared.statement.Block.TheFolds.{fold-Statement, fold-Block, fold-Branch, fold-Handler}
use Rattle.psm_resolved.specs.declared.statement.ResolvedCondition.{ResolvedCondition}
use Rattle.psm_names.specs.Referents as referents
use Rattle.psm_names.specs.Referents.{together}
use Rattle.psm_names.specs.Occurrences.{EnclosingScopes, KnownVariable, Occurrence, Declared, ConditionName, StateName, Site}
use Rattle.psm_names.specs.ExprOccurrences.{expr_occurrences}
use Rattle.psm_names.specs.Declaring.{Ordinals, Point, control, in_cursors, in_declarations, in_for, in_head, optional_occurrences, variables_from, with_cursors, with_declarations, with_variable}
use Rattle.psm_names.specs.SimpleOccurrences.{simple_occurrences}

-- occurrences where so much is declared before, and what is declared before what comes after them
abbrev pub Listing : Type 0
Listing = Ordinals → List Occurrence × Ordinals

abbrev pub only : List Occurrence → Listing
only os n = (os, n)

abbrev pub followed : Listing → Listing → Listing
followed first next n = let a = first n in let b = next a.1 in (a.0 ++ b.0, b.1)

-- the parts of a layer are what occurs in them at a site
abbrev pub Part : Type 0
Part = Site → Listing

abbrev pub BlockPart : Type 0
BlockPart = Option Spelling → Part

abbrev pub all_of : Site → List Part → Listing
all_of site [] = only []
all_of site (p ∷ ps) = followed (p site) (all_of site ps)

abbrev pub in_scopes : Site → EnclosingScopes → Site
in_scopes site scopes = record site { scopes = scopes }

abbrev pub inside : Site → Scope KnownVariable ResolvedCondition ℕ → Site
inside site f = in_scopes site (f ∷ site.scopes)

-- a block, which LEAVE and ITERATE know by its level
abbrev pub begun : Option Spelling → Site → Listing
begun label site = only (Declared label (referents.Block (length site.scopes)) ∷ [])

abbrev pub looping : Option Spelling → Site → Listing → Listing
looping label site listing = followed (begun label site) listing

-- a compound statement: what it declares is seen in its handlers and statements
abbrev pub declaring : Site → Point → List Declaration → List CursorDeclaration → Listing
declaring site p xs cursors n = let declared = with_declarations p xs in
    (in_declarations site.symbols p xs ++ in_cursors site.symbols declared cursors, (with_cursors declared cursors).1)

abbrev pub compound : Option Spelling → Site → List Declaration → List CursorDeclaration → List Part → List Part → Listing
compound label site xs cursors handlers statements n =
    let opened : Point = (Compound label undeclared ∷ site.scopes, n) in
    let within = in_scopes site (with_cursors (with_declarations opened xs) cursors).0 in
    followed (begun label site) (followed (declaring site opened xs cursors) (followed (all_of within handlers) (all_of within statements))) n

abbrev pub for_loop : Option Spelling → Site → ForHead → List Part → Listing
for_loop label site head statements n =
    let point = in_for site label head n in
    followed (begun label site) (followed (λ n. (in_head site head n, point.1)) (all_of (in_scopes site point.0) statements)) n

abbrev pub block_layer : Block-F BlockPart Part Part Part → BlockPart
block_layer (layers.Compound place atomic xs cursors handlers statements) label site = compound label site xs cursors handlers statements
block_layer (layers.Loop place statements) label site = looping label site (all_of (inside site (Loop label)) (several statements))
block_layer (layers.While place test statements) label site = looping label site (followed (only (expr_occurrences test site)) (all_of (inside site (Loop label)) (several statements)))
block_layer (layers.Repeat place statements until) label site = looping label site (followed (all_of (inside site (Loop label)) (several statements)) (only (expr_occurrences until site)))
block_layer (layers.For place head statements) label site = for_loop label site head (several statements)

abbrev pub statement_layer : Statement-F BlockPart Part Part Part → Part
statement_layer (layers.Block label block) site = block (label_name label) site
statement_layer (layers.If place branches otherwise) site = followed (all_of site (several branches)) (all_of site otherwise)
statement_layer (layers.Case place operand branches otherwise) site = followed (only (optional_occurrences site operand)) (followed (all_of site (several branches)) (all_of site otherwise))
statement_layer (layers.Simple simple) site = only (simple_occurrences site simple)

abbrev pub branch_layer : Branch-F BlockPart Part Part Part → Part
branch_layer branch site = followed (only (expr_occurrences branch.test site)) (all_of site (several branch.statements))

abbrev pub in_value : EnclosingScopes → HandlerValue → List Occurrence
in_value scopes (handled.State s) = StateName s ∷ []
in_value scopes (handled.Name n) = ConditionName n.name scopes ∷ []
in_value scopes (handled.SqlException place) = []
in_value scopes (handled.SqlWarning place) = []
in_value scopes (handled.NotFound place) = []

-- an action sees no label from outside
abbrev pub handler_layer : Handler-F BlockPart Part Part Part → Part
handler_layer h site = followed (only (together (map (in_value site.scopes) (several h.values)))) (h.action (inside site Action))

abbrev pub statement_occurrences : Statement → Part
statement_occurrences = fold-Statement BlockPart Part Part Part block_layer statement_layer branch_layer handler_layer

abbrev pub block_occurrences : Block → BlockPart
block_occurrences = fold-Block BlockPart Part Part Part block_layer statement_layer branch_layer handler_layer

abbrev pub branch_occurrences : Branch → Part
branch_occurrences = fold-Branch BlockPart Part Part Part block_layer statement_layer branch_layer handler_layer

abbrev pub handler_occurrences : Handler → Part
handler_occurrences = fold-Handler BlockPart Part Part Part block_layer statement_layer branch_layer handler_layer

-- ---- routines: the parameters are the first variables

abbrev pub with_parameters : Point → List Parameter → Point
with_parameters p [] = p
with_parameters p (x ∷ xs) = with_parameters (with_variable (type_known (type_of x.kind)) p x.name.name) xs

abbrev pub begin : Routine → Point
begin r = with_parameters (scope.Routine r.name.name undeclared ∷ [], record { variables = 0; cursors = 0; conditions = 0 }) r.parameters

abbrev pub parameter_names : List Parameter → List (Option Spelling)
parameter_names ps = map (λ p. Some p.name.name) ps

abbrev pub routine_occurrences : SymbolTable → Routine → List Occurrence
routine_occurrences symbols r = variables_from 0 (parameter_names r.parameters) ++ (statement_occurrences r.body (control symbols (begin r).0) (begin r).1).0
