-- Each declaration in a statement is numbered once and in order: an induction over statements.
use Rattle.std.proofs.Common.{◌≡◌, suc, Option, None, List, [], ◌∷◌, ◌++◌, length, map, refl, sym, ap, ◌∙◌, subst}
use Rattle.std.proofs.lemmas.List.{append_assoc, append-nil}
use Rattle.psm_list.specs.Several.{Several}
use Rattle.psm_scope.specs.Scopes.{Spelling, undeclared}
use Rattle.psm_scope.specs.Scopes as scope
use Rattle.psm_rules.specs.StatementFaults.{label_name}
use Rattle.psm_rules.specs.Types.{type_of}
use Rattle.psm_rules.specs.CheckerScope.{SymbolTable}
use Rattle.psm_tree.specs.declared.file.Parameter.{Parameter}
use Rattle.psm_tree.specs.declared.file.Routine.{Routine}
use Rattle.psm_tree.specs.declared.statement.Block.{Block, roll-Block}
use Rattle.psm_tree.specs.declared.statement.Branch.{Branch, roll-Branch}
use Rattle.psm_tree.specs.declared.statement.Handler.{Handler, roll-Handler}
use Rattle.psm_tree.specs.declared.statement.Statement.{Statement, roll-Statement}
use Rattle.psm_tree.specs.declared.statement.Block.TheOpen.{Statement-F, Block-F, Branch-F, Handler-F}
use Rattle.psm_tree.specs.declared.statement.Block.TheOpen as layers
use Rattle.psm_tree.specs.declared.statement.Block.TheFolds.{ind-Statement, map-Block, map-Statement, map-Branch, map-Handler, fold-roll-Block, fold-roll-Statement, fold-roll-Branch, fold-roll-Handler}
use Rattle.psm_resolved.specs.declared.statement.ResolvedBranch.{ResolvedBranch}
use Rattle.psm_resolved.specs.declared.statement.ResolvedHandler.{ResolvedHandler}
use Rattle.psm_resolved.specs.declared.statement.ResolvedStatement.{ResolvedStatement}
use Rattle.psm_resolve_expr.specs.Exprs.{type_known}
use Rattle.psm_resolve_expr.specs.ResolverScope.{ResolverScope}
use Rattle.psm_declare.specs.Numbering.{Numbering}
use Rattle.psm_declare.specs.Declarations.{Numbered, opened, numbered_by, numbered_cursors}
use Rattle.psm_resolve.specs.Blocks.{BlockPart, Part, all, block_layer, resolve_block, branch_layer, resolve_branch, handler_layer, resolve_handler, in_scopes, in_loop, inside, statement_layer, resolve_statement, numbered_head}
use Rattle.psm_resolve.specs.Files.{nothing_numbered, resolve_parameter, resolve_routine, routine_numbered, numbered_parameter, numbered_parameters}
use Rattle.psm_resolve.specs.OwnNumbers.{CountsUp, HasNumbersOfItsOwn, block_names_layer, branch_names_layer, handler_names_layer, names_layer, numbers_of, numbers_of_branch, numbers_of_handler, own_conditions, own_conditions_of_block, own_conditions_of_branch, own_conditions_of_handler}
use Rattle.psm_resolve.proofs.Counted.{Counted, all-counted, counted-as, counted-beside, counted-none, cursors-counted, declarations-counted, head-counted}
use Rattle.psm_resolve.proofs.NumbersOfForms.{numbers-Case, numbers-Compound, numbers-For, numbers-If, numbers-Loop, numbers-Repeat, numbers-Simple, numbers-While, numbers-block, numbers-branch, numbers-handler}

-- ---- what is claimed

abbrev OfStatement : Statement → Type 0
OfStatement s = (resolver_scope : ResolverScope) (n : Numbering) → Counted (numbers_of (resolve_statement s resolver_scope n).0) (own_conditions s) n (resolve_statement s resolver_scope n).1

abbrev OfBlock : Block → Type 0
OfBlock b = (label : Option Spelling) (resolver_scope : ResolverScope) (n : Numbering) → Counted (numbers_of (resolve_block b label resolver_scope n).0) (own_conditions_of_block b) n (resolve_block b label resolver_scope n).1

abbrev OfBranch : Branch → Type 0
OfBranch b = (resolver_scope : ResolverScope) (n : Numbering) → Counted (numbers_of_branch (resolve_branch b resolver_scope n).0) (own_conditions_of_branch b) n (resolve_branch b resolver_scope n).1

abbrev OfHandler : Handler → Type 0
OfHandler h = (resolver_scope : ResolverScope) (n : Numbering) → Counted (numbers_of_handler (resolve_handler h resolver_scope n).0) (own_conditions_of_handler h) n (resolve_handler h resolver_scope n).1

-- parts with what they prove
abbrev B : Type 0
B = (b : Block) × OfBlock b

abbrev S : Type 0
S = (s : Statement) × OfStatement s

abbrev R : Type 0
R = (b : Branch) × OfBranch b

abbrev H : Type 0
H = (h : Handler) × OfHandler h

abbrev Names : Type 0
Names = List Spelling

-- ---- statements

abbrev bare : Statement-F B S R H → Statement-F Block Statement Branch Handler
bare y = map-Statement B S R H Block Statement Branch Handler (λ e. e.0) (λ e. e.0) (λ e. e.0) (λ e. e.0) y

abbrev resolved_layer : Statement-F Block Statement Branch Handler → Part ResolvedStatement
resolved_layer layer = statement_layer (map-Statement Block Statement Branch Handler BlockPart (Part ResolvedStatement) (Part ResolvedBranch) (Part ResolvedHandler) resolve_block resolve_statement resolve_branch resolve_handler layer)

abbrev named_layer : Statement-F Block Statement Branch Handler → Names
named_layer layer = names_layer (map-Statement Block Statement Branch Handler Names Names Names Names own_conditions_of_block own_conditions own_conditions_of_branch own_conditions_of_handler layer)

-- branches and what stands after ELSE
abbrev branches_after : ResolverScope → Several R → Numbering → Numbering
branches_after resolver_scope branches n = (all resolver_scope (map resolve_branch (map (λ e. e.0) (branches.first ∷ branches.rest))) n).1

statement-claim : (y : Statement-F B S R H) (resolver_scope : ResolverScope) (n : Numbering) → Counted (numbers_of (resolved_layer (bare y) resolver_scope n).0) (named_layer (bare y)) n (resolved_layer (bare y) resolver_scope n).1
statement-claim (layers.Block label block) resolver_scope n = block.1 (label_name label) resolver_scope n
statement-claim (layers.If place branches otherwise) resolver_scope n =
    counted-as (numbers-If _ _)
    (counted-beside (all-counted resolve_branch numbers_of_branch own_conditions_of_branch resolver_scope (branches.first ∷ branches.rest) n)
    (all-counted resolve_statement numbers_of own_conditions resolver_scope otherwise (branches_after resolver_scope branches n)))
statement-claim (layers.Case place operand branches otherwise) resolver_scope n =
    counted-as (numbers-Case _ _ _)
    (counted-beside (all-counted resolve_branch numbers_of_branch own_conditions_of_branch resolver_scope (branches.first ∷ branches.rest) n)
    (all-counted resolve_statement numbers_of own_conditions resolver_scope otherwise (branches_after resolver_scope branches n)))
statement-claim (layers.Simple simple) resolver_scope n = counted-as (numbers-Simple _) (counted-none n)

statement-rolled : (y : Statement-F B S R H) → OfStatement (roll-Statement (bare y))
statement-rolled y resolver_scope n =
    subst (λ names. Counted (numbers_of (resolve_statement (roll-Statement (bare y)) resolver_scope n).0) names n (resolve_statement (roll-Statement (bare y)) resolver_scope n).1)
    (sym (fold-roll-Statement Names Names Names Names block_names_layer names_layer branch_names_layer handler_names_layer (bare y)))
    (subst (λ f. Counted (numbers_of (f resolver_scope n).0) (named_layer (bare y)) n (f resolver_scope n).1)
    (sym (fold-roll-Statement BlockPart (Part ResolvedStatement) (Part ResolvedBranch) (Part ResolvedHandler) block_layer statement_layer branch_layer handler_layer (bare y)))
    (statement-claim y resolver_scope n))

statement-step : (x : Statement-F Block Statement Branch Handler) (y : Statement-F B S R H) → bare y ≡ x → OfStatement (roll-Statement x)
statement-step x y is = subst (λ z. OfStatement (roll-Statement z)) is (statement-rolled y)

-- ---- blocks

abbrev bare_block : Block-F B S R H → Block-F Block Statement Branch Handler
bare_block y = map-Block B S R H Block Statement Branch Handler (λ e. e.0) (λ e. e.0) (λ e. e.0) (λ e. e.0) y

abbrev resolved_block_layer : Block-F Block Statement Branch Handler → BlockPart
resolved_block_layer layer = block_layer (map-Block Block Statement Branch Handler BlockPart (Part ResolvedStatement) (Part ResolvedBranch) (Part ResolvedHandler) resolve_block resolve_statement resolve_branch resolve_handler layer)

abbrev named_block_layer : Block-F Block Statement Branch Handler → Names
named_block_layer layer = block_names_layer (map-Block Block Statement Branch Handler Names Names Names Names own_conditions_of_block own_conditions own_conditions_of_branch own_conditions_of_handler layer)

block-claim : (y : Block-F B S R H) (label : Option Spelling) (resolver_scope : ResolverScope) (n : Numbering) → Counted (numbers_of (resolved_block_layer (bare_block y) label resolver_scope n).0) (named_block_layer (bare_block y)) n (resolved_block_layer (bare_block y) label resolver_scope n).1
block-claim (layers.Compound place atomic xs cursors handlers statements) label resolver_scope n =
    let before : Numbered = (opened label resolver_scope.scopes, n) in
    let declared : Numbered = numbered_by before xs in
    let numbered : Numbered = numbered_cursors declared cursors in
    let within : ResolverScope = in_scopes resolver_scope numbered.0 in
    let following : Numbering = (all within (map resolve_handler (map (λ e. e.0) handlers)) numbered.1).1 in
    counted-as (numbers-Compound _ _ ∙ numbers-block _)
    (counted-beside (declarations-counted resolver_scope.symbols before xs)
    (counted-beside (cursors-counted resolver_scope.symbols declared cursors)
    (counted-beside (all-counted resolve_handler numbers_of_handler own_conditions_of_handler within handlers numbered.1)
    (all-counted resolve_statement numbers_of own_conditions within statements following))))
block-claim (layers.Loop place statements) label resolver_scope n = counted-as (numbers-Loop _ _) (all-counted resolve_statement numbers_of own_conditions (in_loop label resolver_scope) (statements.first ∷ statements.rest) n)
block-claim (layers.While place test statements) label resolver_scope n = counted-as (numbers-While _ _ _) (all-counted resolve_statement numbers_of own_conditions (in_loop label resolver_scope) (statements.first ∷ statements.rest) n)
block-claim (layers.Repeat place statements until) label resolver_scope n = counted-as (numbers-Repeat _ _ _) (all-counted resolve_statement numbers_of own_conditions (in_loop label resolver_scope) (statements.first ∷ statements.rest) n)
block-claim (layers.For place head statements) label resolver_scope n =
    let numbered : Numbered = numbered_head resolver_scope label head n in
    counted-as (numbers-For _ _ _)
    (counted-beside (head-counted resolver_scope label head n)
    (all-counted resolve_statement numbers_of own_conditions (in_scopes resolver_scope numbered.0) (statements.first ∷ statements.rest) numbered.1))

block-rolled : (y : Block-F B S R H) → OfBlock (roll-Block (bare_block y))
block-rolled y label resolver_scope n =
    subst (λ names. Counted (numbers_of (resolve_block (roll-Block (bare_block y)) label resolver_scope n).0) names n (resolve_block (roll-Block (bare_block y)) label resolver_scope n).1)
    (sym (fold-roll-Block Names Names Names Names block_names_layer names_layer branch_names_layer handler_names_layer (bare_block y)))
    (subst (λ f. Counted (numbers_of (f label resolver_scope n).0) (named_block_layer (bare_block y)) n (f label resolver_scope n).1)
    (sym (fold-roll-Block BlockPart (Part ResolvedStatement) (Part ResolvedBranch) (Part ResolvedHandler) block_layer statement_layer branch_layer handler_layer (bare_block y)))
    (block-claim y label resolver_scope n))

block-step : (x : Block-F Block Statement Branch Handler) (y : Block-F B S R H) → bare_block y ≡ x → OfBlock (roll-Block x)
block-step x y is = subst (λ z. OfBlock (roll-Block z)) is (block-rolled y)

-- ---- branches and handlers

abbrev bare_branch : Branch-F B S R H → Branch-F Block Statement Branch Handler
bare_branch y = map-Branch B S R H Block Statement Branch Handler (λ e. e.0) (λ e. e.0) (λ e. e.0) (λ e. e.0) y

branch-rolled : (y : Branch-F B S R H) → OfBranch (roll-Branch (bare_branch y))
branch-rolled y resolver_scope n =
    subst (λ names. Counted (numbers_of_branch (resolve_branch (roll-Branch (bare_branch y)) resolver_scope n).0) names n (resolve_branch (roll-Branch (bare_branch y)) resolver_scope n).1)
    (sym (fold-roll-Branch Names Names Names Names block_names_layer names_layer branch_names_layer handler_names_layer (bare_branch y)))
    (subst (λ f. Counted (numbers_of_branch (f resolver_scope n).0) (branch_names_layer (map-Branch Block Statement Branch Handler Names Names Names Names own_conditions_of_block own_conditions own_conditions_of_branch own_conditions_of_handler (bare_branch y))) n (f resolver_scope n).1)
    (sym (fold-roll-Branch BlockPart (Part ResolvedStatement) (Part ResolvedBranch) (Part ResolvedHandler) block_layer statement_layer branch_layer handler_layer (bare_branch y)))
    (counted-as (numbers-branch _) (all-counted resolve_statement numbers_of own_conditions resolver_scope (y.statements.first ∷ y.statements.rest) n)))

branch-step : (x : Branch-F Block Statement Branch Handler) (y : Branch-F B S R H) → bare_branch y ≡ x → OfBranch (roll-Branch x)
branch-step x y is = subst (λ z. OfBranch (roll-Branch z)) is (branch-rolled y)

abbrev bare_handler : Handler-F B S R H → Handler-F Block Statement Branch Handler
bare_handler y = map-Handler B S R H Block Statement Branch Handler (λ e. e.0) (λ e. e.0) (λ e. e.0) (λ e. e.0) y

handler-rolled : (y : Handler-F B S R H) → OfHandler (roll-Handler (bare_handler y))
handler-rolled y resolver_scope n =
    subst (λ names. Counted (numbers_of_handler (resolve_handler (roll-Handler (bare_handler y)) resolver_scope n).0) names n (resolve_handler (roll-Handler (bare_handler y)) resolver_scope n).1)
    (sym (fold-roll-Handler Names Names Names Names block_names_layer names_layer branch_names_layer handler_names_layer (bare_handler y)))
    (subst (λ f. Counted (numbers_of_handler (f resolver_scope n).0) (own_conditions y.action.0) n (f resolver_scope n).1)
    (sym (fold-roll-Handler BlockPart (Part ResolvedStatement) (Part ResolvedBranch) (Part ResolvedHandler) block_layer statement_layer branch_layer handler_layer (bare_handler y)))
    (counted-as (numbers-handler _) (y.action.1 (inside resolver_scope scope.Action) n)))

handler-step : (x : Handler-F Block Statement Branch Handler) (y : Handler-F B S R H) → bare_handler y ≡ x → OfHandler (roll-Handler x)
handler-step x y is = subst (λ z. OfHandler (roll-Handler z)) is (handler-rolled y)

claimed : (s : Statement) → OfStatement s
claimed = ind-Statement OfBlock OfStatement OfBranch OfHandler block-step statement-step branch-step handler-step

-- ---- routines

parameter-slots : (numbered : Numbered) (ps : List Parameter) → (numbered_parameters numbered ps).1.slots ≡ numbered.1.slots ++ map (λ p. type_known (type_of p.kind)) ps
parameter-slots numbered [] = sym (append-nil numbered.1.slots)
parameter-slots numbered (p ∷ ps) = parameter-slots (numbered_parameter numbered p) ps ∙ append_assoc numbered.1.slots (type_known (type_of p.kind) ∷ []) (map (λ q. type_known (type_of q.kind)) ps)

parameter-cursors : (numbered : Numbered) (ps : List Parameter) → (numbered_parameters numbered ps).1.cursors ≡ numbered.1.cursors
parameter-cursors numbered [] = refl
parameter-cursors numbered (p ∷ ps) = parameter-cursors (numbered_parameter numbered p) ps

parameter-conditions : (numbered : Numbered) (ps : List Parameter) → (numbered_parameters numbered ps).1.conditions ≡ numbered.1.conditions
parameter-conditions numbered [] = refl
parameter-conditions numbered (p ∷ ps) = parameter-conditions (numbered_parameter numbered p) ps

as_long : {A B C : Type 0} (f : A → B) (g : A → C) (xs : List A) → length (map f xs) ≡ length (map g xs)
as_long f g [] = refl
as_long f g (x ∷ xs) = ap suc (as_long f g xs)

-- the first slots are the parameters'
abbrev start : Routine → Numbered
start r = (scope.Routine r.name.name undeclared ∷ [], nothing_numbered)

abbrev body_counted : (symbols : SymbolTable) (r : Routine) → Counted (numbers_of (resolve_routine symbols r).body) (own_conditions r.body) (routine_numbered r).1 (resolve_statement r.body (record { symbols = symbols; scopes = (routine_numbered r).0; row = None }) (routine_numbered r).1).1
body_counted symbols r = claimed r.body (record { symbols = symbols; scopes = (routine_numbered r).0; row = None }) (routine_numbered r).1

pub each-own : (symbols : SymbolTable) (r : Routine) → HasNumbersOfItsOwn (resolve_routine symbols r)
each-own symbols r = record {
  slots = subst (λ k. CountsUp k (numbers_of (resolve_routine symbols r).body).slots (length (resolve_routine symbols r).slots))
      (ap length (parameter-slots (start r) r.parameters) ∙ as_long (λ p. type_known (type_of p.kind)) resolve_parameter r.parameters)
      (body_counted symbols r).slots;
  cursors = subst (λ k. CountsUp k (numbers_of (resolve_routine symbols r).body).cursors (resolve_routine symbols r).cursors)
      (parameter-cursors (start r) r.parameters)
      (body_counted symbols r).cursors;
}

pub own-conditions : (symbols : SymbolTable) (r : Routine) → (resolve_routine symbols r).conditions ≡ own_conditions r.body
own-conditions symbols r = (body_counted symbols r).conditions ∙ ap (λ names. names ++ own_conditions r.body) (parameter-conditions (start r) r.parameters)
