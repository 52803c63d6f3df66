-- The referents of a resolved statement are those that look-up gives for its occurrences: an induction over statements.
use Rattle.std.proofs.Common.{◌≡◌, ℕ, suc, Bool, List, [], ◌∷◌, ◌++◌, length, map, Option, Some, None, refl, ap, sym, ◌∙◌, subst}
use Rattle.psm_scope.specs.Scopes.{Spelling, undeclared}
use Rattle.psm_scope.specs.Scopes as scope
use Rattle.psm_scope.specs.Lookup as lookup
use Rattle.psm_rules.specs.StatementFaults.{good_state, label_name, several}
use Rattle.psm_rules.specs.CheckerScope.{SymbolTable}
use Rattle.psm_tree.specs.declared.name.Identifier.{Identifier}
use Rattle.psm_tree.specs.declared.file.Parameter.{Parameter}
use Rattle.psm_tree.specs.declared.file.Routine.{Routine}
use Rattle.psm_tree.specs.declared.statement.Block.{Block, roll-Block}
use Rattle.psm_tree.specs.declared.statement.Branch.{Branch, roll-Branch}
use Rattle.psm_tree.specs.declared.statement.CursorDeclaration.{CursorDeclaration}
use Rattle.psm_tree.specs.declared.statement.Declaration.{Declaration}
use Rattle.psm_tree.specs.declared.statement.Declaration.TheVariants as declarations
use Rattle.psm_tree.specs.declared.statement.ForHead.{ForHead}
use Rattle.psm_tree.specs.declared.statement.Handler.{Handler, roll-Handler}
use Rattle.psm_tree.specs.declared.statement.HandlerValue.{HandlerValue}
use Rattle.psm_tree.specs.declared.statement.HandlerValue.TheVariants as handled
use Rattle.psm_tree.specs.declared.statement.OrderedQuery.{OrderedQuery}
use Rattle.psm_tree.specs.declared.statement.Statement.{Statement, roll-Statement}
use Rattle.psm_tree.specs.declared.types.State.{State}
use Rattle.psm_tree.specs.declared.statement.Block.TheOpen.{Statement-F, Block-F, Branch-F, Handler-F}
use Rattle.psm_tree.specs.declared.statement.Block.TheOpen as layers
use Rattle.psm_tree.specs.declared.statement.Block.TheFolds.{ind-Statement, map-Block, map-Statement, map-Branch, map-Handler, fold-roll-Block, fold-roll-Statement, fold-roll-Branch, fold-roll-Handler}
use Rattle.psm_resolved.specs.declared.expr.ResolvedQuery.{ResolvedQuery, out-ResolvedQuery, roll-out-ResolvedQuery}
use Rattle.psm_resolved.specs.declared.statement.ResolvedBranch.{ResolvedBranch}
use Rattle.psm_resolved.specs.declared.statement.ResolvedCondition.{ResolvedCondition}
use Rattle.psm_resolved.specs.declared.statement.ResolvedCondition.TheVariants as conditions
use Rattle.psm_resolved.specs.declared.statement.ResolvedHandler.{ResolvedHandler}
use Rattle.psm_resolved.specs.declared.statement.ResolvedStatement.{ResolvedStatement}
use Rattle.psm_resolve_expr.specs.Exprs.{resolve_query}
use Rattle.psm_resolve_expr.specs.ResolverScope.{ResolverScope, Scopes}
use Rattle.psm_declare.specs.Numbering.{Numbering, next_slot}
use Rattle.psm_declare.specs.Declarations.{Numbered, cursors_of, declarations_of, is_downward, numbered_after, numbered_by, numbered_cursor, numbered_cursors, opened, ordered, ordered_query, slots_from}
use Rattle.psm_resolve.specs.Blocks as resolving
use Rattle.psm_resolve.specs.Blocks.{ForItem, all, block_layer, branch_layer, for_items, handler_layer, head_of, in_scopes, in_loop, inside, item_slots, numbered_head, resolve_block, resolve_branch, resolve_handler, resolve_statement, statement_layer, value_for, value_of}
use Rattle.psm_resolve.specs.Files.{resolve_parameter, resolve_routine, routine_numbered}
use Rattle.psm_resolve.specs.Statements.{declared_as}
use Rattle.psm_names.specs.Referents.{Referent, Condition, Block as BlockReferent, Declaration as DeclarationOf, together}
use Rattle.psm_names.specs.Occurrences.{Declared, Occurrence, Site, looked_up, of_declared}
use Rattle.psm_names.specs.ExprOccurrences.{expr_occurrences, query_occurrences}
use Rattle.psm_names.specs.ExprReferents.{query_referents}
use Rattle.psm_names.specs.Declaring.{Ordinals, Point, control, in_cursors, in_declarations, in_for, in_head, condition_declared, item_names, names_of, optional_occurrences, stated, variables_from, with_cursors, with_declarations}
use Rattle.psm_names.specs.StatementOccurrences as places
use Rattle.psm_names.specs.StatementOccurrences.{Listing, all_of, begin, begun, block_occurrences, branch_occurrences, declaring, followed, handler_occurrences, in_value, only, parameter_names, routine_occurrences, statement_occurrences}
use Rattle.psm_names.specs.StatementReferents.{branch_referents, handler_referents, of_cursor, of_declaration, of_head, declaring_slots, of_value, routine_referents, slots_from as counted_from, statement_referents}
use Rattle.psm_names.specs.Sites.{known, site_of}
use Rattle.psm_names.proofs.Knowing.{levels-known}
use Rattle.psm_names.proofs.LookedUp.{Gives, gives-as, gives-both, gives-none, gives-one}
use Rattle.psm_names.proofs.Exprs.{expr-gives, query-gives}
use Rattle.psm_names.proofs.Points.{begin-point, cursor-point, cursors-point, declaration-point, declarations-point, head-point, items-same, ordinals, point}
use Rattle.psm_names.proofs.Simples.{named-condition, optional-gives, simple-gives, state-is}
use Rattle.psm_names.proofs.ReferentsOfForms.{referents-query}
use Rattle.psm_names.proofs.ReferentsOfStatements.{standing-Case, standing-Compound, standing-For, standing-If, standing-Loop, standing-Repeat, standing-Simple, standing-While, standing-block, standing-branch, standing-handler}

-- ---- listings

-- the referents are those of the occurrences, after which so much is declared
pub record Lists (symbols : SymbolTable) (x : List Referent) (m : Ordinals) (l : List Occurrence × Ordinals) : Type 0 where
  pub gives : Gives symbols x l.0
  pub after : m ≡ l.1

lists-as : {symbols : SymbolTable} {x y : List Referent} {m : Ordinals} {l : List Occurrence × Ordinals} → x ≡ y → Lists symbols y m l → Lists symbols x m l
lists-as e h = record { gives = gives-as e h.gives; after = h.after }

lists-only : {symbols : SymbolTable} {x : List Referent} {os : List Occurrence} (n : Ordinals) → Gives symbols x os → Lists symbols x n (os, n)
lists-only n h = record { gives = h; after = refl }

lists-then : {symbols : SymbolTable} {x y : List Referent} {n m k : Ordinals} (f g : Listing) → Lists symbols x m (f n) → Lists symbols y k (g m) → Lists symbols (x ++ y) k (followed f g n)
lists-then {symbols} {x} {y} {n} {m} {k} f g h j =
    let j' : Lists symbols y k (g (f n).1) = subst (λ z. Lists symbols y k (g z)) h.after j in
    record { gives = gives-both h.gives j'.gives; after = j'.after }

-- a block begins
lists-begun : {x : List Referent} {n m : Ordinals} (label : Option Spelling) (s : ResolverScope) (f : Listing) → Lists s.symbols x m (f n) → Lists s.symbols (DeclarationOf (BlockReferent (length s.scopes)) ∷ x) m (followed (begun label (site_of s)) f n)
lists-begun label s f h = record { gives = gives-one (ap (λ k. DeclarationOf (BlockReferent k) ∷ []) (sym (levels-known s.scopes))) h.gives; after = h.after }

-- ---- declarations

slots-give : (symbols : SymbolTable) (k : ℕ) (ns : List Identifier) → Gives symbols (declaring_slots (slots_from k ns)) (variables_from k (names_of ns))
slots-give symbols k [] = gives-none
slots-give symbols k (n ∷ ns) = gives-one refl (slots-give symbols (suc k) ns)

items-give : (symbols : SymbolTable) (k : ℕ) (is : List ForItem) → Gives symbols (declaring_slots (item_slots k is)) (variables_from k (item_names is))
items-give symbols k [] = gives-none
items-give symbols k (i ∷ is) = gives-one refl (items-give symbols (suc k) is)

abbrev at_control : SymbolTable → Scopes → ResolverScope
at_control symbols scopes = record { symbols = symbols; scopes = scopes; row = None }

-- no declaration of a condition is kept
stated-kept : (s : Option Spelling) → of_declared (stated s) ≡ []
stated-kept None = refl
stated-kept (Some s) = refl

condition-kept : (k : ℕ) (state : Option State) → of_declared (condition_declared k state) ≡ []
condition-kept k None = refl
condition-kept k (Some s) = stated-kept (good_state s.text)

gives-kept : {symbols : SymbolTable} {name : Option Spelling} {r : Referent} {x : List Referent} {os : List Occurrence} → of_declared r ≡ [] → Gives symbols x os → Gives symbols x (Declared name r ∷ os)
gives-kept {symbols} {name} {r} {x} {os} e h = record { is = h.is ∙ ap (λ l. l ++ looked_up symbols os) (sym e) }

declarations-give : (symbols : SymbolTable) (numbered : Numbered) (xs : List Declaration) → Gives symbols (together (map of_declaration (declarations_of symbols numbered xs))) (in_declarations symbols (point numbered) xs)
declarations-give symbols numbered [] = gives-none
declarations-give symbols numbered (declarations.Variables place names kind default ∷ xs) =
    gives-both (gives-both (slots-give symbols (next_slot numbered.1) (several names)) (optional-gives (at_control symbols numbered.0) default))
    (subst (λ p. Gives symbols (together (map of_declaration (declarations_of symbols (numbered_after numbered (declarations.Variables place names kind default)) xs))) (in_declarations symbols p xs))
    (declaration-point numbered (declarations.Variables place names kind default))
    (declarations-give symbols (numbered_after numbered (declarations.Variables place names kind default)) xs))
declarations-give symbols numbered (declarations.Condition place name state ∷ xs) =
    gives-kept (condition-kept (ordinals numbered.1).conditions state)
    (subst (λ p. Gives symbols (together (map of_declaration (declarations_of symbols (numbered_after numbered (declarations.Condition place name state)) xs))) (in_declarations symbols p xs))
    (declaration-point numbered (declarations.Condition place name state))
    (declarations-give symbols (numbered_after numbered (declarations.Condition place name state)) xs))

-- ---- cursors: an order leaves no name

ordered-same : (downward : Bool) (q : ResolvedQuery) → query_referents (ordered downward q) ≡ query_referents q
ordered-same downward q = let o = out-ResolvedQuery q in
    referents-query o.table downward o.items o.test ∙ sym (referents-query o.table o.downward o.items o.test) ∙ ap query_referents (roll-out-ResolvedQuery q)

ordered-gives : (s : ResolverScope) (q : OrderedQuery) → Gives s.symbols (query_referents (ordered_query s q)) (query_occurrences q.query (site_of s))
ordered-gives s q = gives-as (ordered-same (is_downward q.order) (resolve_query q.query s).query) (query-gives q.query s)

cursors-give : (symbols : SymbolTable) (numbered : Numbered) (xs : List CursorDeclaration) → Gives symbols (together (map of_cursor (cursors_of symbols numbered xs))) (in_cursors symbols (point numbered) xs)
cursors-give symbols numbered [] = gives-none
cursors-give symbols numbered (x ∷ xs) =
    gives-one refl
    (gives-both (ordered-gives (at_control symbols numbered.0) x.query)
    (subst (λ p. Gives symbols (together (map of_cursor (cursors_of symbols (numbered_cursor numbered x) xs))) (in_cursors symbols p xs)) (cursor-point numbered x) (cursors-give symbols (numbered_cursor numbered x) xs)))

head-gives : (s : ResolverScope) (head : ForHead) (n : Numbering) → Gives s.symbols (of_head (head_of s head n)) (in_head (site_of s) head (ordinals n))
head-gives s head n =
    gives-one refl
    (gives-both (ordered-gives s head.query)
    (subst (λ is. Gives s.symbols (declaring_slots (item_slots (next_slot n) (for_items s head.query.query))) (variables_from (next_slot n) (item_names is))) (items-same s head.query.query) (items-give s.symbols (next_slot n) (for_items s head.query.query))))

declaring-lists : (s : ResolverScope) (numbered : Numbered) (xs : List Declaration) (cursors : List CursorDeclaration) →
    let declared = numbered_by numbered xs in
    Lists s.symbols (together (map of_declaration (declarations_of s.symbols numbered xs)) ++ together (map of_cursor (cursors_of s.symbols declared cursors))) (ordinals (numbered_cursors declared cursors).1)
    (in_declarations s.symbols (point numbered) xs ++ in_cursors s.symbols (with_declarations (point numbered) xs) cursors, (with_cursors (with_declarations (point numbered) xs) cursors).1)
declaring-lists s numbered xs cursors =
    let declared : Numbered = numbered_by numbered xs in
    let is : point declared ≡ with_declarations (point numbered) xs = declarations-point numbered xs in
    record {
      gives = gives-both (declarations-give s.symbols numbered xs) (subst (λ p. Gives s.symbols (together (map of_cursor (cursors_of s.symbols declared cursors))) (in_cursors s.symbols p cursors)) is (cursors-give s.symbols declared cursors));
      after = ap (λ p. p.1) (cursors-point declared cursors ∙ ap (λ p. with_cursors p cursors) is);
    }

-- ---- handlers

condition-value : (c : ResolvedCondition) → of_value (value_for c) ≡ Condition c ∷ []
condition-value (conditions.State s) = refl
condition-value (conditions.Own n) = refl

value-gives : (s : ResolverScope) (v : HandlerValue) → Gives s.symbols (of_value (value_of s.scopes v)) (in_value (known s.scopes) v)
value-gives s (handled.State state) = gives-one (ap (λ c. Condition c ∷ []) (state-is state)) gives-none
value-gives s (handled.Name n) = gives-as (condition-value (declared_as (lookup.condition n.name s.scopes))) (gives-one (ap (λ c. Condition c ∷ []) (named-condition s.scopes n.name)) gives-none)
value-gives s (handled.SqlException place) = gives-none
value-gives s (handled.SqlWarning place) = gives-none
value-gives s (handled.NotFound place) = gives-none

values-give : (s : ResolverScope) (vs : List HandlerValue) → Gives s.symbols (together (map of_value (map (value_of s.scopes) vs))) (together (map (in_value (known s.scopes)) vs))
values-give s [] = gives-none
values-give s (v ∷ vs) = gives-both (value-gives s v) (values-give s vs)

-- ---- what is claimed

abbrev OfStatement : Statement → Type 0
OfStatement t = (s : ResolverScope) (n : Numbering) → Lists s.symbols (statement_referents (resolve_statement t s n).0) (ordinals (resolve_statement t s n).1) (statement_occurrences t (site_of s) (ordinals n))

abbrev OfBlock : Block → Type 0
OfBlock b = (label : Option Spelling) (s : ResolverScope) (n : Numbering) → Lists s.symbols (statement_referents (resolve_block b label s n).0) (ordinals (resolve_block b label s n).1) (block_occurrences b label (site_of s) (ordinals n))

abbrev OfBranch : Branch → Type 0
OfBranch b = (s : ResolverScope) (n : Numbering) → Lists s.symbols (branch_referents (resolve_branch b s n).0) (ordinals (resolve_branch b s n).1) (branch_occurrences b (site_of s) (ordinals n))

abbrev OfHandler : Handler → Type 0
OfHandler h = (s : ResolverScope) (n : Numbering) → Lists s.symbols (handler_referents (resolve_handler h s n).0) (ordinals (resolve_handler h s n).1) (handler_occurrences h (site_of s) (ordinals n))

-- parts with what they prove
abbrev B : Type 0
B = (b : Block) × OfBlock b

abbrev S : Type 0
S = (s : Statement) × OfStatement s

abbrev P : Type 0
P = (b : Branch) × OfBranch b

abbrev H : Type 0
H = (h : Handler) × OfHandler h

-- parts in turn
all-list : {X A : Type 0} (part : X → resolving.Part A) (g : A → List Referent) (in_part : X → places.Part) (s : ResolverScope) (ys : List ((x : X) × ((s : ResolverScope) (n : Numbering) → Lists s.symbols (g (part x s n).0) (ordinals (part x s n).1) (in_part x (site_of s) (ordinals n))))) (n : Numbering)
    → Lists s.symbols (together (map g (all s (map part (map (λ y. y.0) ys)) n).0)) (ordinals (all s (map part (map (λ y. y.0) ys)) n).1) (all_of (site_of s) (map in_part (map (λ y. y.0) ys)) (ordinals n))
all-list part g in_part s [] n = lists-only (ordinals n) gives-none
all-list part g in_part s (y ∷ ys) n = lists-then (in_part y.0 (site_of s)) (all_of (site_of s) (map in_part (map (λ y. y.0) ys))) (y.1 s n) (all-list part g in_part s ys (part y.0 s n).1)

statements-list : (s : ResolverScope) (ys : List S) (n : Numbering) → Lists s.symbols (together (map statement_referents (all s (map resolve_statement (map (λ y. y.0) ys)) n).0)) (ordinals (all s (map resolve_statement (map (λ y. y.0) ys)) n).1) (all_of (site_of s) (map statement_occurrences (map (λ y. y.0) ys)) (ordinals n))
statements-list s ys n = all-list resolve_statement statement_referents statement_occurrences s ys n

branches-list : (s : ResolverScope) (ys : List P) (n : Numbering) → Lists s.symbols (together (map branch_referents (all s (map resolve_branch (map (λ y. y.0) ys)) n).0)) (ordinals (all s (map resolve_branch (map (λ y. y.0) ys)) n).1) (all_of (site_of s) (map branch_occurrences (map (λ y. y.0) ys)) (ordinals n))
branches-list s ys n = all-list resolve_branch branch_referents branch_occurrences s ys n

handlers-list : (s : ResolverScope) (ys : List H) (n : Numbering) → Lists s.symbols (together (map handler_referents (all s (map resolve_handler (map (λ y. y.0) ys)) n).0)) (ordinals (all s (map resolve_handler (map (λ y. y.0) ys)) n).1) (all_of (site_of s) (map handler_occurrences (map (λ y. y.0) ys)) (ordinals n))
handlers-list s ys n = all-list resolve_handler handler_referents handler_occurrences s ys n

abbrev steps : List S → List places.Part
steps ys = map statement_occurrences (map (λ y. y.0) ys)

abbrev branching : List P → List places.Part
branching ys = map branch_occurrences (map (λ y. y.0) ys)

abbrev handling : List H → List places.Part
handling ys = map handler_occurrences (map (λ y. y.0) ys)

-- ---- statements

abbrev bare : Statement-F B S P H → Statement-F Block Statement Branch Handler
bare y = map-Statement B S P H Block Statement Branch Handler (λ e. e.0) (λ e. e.0) (λ e. e.0) (λ e. e.0) y

abbrev resolved_layer : Statement-F Block Statement Branch Handler → resolving.Part ResolvedStatement
resolved_layer layer = statement_layer (map-Statement Block Statement Branch Handler resolving.BlockPart (resolving.Part ResolvedStatement) (resolving.Part ResolvedBranch) (resolving.Part ResolvedHandler) resolve_block resolve_statement resolve_branch resolve_handler layer)

abbrev listed_layer : Statement-F Block Statement Branch Handler → places.Part
listed_layer layer = places.statement_layer (map-Statement Block Statement Branch Handler places.BlockPart places.Part places.Part places.Part block_occurrences statement_occurrences branch_occurrences handler_occurrences layer)

statement-claim : (y : Statement-F B S P H) (s : ResolverScope) (n : Numbering) → Lists s.symbols (statement_referents (resolved_layer (bare y) s n).0) (ordinals (resolved_layer (bare y) s n).1) (listed_layer (bare y) (site_of s) (ordinals n))
statement-claim (layers.Block label block) s n = block.1 (label_name label) s n
statement-claim (layers.If place branches otherwise) s n =
    let bs : List P = branches.first ∷ branches.rest in
    lists-as (standing-If _ _)
    (lists-then (all_of (site_of s) (branching bs)) (all_of (site_of s) (steps otherwise)) (branches-list s bs n)
    (statements-list s otherwise (all s (map resolve_branch (map (λ y. y.0) bs)) n).1))
statement-claim (layers.Case place operand branches otherwise) s n =
    let bs : List P = branches.first ∷ branches.rest in
    lists-as (standing-Case _ _ _)
    (lists-then (only (optional_occurrences (site_of s) operand)) (followed (all_of (site_of s) (branching bs)) (all_of (site_of s) (steps otherwise))) (lists-only (ordinals n) (optional-gives s operand))
    (lists-then (all_of (site_of s) (branching bs)) (all_of (site_of s) (steps otherwise)) (branches-list s bs n)
    (statements-list s otherwise (all s (map resolve_branch (map (λ y. y.0) bs)) n).1)))
statement-claim (layers.Simple simple) s n = lists-as (standing-Simple _) (lists-only (ordinals n) (simple-gives s simple))

statement-step : (x : Statement-F Block Statement Branch Handler) (y : Statement-F B S P H) → bare y ≡ x → OfStatement (roll-Statement x)
statement-step x y is s n =
    subst (λ z. Lists s.symbols (statement_referents (resolve_statement (roll-Statement z) s n).0) (ordinals (resolve_statement (roll-Statement z) s n).1) (statement_occurrences (roll-Statement z) (site_of s) (ordinals n))) is
    (subst (λ f. Lists s.symbols (statement_referents (resolve_statement (roll-Statement (bare y)) s n).0) (ordinals (resolve_statement (roll-Statement (bare y)) s n).1) (f (site_of s) (ordinals n)))
    (sym (fold-roll-Statement places.BlockPart places.Part places.Part places.Part places.block_layer places.statement_layer places.branch_layer places.handler_layer (bare y)))
    (subst (λ f. Lists s.symbols (statement_referents (f s n).0) (ordinals (f s n).1) (listed_layer (bare y) (site_of s) (ordinals n)))
    (sym (fold-roll-Statement resolving.BlockPart (resolving.Part ResolvedStatement) (resolving.Part ResolvedBranch) (resolving.Part ResolvedHandler) block_layer statement_layer branch_layer handler_layer (bare y)))
    (statement-claim y s n)))

-- ---- blocks

abbrev bare_block : Block-F B S P H → Block-F Block Statement Branch Handler
bare_block y = map-Block B S P H Block Statement Branch Handler (λ e. e.0) (λ e. e.0) (λ e. e.0) (λ e. e.0) y

abbrev resolved_block : Block-F Block Statement Branch Handler → resolving.BlockPart
resolved_block layer = block_layer (map-Block Block Statement Branch Handler resolving.BlockPart (resolving.Part ResolvedStatement) (resolving.Part ResolvedBranch) (resolving.Part ResolvedHandler) resolve_block resolve_statement resolve_branch resolve_handler layer)

abbrev listed_block : Block-F Block Statement Branch Handler → places.BlockPart
listed_block layer = places.block_layer (map-Block Block Statement Branch Handler places.BlockPart places.Part places.Part places.Part block_occurrences statement_occurrences branch_occurrences handler_occurrences layer)

-- the site in some scopes
abbrev where_it_is : ResolverScope → Point → Site
where_it_is s p = places.in_scopes (site_of s) p.0

compound-claim : (xs : List Declaration) (cursors : List CursorDeclaration) (handlers : List H) (statements : List S) (label : Option Spelling) (s : ResolverScope) (n : Numbering) →
    let before : Numbered = (opened label s.scopes, n) in
    let declared : Numbered = numbered_by before xs in
    let numbered : Numbered = numbered_cursors declared cursors in
    let within : ResolverScope = in_scopes s numbered.0 in
    let hs = all within (map resolve_handler (map (λ y. y.0) handlers)) numbered.1 in
    let ss = all within (map resolve_statement (map (λ y. y.0) statements)) hs.1 in
    Lists s.symbols (DeclarationOf (BlockReferent (length s.scopes)) ∷ ((together (map of_declaration (declarations_of s.symbols before xs)) ++ together (map of_cursor (cursors_of s.symbols declared cursors))) ++ (together (map handler_referents hs.0) ++ together (map statement_referents ss.0)))) (ordinals ss.1)
    (places.compound label (site_of s) xs cursors (handling handlers) (steps statements) (ordinals n))
compound-claim xs cursors handlers statements label s n =
    let before : Numbered = (opened label s.scopes, n) in
    let declared : Numbered = numbered_by before xs in
    let numbered : Numbered = numbered_cursors declared cursors in
    let within : ResolverScope = in_scopes s numbered.0 in
    let hs = all within (map resolve_handler (map (λ y. y.0) handlers)) numbered.1 in
    let ss = all within (map resolve_statement (map (λ y. y.0) statements)) hs.1 in
    let after : Point = with_cursors (with_declarations (point before) xs) cursors in
    let is : point numbered ≡ after = cursors-point declared cursors ∙ ap (λ p. with_cursors p cursors) (declarations-point before xs) in
    let own : Listing = declaring (site_of s) (point before) xs cursors in
    let rest : Point → Listing = λ p. followed (all_of (where_it_is s p) (handling handlers)) (all_of (where_it_is s p) (steps statements)) in
    lists-begun {n = ordinals n} label s (followed own (rest after))
    (lists-then {n = ordinals n} own (rest after) (declaring-lists s before xs cursors)
    (subst (λ p. Lists s.symbols (together (map handler_referents hs.0) ++ together (map statement_referents ss.0)) (ordinals ss.1) (rest p (ordinals numbered.1))) is
    (lists-then (all_of (site_of within) (handling handlers)) (all_of (site_of within) (steps statements)) (handlers-list within handlers numbered.1) (statements-list within statements hs.1))))

block-claim : (y : Block-F B S P H) (label : Option Spelling) (s : ResolverScope) (n : Numbering) → Lists s.symbols (statement_referents (resolved_block (bare_block y) label s n).0) (ordinals (resolved_block (bare_block y) label s n).1) (listed_block (bare_block y) label (site_of s) (ordinals n))
block-claim (layers.Compound place atomic xs cursors handlers statements) label s n = lists-as (standing-Compound _ _ ∙ ap (λ l. DeclarationOf (BlockReferent (length s.scopes)) ∷ l) (standing-block _)) (compound-claim xs cursors handlers statements label s n)
block-claim (layers.Loop place statements) label s n =
    let ys : List S = statements.first ∷ statements.rest in
    lists-as (standing-Loop _ _) (lists-begun label s (all_of (site_of (in_loop label s)) (steps ys)) (statements-list (in_loop label s) ys n))
block-claim (layers.While place test statements) label s n =
    let ys : List S = statements.first ∷ statements.rest in
    let rest : Listing = all_of (site_of (in_loop label s)) (steps ys) in
    lists-as (standing-While _ _ _) (lists-begun label s (followed (only (expr_occurrences test (site_of s))) rest) (lists-then (only (expr_occurrences test (site_of s))) rest (lists-only (ordinals n) (expr-gives test s)) (statements-list (in_loop label s) ys n)))
block-claim (layers.Repeat place statements until) label s n =
    let ys : List S = statements.first ∷ statements.rest in
    let first : Listing = all_of (site_of (in_loop label s)) (steps ys) in
    let last : Listing = only (expr_occurrences until (site_of s)) in
    let m : Numbering = (all (in_loop label s) (map resolve_statement (map (λ y. y.0) ys)) n).1 in
    lists-as (standing-Repeat _ _ _) (lists-begun label s (followed first last) (lists-then first last (statements-list (in_loop label s) ys n) (lists-only (ordinals m) (expr-gives until s))))
block-claim (layers.For place head statements) label s n =
    let ys : List S = statements.first ∷ statements.rest in
    let numbered : Numbered = numbered_head s label head n in
    let within : ResolverScope = in_scopes s numbered.0 in
    let ss = all within (map resolve_statement (map (λ y. y.0) ys)) numbered.1 in
    let after : Point = in_for (site_of s) label head (ordinals n) in
    let is : point numbered ≡ after = head-point s label head n in
    let own : Listing = λ m. (in_head (site_of s) head m, after.1) in
    let rest : Point → Listing = λ p. all_of (where_it_is s p) (steps ys) in
    lists-as (standing-For _ _ _)
    (lists-begun {n = ordinals n} label s (followed own (rest after))
    (lists-then {n = ordinals n} own (rest after) (record { gives = head-gives s head n; after = ap (λ p. p.1) is })
    (subst (λ p. Lists s.symbols (together (map statement_referents ss.0)) (ordinals ss.1) (rest p (ordinals numbered.1))) is (statements-list within ys numbered.1))))

block-step : (x : Block-F Block Statement Branch Handler) (y : Block-F B S P H) → bare_block y ≡ x → OfBlock (roll-Block x)
block-step x y is label s n =
    subst (λ z. Lists s.symbols (statement_referents (resolve_block (roll-Block z) label s n).0) (ordinals (resolve_block (roll-Block z) label s n).1) (block_occurrences (roll-Block z) label (site_of s) (ordinals n))) is
    (subst (λ f. Lists s.symbols (statement_referents (resolve_block (roll-Block (bare_block y)) label s n).0) (ordinals (resolve_block (roll-Block (bare_block y)) label s n).1) (f label (site_of s) (ordinals n)))
    (sym (fold-roll-Block places.BlockPart places.Part places.Part places.Part places.block_layer places.statement_layer places.branch_layer places.handler_layer (bare_block y)))
    (subst (λ f. Lists s.symbols (statement_referents (f label s n).0) (ordinals (f label s n).1) (listed_block (bare_block y) label (site_of s) (ordinals n)))
    (sym (fold-roll-Block resolving.BlockPart (resolving.Part ResolvedStatement) (resolving.Part ResolvedBranch) (resolving.Part ResolvedHandler) block_layer statement_layer branch_layer handler_layer (bare_block y)))
    (block-claim y label s n)))

-- ---- branches and handlers

abbrev bare_branch : Branch-F B S P H → Branch-F Block Statement Branch Handler
bare_branch y = map-Branch B S P H Block Statement Branch Handler (λ e. e.0) (λ e. e.0) (λ e. e.0) (λ e. e.0) y

branch-step : (x : Branch-F Block Statement Branch Handler) (y : Branch-F B S P H) → bare_branch y ≡ x → OfBranch (roll-Branch x)
branch-step x y is s n =
    let ys : List S = y.statements.first ∷ y.statements.rest in
    subst (λ z. Lists s.symbols (branch_referents (resolve_branch (roll-Branch z) s n).0) (ordinals (resolve_branch (roll-Branch z) s n).1) (branch_occurrences (roll-Branch z) (site_of s) (ordinals n))) is
    (subst (λ f. Lists s.symbols (branch_referents (resolve_branch (roll-Branch (bare_branch y)) s n).0) (ordinals (resolve_branch (roll-Branch (bare_branch y)) s n).1) (f (site_of s) (ordinals n)))
    (sym (fold-roll-Branch places.BlockPart places.Part places.Part places.Part places.block_layer places.statement_layer places.branch_layer places.handler_layer (bare_branch y)))
    (subst (λ f. Lists s.symbols (branch_referents (f s n).0) (ordinals (f s n).1) (followed (only (expr_occurrences y.test (site_of s))) (all_of (site_of s) (steps ys)) (ordinals n)))
    (sym (fold-roll-Branch resolving.BlockPart (resolving.Part ResolvedStatement) (resolving.Part ResolvedBranch) (resolving.Part ResolvedHandler) block_layer statement_layer branch_layer handler_layer (bare_branch y)))
    (lists-as (standing-branch _) (lists-then (only (expr_occurrences y.test (site_of s))) (all_of (site_of s) (steps ys)) (lists-only (ordinals n) (expr-gives y.test s)) (statements-list s ys n)))))

abbrev bare_handler : Handler-F B S P H → Handler-F Block Statement Branch Handler
bare_handler y = map-Handler B S P H Block Statement Branch Handler (λ e. e.0) (λ e. e.0) (λ e. e.0) (λ e. e.0) y

handler-step : (x : Handler-F Block Statement Branch Handler) (y : Handler-F B S P H) → bare_handler y ≡ x → OfHandler (roll-Handler x)
handler-step x y is s n =
    let handled_there : Listing = only (together (map (in_value (known s.scopes)) (several y.values))) in
    let action : Listing = statement_occurrences y.action.0 (site_of (inside s scope.Action)) in
    subst (λ z. Lists s.symbols (handler_referents (resolve_handler (roll-Handler z) s n).0) (ordinals (resolve_handler (roll-Handler z) s n).1) (handler_occurrences (roll-Handler z) (site_of s) (ordinals n))) is
    (subst (λ f. Lists s.symbols (handler_referents (resolve_handler (roll-Handler (bare_handler y)) s n).0) (ordinals (resolve_handler (roll-Handler (bare_handler y)) s n).1) (f (site_of s) (ordinals n)))
    (sym (fold-roll-Handler places.BlockPart places.Part places.Part places.Part places.block_layer places.statement_layer places.branch_layer places.handler_layer (bare_handler y)))
    (subst (λ f. Lists s.symbols (handler_referents (f s n).0) (ordinals (f s n).1) (followed handled_there action (ordinals n)))
    (sym (fold-roll-Handler resolving.BlockPart (resolving.Part ResolvedStatement) (resolving.Part ResolvedBranch) (resolving.Part ResolvedHandler) block_layer statement_layer branch_layer handler_layer (bare_handler y)))
    (lists-as (standing-handler _) (lists-then handled_there action (lists-only (ordinals n) (values-give s (several y.values))) (y.action.1 (inside s scope.Action) n)))))

-- ---- the induction

pub statement-lists : (t : Statement) (s : ResolverScope) (n : Numbering) → Lists s.symbols (statement_referents (resolve_statement t s n).0) (ordinals (resolve_statement t s n).1) (statement_occurrences t (site_of s) (ordinals n))
statement-lists = ind-Statement OfBlock OfStatement OfBranch OfHandler block-step statement-step branch-step handler-step

-- ---- routines

parameters-give : (symbols : SymbolTable) (k : ℕ) (ps : List Parameter) → Gives symbols (declaring_slots (counted_from k (map resolve_parameter ps))) (variables_from k (parameter_names ps))
parameters-give symbols k [] = gives-none
parameters-give symbols k (p ∷ ps) = gives-one refl (parameters-give symbols (suc k) ps)

-- the body, and what is numbered after it
pub body-lists : (symbols : SymbolTable) (r : Routine) →
    let numbered = routine_numbered r in
    let resolved = resolve_statement r.body (record { symbols = symbols; scopes = numbered.0; row = None }) numbered.1 in
    Lists symbols (statement_referents resolved.0) (ordinals resolved.1) (statement_occurrences r.body (control symbols (begin r).0) (begin r).1)
body-lists symbols r =
    let s : ResolverScope = at_control symbols (routine_numbered r).0 in
    let body = resolve_statement r.body s (routine_numbered r).1 in
    subst (λ p. Lists symbols (statement_referents body.0) (ordinals body.1) (statement_occurrences r.body (control symbols p.0) p.1)) (begin-point r) (statement-lists r.body s (routine_numbered r).1)

pub routine-gives : (symbols : SymbolTable) (r : Routine) → routine_referents (resolve_routine symbols r) ≡ looked_up symbols (routine_occurrences symbols r)
routine-gives symbols r = (gives-both (parameters-give symbols 0 r.parameters) (body-lists symbols r).gives).is
