-- What has been numbered stays numbered: slots, cursors and conditions only become more.
use Rattle.std.proofs.Common.{◌≤◌, List, [], ◌∷◌, Option, Some, None, sym, refl, subst, arith}
use Rattle.psm_value.specs.declared.sqltype.SqlType.{SqlType}
use Rattle.psm_scope.specs.Scopes.{Spelling}
use Rattle.psm_rules.specs.StatementFaults.{label_name, several}
use Rattle.psm_rules.specs.Types.{type_of}
use Rattle.psm_tree.specs.declared.name.Identifier.{Identifier}
use Rattle.psm_tree.specs.declared.types.State.{State}
use Rattle.psm_tree.specs.declared.statement.Block.{Block}
use Rattle.psm_tree.specs.declared.statement.Branch.{Branch}
use Rattle.psm_tree.specs.declared.statement.CursorDeclaration.{CursorDeclaration}
use Rattle.psm_tree.specs.declared.statement.Declaration.{Declaration}
use Rattle.psm_tree.specs.declared.statement.Declaration.TheVariants as declarations
use Rattle.psm_tree.specs.declared.statement.ForHead.{ForHead}
use Rattle.psm_tree.specs.declared.statement.Handler.{Handler}
use Rattle.psm_tree.specs.declared.statement.Statement.{Statement}
use Rattle.psm_resolve_expr.specs.Exprs.{type_known}
use Rattle.psm_resolve_expr.specs.ResolverScope.{ResolverScope}
use Rattle.psm_declare.specs.Declarations.{Numbered, opened, numbered_after, numbered_by, numbered_condition, numbered_cursor, numbered_cursors, numbered_variable, numbered_variables}
use Rattle.psm_resolve.specs.Blocks as making
use Rattle.psm_resolve.specs.Blocks.{ForItem, resolve_block, resolve_branch, for_items, resolve_handler, in_scopes, in_loop, resolve_statement, numbered_for_cursor, numbered_head, numbered_item, numbered_items}
use Rattle.psm_declare.specs.Numbering.{Numbering, with_condition, with_cursor, with_slot}
use Rattle.psm_scope.specs.Scopes as scope
use Rattle.psm_exprgen.specs.Writing.{BeginsWith}
pub use Rattle.psm_exprgen.proofs.Growth.{begins-before, begins-here}
use Rattle.psm_typing.specs.TypingContext.{TypingContext}
use Rattle.psm_checker_sound.specs.Numbered.{Fills}
use Rattle.psm_checker_sound.specs.StatementsStand as stand
use Rattle.psm_checker_sound.specs.StatementsStand.{AllStand, BlockLayerStands, BlockStands, BranchesStand, HandlersStand, LayerStands, StatementStands}
use Rattle.psm_checker_sound.proofs.Opening.{BlockLayer, StatementLayer, resolve_block-out, block_resolved_in, resolve_branch-out, resolve_branches, resolve_handler-out, resolve_handlers, resolved-out, resolved_in, resolve_statements}

-- ---- numberings

pub record Grows (n m : Numbering) : Type 0 where
  pub slots : BeginsWith n.slots m.slots
  pub cursors : n.cursors ≤ m.cursors
  pub conditions : BeginsWith n.conditions m.conditions

pub grows-here : (n : Numbering) → Grows n n
grows-here n = record { slots = begins-here n.slots; cursors = omega arith; conditions = begins-here n.conditions }

pub grows-on : {n m o : Numbering} → Grows n m → Grows m o → Grows n o
grows-on a b = record { slots = begins-before a.slots b.slots; cursors = omega (arith, a.cursors, b.cursors); conditions = begins-before a.conditions b.conditions }

pub grows-slot : (t : SqlType) (n : Numbering) → Grows n (with_slot t n)
grows-slot t n = record { slots = record { more = t ∷ []; is = refl }; cursors = omega arith; conditions = begins-here n.conditions }

pub grows-cursor : (n : Numbering) → Grows n (with_cursor n)
grows-cursor n = record { slots = begins-here n.slots; cursors = omega arith; conditions = begins-here n.conditions }

pub grows-condition : (name : Spelling) (n : Numbering) → Grows n (with_condition name n)
grows-condition name n = record { slots = begins-here n.slots; cursors = omega arith; conditions = record { more = name ∷ []; is = refl } }

-- what a routine has it has had before
pub fills-before : {e : TypingContext} {n m : Numbering} → Grows n m → Fills e m → Fills e n
fills-before g f = record { slots = begins-before g.slots f.slots; conditions = begins-before g.conditions f.conditions }

-- ---- declarations

pub variables-grow : (t : SqlType) (so_far : Numbered) (ns : List Identifier) → Grows so_far.1 (numbered_variables t so_far ns).1
variables-grow t so_far [] = grows-here so_far.1
variables-grow t so_far (n ∷ ns) = grows-on (grows-slot t so_far.1) (variables-grow t (numbered_variable t so_far n.name) ns)

pub condition-grows : (so_far : Numbered) (name : Spelling) (state : Option State) → Grows so_far.1 (numbered_condition so_far name state).1
condition-grows so_far name None = grows-condition name so_far.1
condition-grows so_far name (Some s) = grows-here so_far.1

pub following-grows : (so_far : Numbered) (x : Declaration) → Grows so_far.1 (numbered_after so_far x).1
following-grows so_far (declarations.Variables place names kind default) = variables-grow (type_known (type_of kind)) so_far (several names)
following-grows so_far (declarations.Condition place name state) = condition-grows so_far name.name state

pub declarations-grow : (so_far : Numbered) (xs : List Declaration) → Grows so_far.1 (numbered_by so_far xs).1
declarations-grow so_far [] = grows-here so_far.1
declarations-grow so_far (x ∷ xs) = grows-on (following-grows so_far x) (declarations-grow (numbered_after so_far x) xs)

pub cursors-grow : (so_far : Numbered) (xs : List CursorDeclaration) → Grows so_far.1 (numbered_cursors so_far xs).1
cursors-grow so_far [] = grows-here so_far.1
cursors-grow so_far (x ∷ xs) = grows-on (grows-cursor so_far.1) (cursors-grow (numbered_cursor so_far x) xs)

item-grows : (so_far : Numbered) (i : ForItem) → Grows so_far.1 (numbered_item so_far i).1
item-grows so_far (None, t) = grows-slot t so_far.1
item-grows so_far (Some name, t) = grows-slot t so_far.1

pub items-grow : (so_far : Numbered) (is : List ForItem) → Grows so_far.1 (numbered_items so_far is).1
items-grow so_far [] = grows-here so_far.1
items-grow so_far (i ∷ is) = grows-on (item-grows so_far i) (items-grow (numbered_item so_far i) is)

pub head-grows : (resolver_scope : ResolverScope) (label : Option Spelling) (head : ForHead) (n : Numbering) → Grows n (numbered_head resolver_scope label head n).1
head-grows resolver_scope label head n =
    grows-on (grows-cursor n) (items-grow (numbered_for_cursor (scope.For label head.name.name scope.undeclared ∷ resolver_scope.scopes, n) head.cursor) (for_items resolver_scope head.query.query))

-- ---- statements

mutual
  pub statement-grows : {x : Statement} → StatementStands x → (resolver_scope : ResolverScope) (n : Numbering) → Grows n (resolve_statement x resolver_scope n).1
  statement-grows {x} (stand.statement_stands h) resolver_scope n = subst (λ r. Grows n r.1) (sym (resolved-out x resolver_scope n)) (layer-grows h resolver_scope n)

  pub layer-grows : {layer : StatementLayer} → LayerStands layer → (resolver_scope : ResolverScope) (n : Numbering) → Grows n (resolved_in layer resolver_scope n).1
  layer-grows (stand.block {label = label} h) resolver_scope n = block-grows h (label_name label) resolver_scope n
  layer-grows (stand.if {branches = branches} hs h) resolver_scope n = grows-on (branches-grow hs resolver_scope n) (all-grow h resolver_scope (resolve_branches (several branches) resolver_scope n).1)
  layer-grows (stand.case {branches = branches} w hs h) resolver_scope n = grows-on (branches-grow hs resolver_scope n) (all-grow h resolver_scope (resolve_branches (several branches) resolver_scope n).1)
  layer-grows (stand.simple h) resolver_scope n = grows-here n

  pub block-grows : {x : Block} → BlockStands x → (label : Option Spelling) (resolver_scope : ResolverScope) (n : Numbering) → Grows n (resolve_block x label resolver_scope n).1
  block-grows {x} (stand.block_stands h) label resolver_scope n = subst (λ r. Grows n r.1) (sym (resolve_block-out x label resolver_scope n)) (block_layer-grows h label resolver_scope n)

  pub block_layer-grows : {layer : BlockLayer} → BlockLayerStands layer → (label : Option Spelling) (resolver_scope : ResolverScope) (n : Numbering) → Grows n (block_resolved_in layer label resolver_scope n).1
  block_layer-grows (stand.compound {xs = xs} {cursors = cursors} {handlers = handlers} ds cs hs h) label resolver_scope n =
      let declared : Numbered = numbered_by (opened label resolver_scope.scopes, n) xs in
      let so_far : Numbered = numbered_cursors declared cursors in
      grows-on (declarations-grow (opened label resolver_scope.scopes, n) xs) (grows-on (cursors-grow declared cursors)
      (grows-on (handlers-grow hs (in_scopes resolver_scope so_far.0) so_far.1) (all-grow h (in_scopes resolver_scope so_far.0) (resolve_handlers handlers (in_scopes resolver_scope so_far.0) so_far.1).1)))
  block_layer-grows (stand.loop h) label resolver_scope n = all-grow h (in_loop label resolver_scope) n
  block_layer-grows (stand.while t h) label resolver_scope n = all-grow h (in_loop label resolver_scope) n
  block_layer-grows (stand.repeat h t) label resolver_scope n = all-grow h (in_loop label resolver_scope) n
  block_layer-grows (stand.for_each {head = head} w h) label resolver_scope n =
      let so_far : Numbered = numbered_head resolver_scope label head n in
      grows-on (head-grows resolver_scope label head n) (all-grow h (in_scopes resolver_scope so_far.0) so_far.1)

  pub all-grow : {xs : List Statement} → AllStand xs → (resolver_scope : ResolverScope) (n : Numbering) → Grows n (resolve_statements xs resolver_scope n).1
  all-grow stand.none resolver_scope n = grows-here n
  all-grow (stand.more {x = x} h hs) resolver_scope n = grows-on (statement-grows h resolver_scope n) (all-grow hs resolver_scope (resolve_statement x resolver_scope n).1)

  pub branches-grow : {xs : List Branch} → BranchesStand xs → (resolver_scope : ResolverScope) (n : Numbering) → Grows n (resolve_branches xs resolver_scope n).1
  branches-grow stand.no_branch resolver_scope n = grows-here n
  branches-grow (stand.branch {x = x} t h hs) resolver_scope n =
      grows-on (subst (λ r. Grows n r.1) (sym (resolve_branch-out x resolver_scope n)) (all-grow h resolver_scope n)) (branches-grow hs resolver_scope (resolve_branch x resolver_scope n).1)

  pub handlers-grow : {xs : List Handler} → HandlersStand xs → (resolver_scope : ResolverScope) (n : Numbering) → Grows n (resolve_handlers xs resolver_scope n).1
  handlers-grow stand.no_handler resolver_scope n = grows-here n
  handlers-grow (stand.handler {x = x} h hs) resolver_scope n =
      grows-on (subst (λ r. Grows n r.1) (sym (resolve_handler-out x resolver_scope n)) (statement-grows h (making.inside resolver_scope scope.Action) n)) (handlers-grow hs resolver_scope (resolve_handler x resolver_scope n).1)
