-- The block of a compound statement, and that of a FOR statement, in the code.
use Rattle.std.proofs.Common.{◌≡◌, ◌<◌, ◌≤◌, ℕ, zero, suc, Bool, true, false, not, ◌||◌, List, [], ◌∷◌, ◌++◌, length, map, slice_get, Some, ap, sym, refl, ◌∙◌, subst, inl, inr, arith}
use Rattle.psm_cond.specs.declared.handlers.Block.{Block as CodeBlock}
use Rattle.psm_cond.specs.declared.handlers.ContextKind.TheVariants as kinds
use Rattle.psm_cond.specs.declared.handlers.Handler.{Handler}
use Rattle.psm_cond.specs.Handlers.{Numbered, context_at, own_handlers, scopes_within}
use Rattle.psm_resolved.specs.declared.file.ResolvedFile.{ResolvedFile}
use Rattle.psm_resolved.specs.declared.file.ResolvedRoutine.{ResolvedRoutine}
use Rattle.psm_resolved.specs.declared.statement.ResolvedBlock.{ResolvedBlock, out-ResolvedBlock}
use Rattle.psm_resolved.specs.declared.statement.ResolvedCursor.{ResolvedCursor}
use Rattle.psm_resolved.specs.declared.statement.ResolvedHandler.{ResolvedHandler, out-ResolvedHandler}
use Rattle.psm_code.specs.declared.code.RawRoutine.{RawRoutine}
use Rattle.psm_code.specs.Parts.{block_of_context}
use Rattle.psm_code.specs.RoutineRules.{is_undo}
use Rattle.psm_code.specs.Rules.{where_there}
use Rattle.psm_simulation.specs.Cursors.{IsCursor}
use Rattle.psm_simulation.specs.Env.{Apart, Env, InBlock, InLoop, Numbers, OverRows, Visible, are, for_block, in_action, inside_block, inside_loop, over_rows}
use Rattle.psm_simulation.specs.Env.{with_cursor as with_its_cursor}
use Rattle.psm_simulation.specs.Scheme.{Asks, GoesTo, IsBlockOf, IsForOf, IsHandler, Shares, with_handlers}
use Rattle.psm_exprgen.specs.declared.known.Known.{Known}
use Rattle.psm_exprgen.specs.Queries.{cursor_of}
use Rattle.psm_codegen.specs.declared.enclosing.EnclosingBlock.{EnclosingBlock}
use Rattle.psm_codegen.specs.declared.enclosing.EnclosingBlock.TheVariants.{Block as WithinBlock, Loop, Rows}
use Rattle.psm_codegen.specs.Files.{known_of}
use Rattle.psm_codegen.specs.FunctionBuilder.{FunctionBuilder, at, block_entered, next_context, with_handler}
use Rattle.psm_codegen.specs.Standing.{CountsUp, CursorsFit, IsNewLevel, HasSome, BlockScope, in_block, in_for, is_among, numbers_of}
use Rattle.psm_codegen.specs.Standing as standing
use Rattle.psm_codegen.specs.Statements.{WritesCursors, WritesHandlers, passed, with_cursor}
use Rattle.psm_codegen.specs.Statements as written
use Rattle.psm_codegen.proofs.Fitting.{listed-values}
use Rattle.psm_codegen.proofs.Growing.{Grown, begins-length, grown-cursors, grown-passed, length-snoc, next-entered, no_context, own_in}
use Rattle.psm_codegen.proofs.GrowingAll.{grown-handlers}
use Rattle.psm_codegen.proofs.Placing.{Kept, Space, context-there, kept-earlier}
use Rattle.psm_codegen.proofs.Querying.{cursor_stands}
use Rattle.psm_codegen.proofs.Scoping.{AllCursors, Seen, all-cursors, are-between, asks-more, between, between-is, coded_of, handler_code, handlers-coded, new-block, searches-action, searches-block}
use Rattle.psm_codegen.proofs.There.{plain_there, there_at}

-- a block whose cursors are numbered up to mid, those in its actions up to next, and those in its list up to end
abbrev pub the_block : Env → ℕ → ResolvedBlock → ℕ → List Numbered → ℕ → ℕ → ℕ → Visible
the_block env level block context coded mid next end = record {
  level = level;
  context = context;
  handlers = (out-ResolvedBlock block).handlers;
  coded = coded;
  cursors = (out-ResolvedBlock block).cursors ++ env.cursors;
  own = numbers_of (out-ResolvedBlock block).cursors;
  moved = numbers_of (out-ResolvedBlock block).cursors;
  inside = between next end;
  acting = between mid next;
}

abbrev pub entered_block : ℕ → ℕ → ℕ → ResolvedBlock → FunctionBuilder → FunctionBuilder
entered_block context exit start block a =
    passed (next_context a) start (out-ResolvedBlock block).handlers (block_entered context (out-ResolvedBlock block).atomic exit (numbers_of (out-ResolvedBlock block).cursors) a)

-- ---- numbers

not-true : (b : Bool) → (b ≡ true → ⊥) → b ≡ false
not-true true h = absurd (h refl)
not-true false h = refl

apart-when : (f g : Numbers) → ((n : ℕ) → f n ≡ true → g n ≡ true → ⊥) → Apart f g
apart-when f g h n e = not-true (g n) (λ d. h n e d)

shares-block : {r : RawRoutine} (env : Env) {p q : FunctionBuilder} (level : ℕ) (block : ResolvedBlock) (context : ℕ) (coded : List Numbered) (mid next end : ℕ) → Space r env.context env.visible env.free p q → CountsUp (length p.cursors) (numbers_of (out-ResolvedBlock block).cursors) mid
    → length p.cursors ≤ mid → mid ≤ next → next ≤ end → end ≤ length q.cursors → Shares env (the_block env level block context coded mid next end)
shares-block env {p} level block context coded mid next end space counts first second third fourth =
    let ns = numbers_of (out-ResolvedBlock block).cursors in record {
      own = λ n e. let k = are-between (length p.cursors) ns mid n counts e in space.free n k.0 (omega (arith, k.1, second, third, fourth));
      inside = λ n e. let k = between-is next end n e in space.free n (omega (arith, k.0, first, second)) (omega (arith, k.1, fourth));
      acting = λ n e. let k = between-is mid next n e in space.free n (omega (arith, k.0, first)) (omega (arith, k.1, third, fourth));
      inside_own = apart-when (between next end) (are ns) (λ n e f. let k = between-is next end n e in let l = are-between (length p.cursors) ns mid n counts f in omega (arith, k.0, l.1, second));
      acting_own = apart-when (between mid next) (are ns) (λ n e f. let k = between-is mid next n e in let l = are-between (length p.cursors) ns mid n counts f in omega (arith, k.0, l.1));
      apart = apart-when (between next end) (between mid next) (λ n e f. let k = between-is next end n e in let l = between-is mid next n f in omega (arith, k.0, l.1));
    }

-- ---- contexts

passed-handlers : (context start : ℕ) (hs : List ResolvedHandler) (p : FunctionBuilder) → (passed context start hs p).handlers ≡ p.handlers
passed-handlers context start [] p = refl
passed-handlers context start (h ∷ hs) p = refl

-- no handler is of a context that is new
low-own : {r : RawRoutine} {context : ℕ} {visible : List Visible} {free : Numbers} {p a q : FunctionBuilder} → Space r context visible free p q → Grown no_context p a → own_in (next_context a) a.handlers ≡ []
low-own {a = a} space g = let h = begins-length g.contexts in g.own (next_context a) refl (inr (omega arith)) ∙ space.low (next_context a) (omega (arith, h))

-- the context of a block that is entered
pub entered-there : {r : RawRoutine} (context : ℕ) (atomic : Bool) (exit : ℕ) (cursors : List ℕ) (a : FunctionBuilder) → Kept (block_entered context atomic exit cursors a) r
    → context_at r.handlers (next_context a) ≡ Some (record { parent = context; kind = kinds.Block (record { atomic = atomic; exit = exit; cursors = cursors }) })
entered-there {r} context atomic exit cursors a kept = context-there r.handlers (length a.contexts) _ (there_at a.contexts kept.contexts)

-- the search asks the block before those around it
pub searches-entered : {r : RawRoutine} {env : Env} {enclosing : List EnclosingBlock} {block_scope : BlockScope} (context : ℕ) (b : CodeBlock) (coded : List Numbered) (v : Visible) → Seen r env enclosing block_scope → env.context < context → v.coded ≡ coded
    → context_at r.handlers context ≡ Some (record { parent = env.context; kind = kinds.Block b }) → own_handlers r.handlers context ≡ coded → (n : ℕ) → context ≤ n → Asks (scopes_within r.handlers n context) (v ∷ env.visible)
searches-entered context b coded v seen below e there own zero low = absurd (omega (arith, below, low))
searches-entered {r} {env} context b coded v seen below e there own (suc n) low =
    ap (λ bs. with_handlers bs) (searches-block r.handlers n env.context b context coded there own) ∙ asks-more coded (scopes_within r.handlers n env.context) env.visible (seen.search n (omega (arith, below, low)))
    ∙ ap (λ hs. with_handlers (hs ∷ map (λ v. v.coded) env.visible)) (sym e)

-- ---- cursors

pub cursors-stand : (file : ResolvedFile) (routine : ResolvedRoutine) {r : RawRoutine} {xs : List ResolvedCursor} {p q : FunctionBuilder} → WritesCursors (known_of file routine) xs p q → Kept q r → CursorsFit file routine xs → (to : ℕ) → CountsUp (length p.cursors) (numbers_of xs) to → AllCursors r xs
cursors-stand file routine written.no_cursor kept f to n = tt
cursors-stand file routine {r = r} (written.cursor {x = x} {xs = xs} {p = p} code made others) kept f to n =
    let here = kept-earlier {but = no_context} (grown-cursors others) kept in
    let e : length (with_cursor (known_of file routine) x code p).cursors ≡ suc (length p.cursors) = length-snoc p.cursors (cursor_of x (length p.code.queries)) in (
      cursor_stands made f.0 (there_at p.code.queries here.code.queries) (ap (slice_get r.cursors) n.0 ∙ there_at p.cursors here.cursors),
      cursors-stand file routine others kept f.1 to (subst (λ i. CountsUp i (numbers_of xs) to) (sym e) n.1),
    )

-- ---- the block of a compound statement

-- its handlers are those that are written for it
block-own : {known : Known} {r : RawRoutine} {context : ℕ} {visible : List Visible} {free : Numbers} (outer exit start : ℕ) (block : ResolvedBlock) {p a b q : FunctionBuilder} → Space r context visible free p q → Grown no_context p a
    → (d : WritesHandlers known (next_context a) (out-ResolvedBlock block).handlers (entered_block outer exit start block a) b) → Grown no_context b q → own_handlers r.handlers (next_context a) ≡ coded_of d
block-own outer exit start block {p} {a} {b} {q} space g d h =
    let k = next_context a in
    let numbers = numbers_of (out-ResolvedBlock block).cursors in
    let entered = block_entered outer (out-ResolvedBlock block).atomic exit numbers a in
    let one : k ≤ length entered.contexts = omega (arith, next-entered outer (out-ResolvedBlock block).atomic exit numbers a) in
    let two = begins-length (grown-passed {but = no_context} k start (out-ResolvedBlock block).handlers entered).contexts in
    let three = begins-length (grown-handlers d).contexts in
    let four = begins-length h.contexts in
    let zero = begins-length g.contexts in
    let there : k ≤ length (entered_block outer exit start block a).contexts = omega (arith, one, two) in
    space.own k (omega (arith, zero)) (omega (arith, there, three, four)) ∙ h.own k refl (inl (omega (arith, there, three))) ∙ handlers-coded d there
    ∙ ap (λ hs. own_in k hs ++ coded_of d) (passed-handlers k start (out-ResolvedBlock block).handlers entered) ∙ ap (λ l. l ++ coded_of d) (low-own space g)

-- a context that is entered inside that of a statement, and the handlers of it
pub record Entered (r : RawRoutine) (env : Env) (context : ℕ) (b : CodeBlock) (coded : List Numbered) : Type 0 where
  pub there : context_at r.handlers context ≡ Some (record { parent = env.context; kind = kinds.Block b })
  pub own : own_handlers r.handlers context ≡ coded
  pub below : env.context < context

abbrev pub code_of_block : ResolvedBlock → ℕ → CodeBlock
code_of_block block exit = record { atomic = (out-ResolvedBlock block).atomic; exit = exit; cursors = numbers_of (out-ResolvedBlock block).cursors }

pub block-entered : {known : Known} {r : RawRoutine} (env : Env) (exit start : ℕ) (block : ResolvedBlock) {p a b q : FunctionBuilder} → Space r env.context env.visible env.free p q → Grown no_context p a
    → (d : WritesHandlers known (next_context a) (out-ResolvedBlock block).handlers (entered_block env.context exit start block a) b) → Grown no_context b q → Entered r env (next_context a) (code_of_block block exit) (coded_of d)
block-entered env exit start block {a = a} space g d h =
    let numbers = numbers_of (out-ResolvedBlock block).cursors in
    let entered = block_entered env.context (out-ResolvedBlock block).atomic exit numbers a in
    let kept = kept-earlier {but = no_context} (grown-passed (next_context a) start (out-ResolvedBlock block).handlers entered) (kept-earlier (grown-handlers d) (kept-earlier h space.kept)) in
    let zero = begins-length g.contexts in
    let low = space.context in
    record { there = entered-there env.context (out-ResolvedBlock block).atomic exit numbers a kept; own = block-own env.context exit start block space g d h; below = omega (arith, low, zero) }

pub block-is : {r : RawRoutine} (env : Env) {enclosing : List EnclosingBlock} {block_scope : BlockScope} (level : ℕ) (block : ResolvedBlock) (context exit : ℕ) (coded : List Numbered) {p q : FunctionBuilder} (mid next end : ℕ) → Seen r env enclosing block_scope → Space r env.context env.visible env.free p q → IsNewLevel level block_scope
    → length p.contexts < context → Entered r env context (code_of_block block exit) coded → CountsUp (length p.cursors) (numbers_of (out-ResolvedBlock block).cursors) mid
    → length p.cursors ≤ mid → mid ≤ next → next ≤ end → end ≤ length q.cursors → IsBlockOf r env level block (the_block env level block context coded mid next end) exit
block-is env level block context exit coded {p} mid next end seen space new low entered counts first second third fourth = record {
  level = refl;
  handlers = refl;
  cursors = refl;
  own = refl;
  moved = refl;
  shares = shares-block env level block context coded mid next end space counts first second third fourth;
  coded = ap block_of_context entered.there;
  search = searches-entered context (code_of_block block exit) coded (the_block env level block context coded mid next end) seen entered.below refl entered.there entered.own context (omega arith);
  new = new-block level context (length p.contexts) env.visible (ap (is_among level) seen.blocks ∙ new) space.visible low;
}

-- its list
pub seen-block : {r : RawRoutine} (env : Env) {enclosing : List EnclosingBlock} {block_scope : BlockScope} (level : ℕ) (block : ResolvedBlock) (context exit : ℕ) (coded : List Numbered) (mid next end : ℕ) → Seen r env enclosing block_scope → Entered r env context (code_of_block block exit) coded
    → AllCursors r (out-ResolvedBlock block).cursors
    → Seen r (inside_block (the_block env level block context coded mid next end) exit env) (WithinBlock level context env.context exit ∷ enclosing) (in_block level (out-ResolvedBlock block).cursors block_scope)
seen-block {r} env level block context exit coded mid next end seen entered own = record {
  search = searches-entered context (code_of_block block exit) coded (the_block env level block context coded mid next end) seen entered.below refl entered.there entered.own;
  frames = ap (λ l. InBlock level context exit ∷ l) seen.frames;
  blocks = ap (λ l. level ∷ l) seen.blocks;
  labels = ap (λ l. level ∷ l) seen.labels;
  loops = seen.loops;
  cursors = ap (λ l. (out-ResolvedBlock block).cursors ++ l) seen.cursors;
  stand = all-cursors r (out-ResolvedBlock block).cursors env.cursors own seen.stand;
}

-- what is written in a context that is new; cursors that are written there may be declared there
is-between : (from to n : ℕ) → from ≤ n → n < to → between from to n ≡ true
is-between from to n h k = grind (arith, h, k)

pub space-in : {r : RawRoutine} {context : ℕ} {visible : List Visible} {free : Numbers} {b c : FunctionBuilder} (k : ℕ) → k ≤ length b.contexts → Space r context visible free b c → Space r k visible (between (length b.cursors) (length c.cursors)) b c
space-in {b = b} {c = c} k h s = record { kept = s.kept; own = s.own; low = s.low; free = is-between (length b.cursors) (length c.cursors); context = h; visible = s.visible }

pub space-with : {r : RawRoutine} {k : ℕ} {visible : List Visible} {free : Numbers} {b c : FunctionBuilder} (v : Visible) → v.context ≤ length b.contexts → Space r k visible free b c → Space r k (v ∷ visible) free b c
space-with v h s = record { kept = s.kept; own = s.own; low = s.low; free = s.free; context = s.context; visible = (h, s.visible) }

pub space-at : {r : RawRoutine} {context : ℕ} {visible : List Visible} {free : Numbers} {b c : FunctionBuilder} (k : ℕ) → k ≤ length b.contexts → Space r context visible free b c → Space r k visible free b c
space-at k h s = record { kept = s.kept; own = s.own; low = s.low; free = s.free; context = h; visible = s.visible }

-- the run goes on at the list, also where actions stand between
pub goes-to : {known : Known} {r : RawRoutine} (context start : ℕ) (hs : List ResolvedHandler) (e : FunctionBuilder) {b : FunctionBuilder} → WritesHandlers known context hs (passed context start hs e) b → start ≡ at b → Kept (passed context start hs e) r → GoesTo r start (at e)
goes-to context start [] e written.no_handler s kept = inl (sym s)
goes-to context start (h ∷ hs) e d s kept = inr (plain_there context e.code kept.code.lines)

-- queries are no lines
pub cursors-at : {known : Known} {xs : List ResolvedCursor} {p q : FunctionBuilder} → WritesCursors known xs p q → at q ≡ at p
cursors-at written.no_cursor = refl
cursors-at (written.cursor code made others) = cursors-at others

-- ---- handlers

-- the search from an action asks the blocks around that of its handler
pub action-searches : {r : RawRoutine} {env : Env} {enclosing : List EnclosingBlock} {block_scope : BlockScope} {coded : List Numbered} (context k number : ℕ) (b : CodeBlock) (h : Handler) → Seen r env enclosing block_scope → Entered r env context b coded
    → context_at r.handlers k ≡ Some (record { parent = context; kind = kinds.Action number }) → slice_get r.handlers.handlers number ≡ Some h → h.context ≡ context → context < k → (n : ℕ) → k ≤ n → Asks (scopes_within r.handlers n k) env.visible
action-searches context k number b h seen entered there is same below zero low = absurd (omega (arith, below, low))
action-searches {r} {env} context k number b h seen entered there is same below (suc n) low =
    let outer = entered.below in
    ap (λ bs. with_handlers bs) (searches-action r.handlers n number k context env.context (kinds.Block b) h there is (ap (context_at r.handlers) same ∙ entered.there)) ∙ seen.search n (omega (arith, outer, below, low))

pub action-there : {r : RawRoutine} (context : ℕ) (h : ResolvedHandler) (p : FunctionBuilder) → Kept (with_handler context (out-ResolvedHandler h).kind (out-ResolvedHandler h).values p) r
    → context_at r.handlers (next_context p) ≡ Some (record { parent = context; kind = kinds.Action (length p.handlers) })
action-there {r} context h p kept = context-there r.handlers (length p.contexts) _ (there_at p.contexts kept.contexts)

-- an action of a handler of the block
pub seen-action : {r : RawRoutine} (env : Env) {enclosing : List EnclosingBlock} {block_scope : BlockScope} {coded : List Numbered} (v : Visible) (b : CodeBlock) (cursors : List ResolvedCursor) (h : ResolvedHandler) (p : FunctionBuilder) → Seen r env enclosing block_scope → Entered r env v.context b coded
    → v.cursors ≡ cursors ++ block_scope.cursors → AllCursors r v.cursors → v.context ≤ length p.contexts → Kept (with_handler v.context (out-ResolvedHandler h).kind (out-ResolvedHandler h).values p) r
    → Seen r (in_action v (next_context p) env.visible) [] (standing.in_action cursors block_scope)
seen-action {r} env v b cursors h p seen entered same stand low kept = record {
  search = action-searches v.context (next_context p) (length p.handlers) b (handler_code v.context h p) seen entered (action-there v.context h p kept) (there_at p.handlers kept.handlers) refl (omega (arith, low));
  frames = refl;
  blocks = seen.blocks;
  labels = refl;
  loops = refl;
  cursors = same;
  stand = stand;
}

pub handler-is : {r : RawRoutine} (env : Env) {enclosing : List EnclosingBlock} {block_scope : BlockScope} {coded : List Numbered} (v : Visible) (b : CodeBlock) (h : ResolvedHandler) (p : FunctionBuilder) → Seen r env enclosing block_scope → Entered r env v.context b coded
    → v.context ≤ length p.contexts → Kept (with_handler v.context (out-ResolvedHandler h).kind (out-ResolvedHandler h).values p) r → HasSome (out-ResolvedHandler h).values → not (is_undo (out-ResolvedHandler h).kind) || b.atomic ≡ true
    → IsHandler r env.visible v h (length p.handlers) (handler_code v.context h p) (next_context p)
handler-is {r} env v b h p seen entered low kept some undo = record {
  there = there_at p.handlers kept.handlers;
  block = refl;
  kind = refl;
  values = listed-values (out-ResolvedHandler h).values some;
  search = action-searches v.context (next_context p) (length p.handlers) b (handler_code v.context h p) seen entered (action-there v.context h p kept) (there_at p.handlers kept.handlers) refl (omega (arith, low)) (next_context p) (omega arith);
  undo = ap (λ c. not (is_undo (out-ResolvedHandler h).kind) || where_there (block_of_context c) (λ b. b.atomic)) entered.there ∙ undo;
}

-- ---- the block of a FOR statement

-- no handler is of it, and the search asks the blocks around it
searches-for : {r : RawRoutine} {env : Env} {enclosing : List EnclosingBlock} {block_scope : BlockScope} (context : ℕ) (b : CodeBlock) → Seen r env enclosing block_scope → env.context < context → context_at r.handlers context ≡ Some (record { parent = env.context; kind = kinds.Block b })
    → own_handlers r.handlers context ≡ [] → (n : ℕ) → context ≤ n → Asks (scopes_within r.handlers n context) env.visible
searches-for context b seen below there own zero low = absurd (omega (arith, below, low))
searches-for {r} {env} context b seen below there own (suc n) low =
    ap (λ bs. with_handlers bs) (searches-block r.handlers n env.context b context [] there own) ∙ seen.search n (omega (arith, below, low))

pub for-searches : {r : RawRoutine} (env : Env) {enclosing : List EnclosingBlock} {block_scope : BlockScope} (exit number : ℕ) {p a q : FunctionBuilder} → Seen r env enclosing block_scope → Space r env.context env.visible env.free p q
    → Grown no_context p a → Grown no_context (block_entered env.context false exit (number ∷ []) a) q → (n : ℕ) → next_context a ≤ n → Asks (scopes_within r.handlers n (next_context a)) env.visible
for-searches {r = r} env exit number {p} {a} {q} seen space g h n low =
    let k = next_context a in
    let entered = block_entered env.context false exit (number ∷ []) a in
    let there = entered-there env.context false exit (number ∷ []) a (kept-earlier h space.kept) in
    let one : k ≤ length entered.contexts = omega (arith, next-entered env.context false exit (number ∷ []) a) in
    let two = begins-length h.contexts in
    let zero = begins-length g.contexts in
    let below = space.context in
    let own = space.own k (omega (arith, zero)) (omega (arith, one, two)) ∙ h.own k refl (inl one) ∙ low-own space g in
    searches-for k (record { atomic = false; exit = exit; cursors = number ∷ [] }) seen (omega (arith, below, zero)) there own n low

shares-for : {r : RawRoutine} (env : Env) {p q : FunctionBuilder} (level context number : ℕ) (mid end : ℕ) → Space r env.context env.visible env.free p q → number ≡ length p.cursors → mid ≡ suc (length p.cursors) → end ≤ length q.cursors → mid ≤ end
    → Shares env (for_block level context number (number ∷ []) (between mid end) env.cursors)
shares-for env {p} level context number mid end space first second third fourth =
    let counts : CountsUp (length p.cursors) (number ∷ []) mid = (first, sym second) in record {
      own = λ n e. let k = are-between (length p.cursors) (number ∷ []) mid n counts e in space.free n k.0 (omega (arith, k.1, third, fourth));
      inside = λ n e. let k = between-is mid end n e in space.free n (omega (arith, k.0, second)) (omega (arith, k.1, third));
      acting = λ n e. absurd (cc);
      inside_own = apart-when (between mid end) (are (number ∷ [])) (λ n e f. let k = between-is mid end n e in let l = are-between (length p.cursors) (number ∷ []) mid n counts f in omega (arith, k.0, l.1));
      acting_own = λ n e. absurd (cc);
      apart = λ n e. refl;
    }

pub for-is : {r : RawRoutine} (env : Env) {enclosing : List EnclosingBlock} {block_scope : BlockScope} (level exit : ℕ) (x : ResolvedCursor) {p a q : FunctionBuilder} (end : ℕ) → Seen r env enclosing block_scope → Space r env.context env.visible env.free p q → IsNewLevel level block_scope
    → Grown no_context p a → Grown no_context (block_entered env.context false exit (x.number ∷ []) a) q → IsCursor r x → x.number ≡ length p.cursors → length a.cursors ≡ suc (length p.cursors) → length a.cursors ≤ end → end ≤ length q.cursors
    → IsForOf r env level (next_context a) exit x (between (length a.cursors) end)
for-is {r = r} env level exit x {p} {a} {q} end seen space new g h stands number one second third =
    let k = next_context a in
    let zero = begins-length g.contexts in
    record {
      cursor = stands;
      shares = shares-for env level k x.number (length a.cursors) end space number one third second;
      coded = ap block_of_context (entered-there env.context false exit (x.number ∷ []) a (kept-earlier h space.kept));
      search = for-searches env exit x.number seen space g h k (omega arith);
      new = new-block level k (length p.contexts) env.visible (ap (is_among level) seen.blocks ∙ new) space.visible (omega (arith, zero));
    }

-- its list
pub seen-for : {r : RawRoutine} (env : Env) {enclosing : List EnclosingBlock} {block_scope : BlockScope} (level : ℕ) (x : ResolvedCursor) (context exit turn : ℕ) (inside : Numbers) → Seen r env enclosing block_scope → ((n : ℕ) → context ≤ n → Asks (scopes_within r.handlers n context) env.visible) → IsCursor r x
    → Seen r (inside_loop level exit turn (with_its_cursor x (over_rows context inside env))) (Loop level exit turn ∷ Rows context env.context ∷ enclosing) (in_for level x block_scope)
seen-for env level x context exit turn inside seen search is = record {
  search = search;
  frames = ap (λ l. InLoop level exit turn ∷ OverRows context ∷ l) seen.frames;
  blocks = seen.blocks;
  labels = ap (λ l. level ∷ l) seen.labels;
  loops = ap (λ l. level ∷ l) seen.loops;
  cursors = ap (λ l. x ∷ l) seen.cursors;
  stand = (is, seen.stand);
}
