-- The handlers in scope, levels and cursors where a statement stands.
use Rattle.std.proofs.Common.{◌≡◌, ◌<◌, ◌≤◌, ℕ, zero, suc, Bool, true, false, cond, ◌&&◌, ◌||◌, List, [], ◌∷◌, ◌++◌, length, map, nat_eq, nat_le, nat_lt, slice_get, Some, ap, sym, refl, ◌∙◌, inl, arith, append_assoc, append-nil}
use Rattle.psm_cond.specs.declared.handlers.Block.{Block}
use Rattle.psm_cond.specs.declared.handlers.ContextKind.TheVariants as kinds
use Rattle.psm_cond.specs.declared.handlers.Declared.TheVariants as declares
use Rattle.psm_cond.specs.declared.handlers.Handler.{Handler}
use Rattle.psm_cond.specs.Tables.{HandlerTable}
use Rattle.psm_cond.specs.Handlers.{Numbered, block_of, context_at, own_handlers, parent_of, scopes_from, scopes_within}
use Rattle.psm_resolved.specs.declared.file.ResolvedFile.{ResolvedFile}
use Rattle.psm_resolved.specs.declared.file.ResolvedRoutine.{ResolvedRoutine}
use Rattle.psm_resolved.specs.declared.statement.ResolvedCursor.{ResolvedCursor}
use Rattle.psm_resolved.specs.declared.statement.ResolvedHandler.{ResolvedHandler, out-ResolvedHandler}
use Rattle.psm_code.specs.declared.code.RawCode.{RawCode}
use Rattle.psm_code.specs.declared.code.RawRoutine.{RawRoutine}
use Rattle.psm_simulation.specs.Cursors.{IsCursor}
use Rattle.psm_simulation.specs.Env.{Env, Numbers, Visible, are, inside_loop}
use Rattle.psm_simulation.specs.Env as env_of
use Rattle.psm_simulation.specs.Scheme.{Asks, IsNew, with_handlers}
use Rattle.psm_exprgen.specs.declared.known.Known.{Known}
use Rattle.psm_exprgen.specs.Queries.{TablesMade}
use Rattle.psm_exprgen.specs.Writing.{BeginsWith}
use Rattle.psm_codegen.specs.declared.enclosing.EnclosingBlock.{EnclosingBlock}
use Rattle.psm_codegen.specs.declared.enclosing.EnclosingBlock.TheVariants.{Loop, Block as WithinBlock, Rows}
use Rattle.psm_codegen.specs.Outside.{ChecksAreTests}
use Rattle.psm_codegen.specs.FunctionBuilder.{FunctionBuilder, at, several_values, with_handler}
use Rattle.psm_codegen.specs.Standing.{CountsUp, BlockScope, in_loop, is_among}
use Rattle.psm_codegen.specs.Statements.{WritesHandlers}
use Rattle.psm_codegen.specs.Statements as written
use Rattle.psm_codegen.proofs.Growing.{begins-length, next-handler, own-more, own_in}
use Rattle.psm_codegen.proofs.GrowingAll.{grown-statement}
use Rattle.psm_codegen.proofs.Placing.{AllUpTo}

-- ---- what is around a statement

abbrev pub enclosing_of : EnclosingBlock → env_of.EnclosingBlock
enclosing_of (Loop level out again) = env_of.InLoop level out again
enclosing_of (WithinBlock level context outer exit) = env_of.InBlock level context exit
enclosing_of (Rows context outer) = env_of.OverRows context

abbrev pub labels_of : List EnclosingBlock → List ℕ
labels_of [] = []
labels_of (Loop level out again ∷ enclosing) = level ∷ labels_of enclosing
labels_of (WithinBlock level context outer exit ∷ enclosing) = level ∷ labels_of enclosing
labels_of (Rows context outer ∷ enclosing) = labels_of enclosing

abbrev pub loops_of : List EnclosingBlock → List ℕ
loops_of [] = []
loops_of (Loop level out again ∷ enclosing) = level ∷ loops_of enclosing
loops_of (WithinBlock level context outer exit ∷ enclosing) = loops_of enclosing
loops_of (Rows context outer ∷ enclosing) = loops_of enclosing

abbrev pub AllCursors : RawRoutine → List ResolvedCursor → Type 0
AllCursors r [] = Unit {0}
AllCursors r (x ∷ xs) = IsCursor r x × AllCursors r xs

pub all-cursors : (r : RawRoutine) (xs ys : List ResolvedCursor) → AllCursors r xs → AllCursors r ys → AllCursors r (xs ++ ys)
all-cursors r [] ys a b = b
all-cursors r (x ∷ xs) ys a b = (a.0, all-cursors r xs ys a.1 b)

-- what the code and the tree see there is the same
pub record Seen (r : RawRoutine) (env : Env) (enclosing : List EnclosingBlock) (block_scope : BlockScope) : Type 0 where
  pub search : (n : ℕ) → env.context ≤ n → Asks (scopes_within r.handlers n env.context) env.visible
  pub frames : env.enclosing ≡ map enclosing_of enclosing
  pub blocks : map (λ v. v.level) env.visible ≡ block_scope.blocks
  pub labels : labels_of enclosing ≡ block_scope.labels
  pub loops : loops_of enclosing ≡ block_scope.loops
  pub cursors : env.cursors ≡ block_scope.cursors
  pub stand : AllCursors r env.cursors

pub seen-loop : {r : RawRoutine} {env : Env} {enclosing : List EnclosingBlock} {block_scope : BlockScope} (level out again : ℕ) → Seen r env enclosing block_scope → Seen r (inside_loop level out again env) (Loop level out again ∷ enclosing) (in_loop level block_scope)
seen-loop level out again s = record {
  search = s.search;
  frames = ap (λ l. env_of.InLoop level out again ∷ l) s.frames;
  blocks = s.blocks;
  labels = ap (λ l. level ∷ l) s.labels;
  loops = ap (λ l. level ∷ l) s.loops;
  cursors = s.cursors;
  stand = s.stand;
}

-- what is the same wherever a statement of the routine stands
pub record Given (file : ResolvedFile) (code : RawCode) (routine : ResolvedRoutine) (r : RawRoutine) : Type 0 where
  pub tables : TablesMade file.tables code.tables
  pub checks : ChecksAreTests file
  pub conditions : BeginsWith (map (λ name. declares.Named name) routine.conditions) r.handlers.declared

-- ---- levels

or-none : (a b : Bool) → a || b ≡ false → (a ≡ false) × (b ≡ false)
or-none true b e = absurd (cc)
or-none false b e = (refl, e)

eq-turned : (a b : ℕ) → nat_eq a b ≡ false → nat_eq b a ≡ false
eq-turned a b e = grind (arith, e)

pub new-block : (level context n : ℕ) (vs : List Visible) → is_among level (map (λ v. v.level) vs) ≡ false → AllUpTo n vs → n < context → IsNew level context vs
new-block level context n [] e a h = tt
new-block level context n (v ∷ vs) e a h =
    let o = or-none (nat_eq level v.level) (is_among level (map (λ v. v.level) vs)) e in
    let k : nat_eq v.context context ≡ false = let below = a.0 in grind (arith, h, below) in
    (eq-turned level v.level o.0, k, new-block level context n vs o.1 a.1 h)

-- ---- numbers of cursors

abbrev pub between : ℕ → ℕ → Numbers
between from to n = nat_le from n && nat_lt n to

counts-from : (from : ℕ) (ns : List ℕ) (to : ℕ) → CountsUp from ns to → from ≤ to
counts-from from [] to h = omega (arith, h)
counts-from from (x ∷ xs) to h = omega (arith, counts-from (suc from) xs to h.1)

pub are-between : (from : ℕ) (ns : List ℕ) (to n : ℕ) → CountsUp from ns to → are ns n ≡ true → (from ≤ n) × (n < to)
are-between from [] to n h e = absurd (cc)
are-between from (x ∷ xs) to n h e = by (nat_eq x n) refl e (λ f. are-between (suc from) xs to n h.1 f) where
  by : (b : Bool) → nat_eq x n ≡ b → b || are xs n ≡ true → (are xs n ≡ true → (suc from ≤ n) × (n < to)) → (from ≤ n) × (n < to)
  by true i e rec = let same : x ≡ n = grind (arith, i) in let u = counts-from (suc from) xs to h.1 in let f = h.0 in (omega (arith, same, f), omega (arith, same, f, u))
  by false i e rec = let k = rec e in (omega (arith, k.0), k.1)

pub between-is : (from to n : ℕ) → between from to n ≡ true → (from ≤ n) × (n < to)
between-is from to n e = (grind (arith, e), grind (arith, e))

-- ---- the search for handlers

pub asks-more : (own : List Numbered) (blocks : List (List Numbered)) (visible : List Visible) → Asks blocks visible → with_handlers (own ∷ blocks) ≡ with_handlers (own ∷ map (λ v. v.coded) visible)
asks-more [] blocks visible a = a
asks-more (h ∷ hs) blocks visible a = ap (λ l. (h ∷ hs) ∷ l) a

pub searches-nothing : (r : RawRoutine) (n : ℕ) → Asks (scopes_within r.handlers n 0) []
searches-nothing r zero = refl
searches-nothing r (suc n) = refl

pub searches-block : (t : HandlerTable) (n outer : ℕ) (b : Block) (k : ℕ) (own : List Numbered) → context_at t k ≡ Some (record { parent = outer; kind = kinds.Block b }) → own_handlers t k ≡ own → scopes_within t (suc n) k ≡ own ∷ scopes_within t n outer
searches-block t n outer b k own e f = ap (scopes_from t (scopes_within t n) k) e ∙ ap (λ hs. hs ∷ scopes_within t n outer) f

pub searches-action : (t : HandlerTable) (n handler k inner outer : ℕ) (kind : _) (h : Handler) → context_at t k ≡ Some (record { parent = inner; kind = kinds.Action handler }) → slice_get t.handlers handler ≡ Some h
    → context_at t h.context ≡ Some (record { parent = outer; kind = kind }) → scopes_within t (suc n) k ≡ scopes_within t n outer
searches-action t n handler k inner outer kind h e f g =
    ap (scopes_from t (scopes_within t n) k) e ∙ ap (λ o. scopes_within t n (parent_of (context_at t (block_of o)))) f ∙ ap (λ o. scopes_within t n (parent_of o)) g

-- ---- the handlers of a block, with their numbers

abbrev pub handler_code : ℕ → ResolvedHandler → FunctionBuilder → Handler
handler_code context h p = record { context = context; kind = (out-ResolvedHandler h).kind; pc = at p; values = several_values (out-ResolvedHandler h).values }

abbrev pub coded_of : {known : Known} {context : ℕ} {hs : List ResolvedHandler} {p q : FunctionBuilder} → WritesHandlers known context hs p q → List Numbered
coded_of written.no_handler = []
coded_of {context = context} (written.handler {h = h} {p = p} action others) = (length p.handlers, handler_code context h p) ∷ coded_of others

eq-same : (n : ℕ) → nat_eq n n ≡ true
eq-same n = grind arith

pub handlers-coded : {known : Known} {context : ℕ} {hs : List ResolvedHandler} {p q : FunctionBuilder} (d : WritesHandlers known context hs p q) → context ≤ length p.contexts → own_in context q.handlers ≡ own_in context p.handlers ++ coded_of d
handlers-coded {context = context} (written.no_handler {p = p}) low = sym (append-nil (own_in context p.handlers))
handlers-coded {context = context} (written.handler {h = h} {p = p} {b = b} action others) low =
    let one : List Numbered = (length p.handlers, handler_code context h p) ∷ [] in
    let more = begins-length (grown-statement action).contexts in
    let next = next-handler context (out-ResolvedHandler h).kind (out-ResolvedHandler h).values p in
    let there : context ≤ length (with_handler context (out-ResolvedHandler h).kind (out-ResolvedHandler h).values p).contexts = omega (arith, low, next) in
    handlers-coded others (omega (arith, there, more))
    ∙ ap (λ l. l ++ coded_of others) ((grown-statement action).own context refl (inl there) ∙ own-more context p.handlers (handler_code context h p) ∙ ap (λ b. own_in context p.handlers ++ cond b one []) (eq-same context))
    ∙ append_assoc (own_in context p.handlers) one (coded_of others)
