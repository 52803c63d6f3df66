-- What has been written is in the routine at its number.
use Rattle.std.specs.Prelude.{reverse}
use Rattle.std.proofs.Common.{◌≡◌, ◌-◌, ◌<◌, ◌≤◌, ℕ, suc, Bool, true, false, List, [], ◌∷◌, ◌++◌, length, nat_lt, slice_get, Some, None, if◌then◌else◌, ap, refl, ◌∙◌, inl, inr, arith}
use Rattle.psm_cond.specs.declared.handlers.Context.{Context}
use Rattle.psm_cond.specs.Tables.{HandlerTable}
use Rattle.psm_cond.specs.Handlers.{context_at, own_handlers}
use Rattle.psm_code.specs.declared.code.RawRoutine.{RawRoutine}
use Rattle.psm_code.specs.declared.instruction.Instruction.{Instruction}
use Rattle.psm_simulation.specs.Env.{Numbers, Plain, Visible}
use Rattle.psm_exprgen.specs.Writing.{Begins, BeginsWith}
use Rattle.psm_exprgen.specs.Written.{Written, here}
use Rattle.psm_exprgen.proofs.Growth.{begins-before, begins-earlier}
use Rattle.psm_codegen.specs.FunctionBuilder.{FunctionBuilder}
use Rattle.psm_codegen.proofs.Growing.{Grown, begins-length, no_context, own_in}
use Rattle.psm_codegen.proofs.There.{line_of, there_at}

-- ---- lines

-- a line that is read as one that may raise a condition
pub puts-plain : (context resume : ℕ) {i : Instruction} (w : Written) {r : RawRoutine} → BeginsWith (w.lines ++ line_of context (Some resume) i w ∷ []) r.lines → Plain r (here w) i
puts-plain context resume w b = record { context = context; stack = reverse w.stack; resume = Some resume; there = there_at w.lines b }

-- ---- contexts

pub context-there : (t : HandlerTable) (n : ℕ) (c : Context) → slice_get t.contexts n ≡ Some c → context_at t (suc n) ≡ Some c
context-there t n c e =
    let f : suc n - 1 ≡ n = omega arith in
    let g : nat_lt 0 (suc n) ≡ true = grind arith in
    ap (λ b. if b then slice_get t.contexts (suc n - 1) else None) g ∙ ap (slice_get t.contexts) f ∙ e

-- ---- parts

pub record Kept (q : FunctionBuilder) (r : RawRoutine) : Type 0 where
  pub code : Begins q.code r
  pub contexts : BeginsWith q.contexts r.handlers.contexts
  pub handlers : BeginsWith q.handlers r.handlers.handlers
  pub declared : BeginsWith q.declared r.handlers.declared
  pub plans : BeginsWith q.plans r.plans
  pub cursors : BeginsWith q.cursors r.cursors

pub kept-earlier : {but : ℕ → Bool} {p q : FunctionBuilder} {r : RawRoutine} → Grown but p q → Kept q r → Kept p r
kept-earlier g k = record {
  code = begins-earlier g.code k.code;
  contexts = begins-before g.contexts k.contexts;
  handlers = begins-before g.handlers k.handlers;
  declared = begins-before g.declared k.declared;
  plans = begins-before g.plans k.plans;
  cursors = begins-before g.cursors k.cursors;
}

-- no block that is visible has a context after that number
abbrev pub AllUpTo : ℕ → List Visible → Type 0
AllUpTo n [] = Unit {0}
AllUpTo n (v ∷ vs) = (v.context ≤ n) × AllUpTo n vs

pub all-more : (n m : ℕ) (vs : List Visible) → n ≤ m → AllUpTo n vs → AllUpTo m vs
all-more n m [] h a = tt
all-more n m (v ∷ vs) h a = (omega (arith, h, a.0), all-more n m vs h a.1)

-- What is written from p up to q is in the routine, which has no more handlers of the contexts between than there are after q. The
-- contexts of what is visible are written before p, and no handler of a later one; cursors that are written may be declared.
pub record Space (r : RawRoutine) (k : ℕ) (vs : List Visible) (allowed : Numbers) (p q : FunctionBuilder) : Type 0 where
  pub kept : Kept q r
  pub own : (k : ℕ) → length p.contexts < k → k ≤ length q.contexts → own_handlers r.handlers k ≡ own_in k q.handlers
  pub low : (k : ℕ) → length p.contexts < k → own_in k p.handlers ≡ []
  pub free : (n : ℕ) → length p.cursors ≤ n → n < length q.cursors → allowed n ≡ true
  pub context : k ≤ length p.contexts
  pub visible : AllUpTo (length p.contexts) vs

-- up to an earlier end
pub space-first : {but : ℕ → Bool} {r : RawRoutine} {context : ℕ} {visible : List Visible} {free : Numbers} {p b q : FunctionBuilder} → Grown but b q → ((k : ℕ) → length p.contexts < k → but k ≡ false) → Space r context visible free p q → Space r context visible free p b
space-first {b} {q} g other s = record {
  kept = kept-earlier g s.kept;
  own = λ k low high. let h = begins-length g.contexts in s.own k low (omega (arith, h, high)) ∙ g.own k (other k low) (inl high);
  low = s.low;
  free = λ n low high. let h = begins-length g.cursors in s.free n low (omega (arith, h, high));
  context = s.context;
  visible = s.visible;
}

-- from a later start
pub space-last : {but : ℕ → Bool} {r : RawRoutine} {context : ℕ} {visible : List Visible} {free : Numbers} {p b q : FunctionBuilder} → Grown but p b → ((k : ℕ) → length b.contexts < k → but k ≡ false) → Space r context visible free p q → Space r context visible free b q
space-last {visible = visible} {p = p} {b = b} g other s = record {
  kept = s.kept;
  own = λ k low high. let h = begins-length g.contexts in s.own k (omega (arith, h, low)) high;
  low = λ k low. let h = begins-length g.contexts in g.own k (other k low) (inr low) ∙ s.low k (omega (arith, h, low));
  free = λ n low high. let h = begins-length g.cursors in s.free n (omega (arith, h, low)) high;
  context = let h = begins-length g.contexts in omega (arith, h, s.context);
  visible = all-more (length p.contexts) (length b.contexts) visible (begins-length g.contexts) s.visible;
}

pub space-part : {r : RawRoutine} {context : ℕ} {visible : List Visible} {free : Numbers} {p b c q : FunctionBuilder} → Grown no_context p b → Grown no_context c q → Space r context visible free p q → Space r context visible free b c
space-part g h s = space-first h (λ k l. refl) (space-last g (λ k l. refl) s)
