-- Declared conditions, contexts and handlers of a routine that are well-formed, from some numbers of them on, up to others.
use Rattle.std.proofs.Common.{arith, ◌≡◌, ◌≤◌, ◌<◌, ℕ, suc, List, [], ◌∷◌, ◌++◌, length, slice_get, take, Some, None, inl, inr, ap, sym, ◌∙◌, subst}
use Rattle.std.proofs.lemmas.Bool.Decides.{leb_tells}
use Rattle.psm_cond.specs.declared.handlers.Context.{Context}
use Rattle.psm_cond.specs.declared.handlers.Declared.{Declared}
use Rattle.psm_cond.specs.declared.handlers.Handler.{Handler}
use Rattle.psm_code.specs.declared.code.RawRoutine.{RawRoutine}
use Rattle.psm_code.specs.RoutineRules.{context_fault, declared_fault, handler_fault}
use Rattle.psm_exprgen.specs.Writing.{BeginsWith}
use Rattle.psm_exprgen.specs.declared.known.Known.{Known}
use Rattle.psm_codegen.specs.FunctionBuilder.{FunctionBuilder}
use Rattle.psm_codegen.specs.Statements.{WritesCursors, passed}
use Rattle.psm_codegen.specs.Statements as written
use Rattle.psm_codegen.proofs.Growing.{length-snoc}
use Rattle.psm_codegen.proofs.There.{there_at}
use Rattle.psm_resolved.specs.declared.statement.ResolvedCursor.{ResolvedCursor}
use Rattle.psm_resolved.specs.declared.statement.ResolvedHandler.{ResolvedHandler}
use Rattle.psm_typing.specs.TypingContext.{Each}

-- ---- lists

-- of the items of a list from a place on, up to another one, something holds
pub record Pass {A : Type 0} (P : ℕ → A → Type 0) (xs : List A) (from to : ℕ) : Type 0 where
  pub each : (n : ℕ) (x : A) → from ≤ n → n < to → slice_get xs n ≡ Some x → P n x

same_item : {A : Type 0} (xs : List A) (n m : ℕ) (x y : A) → m ≡ n → slice_get xs n ≡ Some x → slice_get xs m ≡ Some y → x ≡ y
same_item xs n m x y e q h = let some : Some x ≡ Some y = sym q ∙ ap (slice_get xs) (sym e) ∙ h in cc

module _ {A : Type 0} {P : ℕ → A → Type 0} {xs : List A} where
  pub pass-none : {n : ℕ} → Pass P xs n n
  pass-none = record { each = λ m x a b q. absurd (omega (arith, a, b)) }

  pub pass-on : {from mid to : ℕ} → Pass P xs from mid → Pass P xs mid to → Pass P xs from to
  pass-on {from} {mid} {to} f g = record {
    each = λ n x a b q. elim (leb_tells mid n) as (λ _. P n x) [
      | inl h ↦ g.each n x h.1 b q
      | inr h ↦ f.each n x a h.1 q
    ];
  }

  -- an item more
  pub pass-one : (ys : List A) (y : A) → BeginsWith (ys ++ y ∷ []) xs → P (length ys) y → Pass P xs (length ys) (length (ys ++ y ∷ []))
  pass-one ys y b h = record {
    each = λ n x low high q.
        let same : n ≡ length ys = omega (arith, low, high, length-snoc ys y) in
        subst (λ m. P m x) (sym same) (subst (P (length ys)) (same_item xs (length ys) n y x same (there_at ys b) q) h);
  }

-- ---- all of a routine

pub record Counts : Type 0 where
  pub contexts : ℕ
  pub handlers : ℕ
  pub declared : ℕ

abbrev pub counts : FunctionBuilder → Counts
counts p = record { contexts = length p.contexts; handlers = length p.handlers; declared = length p.declared }

-- contexts are numbered from 1
abbrev pub ContextWellFormed : RawRoutine → ℕ → Context → Type 0
ContextWellFormed r n c = context_fault r (suc n) c.parent c.kind ≡ None

abbrev pub HandlerWellFormed : RawRoutine → ℕ → Handler → Type 0
HandlerWellFormed r n h = Each (λ f. f ≡ None) (handler_fault r (take n r.handlers.handlers) h)

abbrev pub DeclaredWellFormed : ℕ → Declared → Type 0
DeclaredWellFormed n d = declared_fault d ≡ None

pub record Lawful (r : RawRoutine) (from to : Counts) : Type 0 where
  pub contexts : Pass (ContextWellFormed r) r.handlers.contexts from.contexts to.contexts
  pub handlers : Pass (HandlerWellFormed r) r.handlers.handlers from.handlers to.handlers
  pub declared : Pass DeclaredWellFormed r.handlers.declared from.declared to.declared

pub lawful-none : {r : RawRoutine} {n : Counts} → Lawful r n n
lawful-none = record { contexts = pass-none; handlers = pass-none; declared = pass-none }

pub lawful-on : {r : RawRoutine} {from mid to : Counts} → Lawful r from mid → Lawful r mid to → Lawful r from to
lawful-on f g = record { contexts = pass-on f.contexts g.contexts; handlers = pass-on f.handlers g.handlers; declared = pass-on f.declared g.declared }

-- ---- cursors and the line that passes over actions add none

pub lawful-cursors : {r : RawRoutine} {known : Known} {xs : List ResolvedCursor} {p q : FunctionBuilder} → WritesCursors known xs p q → Lawful r (counts p) (counts q)
lawful-cursors written.no_cursor = lawful-none
lawful-cursors (written.cursor code m rest) = lawful-cursors rest

pub lawful-passed : {r : RawRoutine} (context start : ℕ) (hs : List ResolvedHandler) (p : FunctionBuilder) → Lawful r (counts p) (counts (passed context start hs p))
lawful-passed context start [] p = lawful-none
lawful-passed context start (h ∷ hs) p = lawful-none
