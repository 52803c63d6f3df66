-- The values of the handlers of a block: those of an action in between are of other blocks, and the next ones are new.
use Rattle.std.specs.List.{flat_map}
use Rattle.std.proofs.Common.{arith, ◌≡◌, ◌≤◌, ◌&&◌, ◌||◌, ℕ, suc, Bool, true, false, not, nat_eq, filter, if◌then◌else◌, List, [], ◌∷◌, ◌++◌, length, inl, ap, refl, sym, ◌∙◌, append_assoc, append-nil}
use Rattle.std.proofs.lemmas.Bool.{eq-eqb}
use Rattle.psm_num.proofs.Literals.{and_first, and_second}
use Rattle.psm_cond.specs.declared.handlers.ConditionValue.{ConditionValue}
use Rattle.psm_cond.specs.declared.handlers.Handler.{Handler}
use Rattle.psm_cond.specs.Handlers.{Numbered, numbered}
use Rattle.psm_code.specs.RoutineRules.{are_new, is_same_value, is_value_among, values_in, values_of}
use Rattle.psm_code.specs.Rules.{is_some}
use Rattle.psm_codegen.specs.FunctionBuilder.{FunctionBuilder, several_values, with_handler}
use Rattle.psm_codegen.proofs.Growing.{Grown, next-handler, no_context, of_context, own_in}
use Rattle.psm_resolved.specs.declared.statement.ResolvedHandler.{ResolvedHandler, out-ResolvedHandler}

-- ---- values among others

abbrev pub AreSame : List ConditionValue → List ConditionValue → Type 0
AreSame xs ys = (v : ConditionValue) → is_value_among v xs ≡ is_value_among v ys

same-more : (w : ConditionValue) (xs ys : List ConditionValue) → AreSame xs ys → AreSame (w ∷ xs) (w ∷ ys)
same-more w xs ys h v = ap (λ b. is_same_value v w || b) (h v)

-- what is new depends on which values stand before it alone
new-same : (xs ys vs : List ConditionValue) → AreSame xs ys → are_new xs vs ≡ are_new ys vs
new-same xs ys [] h = refl
new-same xs ys (v ∷ vs) h = ap (λ b. not b && are_new (v ∷ xs) vs) (h v) ∙ ap (λ b. not (is_value_among v ys) && b) (new-same (v ∷ xs) (v ∷ ys) vs (same-more v xs ys h))

turned : (a b c : Bool) → (b || (a || c)) ≡ (a || (b || c))
turned true true c = refl
turned true false c = refl
turned false true c = refl
turned false false c = refl

-- a value at the end and one at the front are among the others alike
same-moved : (v : ConditionValue) (xs ys : List ConditionValue) → AreSame (xs ++ v ∷ ys) (v ∷ (xs ++ ys))
same-moved v [] ys u = refl
same-moved v (x ∷ xs) ys u = ap (λ b. is_same_value u x || b) (same-moved v xs ys u) ∙ turned (is_same_value u v) (is_same_value u x) (is_value_among u (xs ++ ys))

-- some new values, and more that are new after them
pub new-both : (before vs ws : List ConditionValue) → are_new before (vs ++ ws) ≡ true → (are_new before vs ≡ true) × (are_new (before ++ vs) ws ≡ true)
new-both before [] ws h = (refl, ap (λ l. are_new l ws) (append-nil before) ∙ h)
new-both before (v ∷ vs) ws h =
    let one = and_first (not (is_value_among v before)) (are_new (v ∷ before) (vs ++ ws)) h in
    let others = new-both (v ∷ before) vs ws (and_second (not (is_value_among v before)) (are_new (v ∷ before) (vs ++ ws)) h) in
    (ap (λ b. b && are_new (v ∷ before) vs) one ∙ others.0, new-same (before ++ v ∷ vs) (v ∷ (before ++ vs)) ws (same-moved v before vs) ∙ others.1)

-- ---- the values of the handlers of a context

abbrev values_of_all : List Numbered → List ConditionValue
values_of_all [] = []
values_of_all (p ∷ ps) = values_of p.1 ++ values_of_all ps

chosen-values : (b : Bool) (n : ℕ) (h : Handler) (vs : List ConditionValue) (ps : List Numbered) → vs ≡ values_of_all ps → (if b then values_of h ++ vs else vs) ≡ values_of_all (if b then (n, h) ∷ ps else ps)
chosen-values true n h vs ps e = ap (λ l. values_of h ++ l) e
chosen-values false n h vs ps e = e

values-own : (k n : ℕ) (hs : List Handler) → values_in k hs ≡ values_of_all (filter (of_context k) (numbered n hs))
values-own k n [] = refl
values-own k n (h ∷ hs) = chosen-values (nat_eq h.context k) n h (values_in k hs) (filter (of_context k) (numbered (suc n) hs)) (values-own k (suc n) hs)

pub values-none : (k : ℕ) (hs : List Handler) → own_in k hs ≡ [] → values_in k hs ≡ []
values-none k hs e = values-own k 0 hs ∙ ap values_of_all e

values-same : (k : ℕ) (hs gs : List Handler) → own_in k hs ≡ own_in k gs → values_in k hs ≡ values_in k gs
values-same k hs gs e = values-own k 0 hs ∙ ap values_of_all e ∙ sym (values-own k 0 gs)

more-values : (b : Bool) (own more others vs : List ConditionValue) → more ≡ others ++ vs → (if b then own ++ more else more) ≡ (if b then own ++ others else others) ++ vs
more-values true own more others vs e = ap (λ l. own ++ l) e ∙ sym (append_assoc own others vs)
more-values false own more others vs e = e

values-more : (k : ℕ) (hs : List Handler) (h : Handler) → nat_eq h.context k ≡ true → values_in k (hs ++ h ∷ []) ≡ values_in k hs ++ values_of h
values-more k [] h e = ap (λ b. if b then values_of h ++ [] else []) e ∙ append-nil (values_of h)
values-more k (g ∷ hs) h e = more-values (nat_eq g.context k) (values_of g) (values_in k (hs ++ h ∷ [])) (values_in k hs) (values_of h) (values-more k hs h e)

-- ---- handlers of a block, one after another

-- a handler has a value
pub values-there : (vs : List ConditionValue) → is_some vs ≡ true → (several_values vs).first ∷ (several_values vs).rest ≡ vs
values-there [] h = absurd (cc)
values-there (v ∷ vs) h = refl

abbrev pub values_of_handlers : List ResolvedHandler → List ConditionValue
values_of_handlers hs = flat_map (λ h. (out-ResolvedHandler h).values) hs

-- the values of the next ones stand in none that were written
abbrev pub AreNew : ℕ → FunctionBuilder → List ResolvedHandler → Type 0
AreNew context p hs = are_new (values_in context p.handlers) (values_of_handlers hs) ≡ true

pub new-here : (context : ℕ) (p : FunctionBuilder) (h : ResolvedHandler) (hs : List ResolvedHandler) → AreNew context p (h ∷ hs) → are_new (values_in context p.handlers) (out-ResolvedHandler h).values ≡ true
new-here context p h hs n = (new-both (values_in context p.handlers) (out-ResolvedHandler h).values (values_of_handlers hs) n).0

-- after the action of one
pub new-later : (context : ℕ) (p b : FunctionBuilder) (h : ResolvedHandler) (hs : List ResolvedHandler) → is_some (out-ResolvedHandler h).values ≡ true → context ≤ length p.contexts → Grown no_context (with_handler context (out-ResolvedHandler h).kind (out-ResolvedHandler h).values p) b
    → AreNew context p (h ∷ hs) → AreNew context b hs
new-later context p b h hs some low grown n =
    let o = out-ResolvedHandler h in
    let begun = with_handler context o.kind o.values p in
    let same : values_in context b.handlers ≡ values_in context begun.handlers = values-same context b.handlers begun.handlers (grown.own context refl (inl (omega (arith, low, next-handler context o.kind o.values p)))) in
    let more : values_in context begun.handlers ≡ values_in context p.handlers ++ o.values = values-more context p.handlers _ (eq-eqb context context refl) ∙ ap (λ l. values_in context p.handlers ++ l) (values-there o.values some) in
    ap (λ l. are_new l (values_of_handlers hs)) (same ∙ more) ∙ (new-both (values_in context p.handlers) o.values (values_of_handlers hs) n).1
