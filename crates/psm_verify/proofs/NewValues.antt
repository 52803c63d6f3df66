-- Values of handlers that are new in their block.
use Rattle.std.proofs.Common.{◌≡◌, ℕ, Bool, true, false, ◌&&◌, ◌||◌, not, nat_eq, List, [], ◌∷◌, ◌++◌, map, refl, ap, sym, ◌∙◌}
use Rattle.std.specs.Prelude.{if◌then◌else◌}
use Rattle.std.specs.List.{flat_map}
use Rattle.std.proofs.lemmas.Bool.{eq-eqb}
use Rattle.psm_cond.specs.declared.handlers.ConditionValue.{ConditionValue}
use Rattle.psm_cond.specs.declared.handlers.Handler.{Handler}
use Rattle.psm_code.specs.RoutineRules.{are_new, is_same_value, is_value_among, values_in, values_of}
use Rattle.psm_keys.specs.Fresh.{is_new}
use Rattle.psm_keys.specs.Handled.{are_all_new, handled_by, is_same_handled}
use Rattle.psm_verify.specs.Earlier.{are_new_values}

abbrev Pairs : Type 0
Pairs = List (ℕ × ConditionValue)

-- the values of a block
abbrev values_at : ℕ → Pairs → List ConditionValue
values_at k [] = []
values_at k (p ∷ ps) = if nat_eq p.0 k then p.1 ∷ values_at k ps else values_at k ps

or-assoc : (a b c : Bool) → (a || (b || c)) ≡ ((a || b) || c)
or-assoc true b c = refl
or-assoc false b c = refl

or-last : (a b : Bool) → (a || (b || false)) ≡ (b || a)
or-last true true = refl
or-last true false = refl
or-last false true = refl
or-last false false = refl

not-or : (a b : Bool) → not (a || b) ≡ (not a && not b)
not-or true b = refl
not-or false b = refl

among-append : (v : ConditionValue) (us ws : List ConditionValue) → is_value_among v (us ++ ws) ≡ (is_value_among v us || is_value_among v ws)
among-append v [] ws = refl
among-append v (a ∷ us) ws = ap (λ b. is_same_value v a || b) (among-append v us ws) ∙ or-assoc (is_same_value v a) (is_value_among v us) (is_value_among v ws)

new_among : (k : ℕ) (v : ConditionValue) (ps : Pairs) → is_new is_same_handled (k, v) ps ≡ not (is_value_among v (values_at k ps))
new_among k v [] = refl
new_among k v (p ∷ ps) = ap (λ b. not (nat_eq p.0 k && is_same_value v p.1) && b) (new_among k v ps) ∙ by (nat_eq p.0 k) where
  by : (t : Bool) → (not (t && is_same_value v p.1) && not (is_value_among v (values_at k ps))) ≡ not (is_value_among v (if t then p.1 ∷ values_at k ps else values_at k ps))
  by true = sym (not-or (is_same_value v p.1) (is_value_among v (values_at k ps)))
  by false = refl

-- ---- the values of handlers

if-append : (b : Bool) (us ws : List ConditionValue) → ((if b then us else []) ++ ws) ≡ (if b then us ++ ws else ws)
if-append true us ws = refl
if-append false us ws = refl

values-append : (k : ℕ) (ps qs : Pairs) → values_at k (ps ++ qs) ≡ values_at k ps ++ values_at k qs
values-append k [] qs = refl
values-append k (p ∷ ps) qs = by (nat_eq p.0 k) (values-append k ps qs) where
  by : (t : Bool) → values_at k (ps ++ qs) ≡ values_at k ps ++ values_at k qs
      → (if t then p.1 ∷ values_at k (ps ++ qs) else values_at k (ps ++ qs)) ≡ (if t then p.1 ∷ values_at k ps else values_at k ps) ++ values_at k qs
  by true e = ap (λ l. p.1 ∷ l) e
  by false e = e

values-of : (k c : ℕ) (vs : List ConditionValue) → values_at k (map (λ v. (c, v)) vs) ≡ (if nat_eq c k then vs else [])
values-of k c vs = by (nat_eq c k) refl vs where
  by : (t : Bool) → nat_eq c k ≡ t → (vs : List ConditionValue) → values_at k (map (λ v. (c, v)) vs) ≡ (if t then vs else [])
  by true e [] = refl
  by true e (v ∷ vs) = ap (λ b. if b then v ∷ values_at k (map (λ v. (c, v)) vs) else values_at k (map (λ v. (c, v)) vs)) e ∙ ap (λ l. v ∷ l) (by true e vs)
  by false e [] = refl
  by false e (v ∷ vs) = ap (λ b. if b then v ∷ values_at k (map (λ v. (c, v)) vs) else values_at k (map (λ v. (c, v)) vs)) e ∙ by false e vs

values-handled : (k : ℕ) (hs : List Handler) → values_at k (flat_map handled_by hs) ≡ values_in k hs
values-handled k [] = refl
values-handled k (h ∷ hs) =
    values-append k (handled_by h) (flat_map handled_by hs)
    ∙ ap (λ l. l ++ values_at k (flat_map handled_by hs)) (values-of k h.context (values_of h))
    ∙ ap (λ l. (if nat_eq h.context k then values_of h else []) ++ l) (values-handled k hs)
    ∙ if-append (nat_eq h.context k) (values_of h) (values_in k hs)

-- ---- those of one handler, one after another

-- a list has the values of a block among those that were added
abbrev Holds : ℕ → List ConditionValue → Pairs → Type 0
Holds k us ps = (w : ConditionValue) → is_value_among w us ≡ is_value_among w (values_at k ps)

same-number : (k : ℕ) → nat_eq k k ≡ true
same-number k = eq-eqb k k refl

holds-more : (k : ℕ) (v : ConditionValue) (us : List ConditionValue) (ps : Pairs) → Holds k us ps → Holds k (v ∷ us) (ps ++ (k, v) ∷ [])
holds-more k v us ps h w =
    ap (λ b. is_same_value w v || b) (h w) ∙ sym (
    ap (is_value_among w) (values-append k ps ((k, v) ∷ []) ∙ ap (λ b. values_at k ps ++ (if b then v ∷ [] else [])) (same-number k))
    ∙ among-append w (values_at k ps) (v ∷ []) ∙ or-last (is_value_among w (values_at k ps)) (is_same_value w v))

all-new : (k : ℕ) (us vs : List ConditionValue) (ps : Pairs) → Holds k us ps → are_all_new ps (map (λ v. (k, v)) vs) ≡ are_new us vs
all-new k us [] ps h = refl
all-new k us (v ∷ vs) ps h =
    ap (λ b. b && are_all_new (ps ++ (k, v) ∷ []) (map (λ v. (k, v)) vs)) (new_among k v ps ∙ ap not (sym (h v)))
    ∙ ap (λ b. not (is_value_among v us) && b) (all-new k (v ∷ us) vs (ps ++ (k, v) ∷ []) (holds-more k v us ps h))

pub new_values : (before : List Handler) (h : Handler) → are_new_values before h ≡ are_new (values_in h.context before) (values_of h)
new_values before h = all-new h.context (values_in h.context before) (values_of h) (flat_map handled_by before) (λ w. ap (is_value_among w) (sym (values-handled h.context before)))
