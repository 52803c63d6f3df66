-- Declared conditions and handlers by what their lines say: those that break no rule are what their lines say, and the other way round.
use Rattle.std.proofs.Common.{◌≡◌, ℕ, Bool, true, false, ◌&&◌, List, [], ◌∷◌, map, Some, None, refl, sym, ap, ap₂, ◌∙◌, arith}
use Rattle.std.specs.Prelude.{codes, nat_eq, if◌then◌else◌}
use Rattle.std.specs.Cmp.Lexicographic.{pointwise, same_text}
use Rattle.std.specs.List.{list_all}
use Rattle.psm_num.proofs.Literals.{and_first, and_second}
use Rattle.psm_sqlstate.specs.State.{IsState, is_state_character}
use Rattle.psm_cond.specs.declared.handlers.ConditionValue.{ConditionValue}
use Rattle.psm_cond.specs.declared.handlers.ConditionValue.TheVariants as values
use Rattle.psm_cond.specs.declared.handlers.Declared.{Declared}
use Rattle.psm_cond.specs.declared.handlers.Declared.TheVariants as declares
use Rattle.psm_cond.specs.declared.handlers.Handler.{Handler}
use Rattle.psm_code.specs.declared.code.RawRoutine.{RawRoutine}
use Rattle.psm_code.specs.RoutineRules.{declared_fault, is_condition, is_value_well_formed, values_of}
use Rattle.psm_words.specs.Words.{is_state_byte, IsStateWord}
use Rattle.psm_object.specs.Handlers.{condition_line, handler_kind_word, handler_line, value_word}
use Rattle.psm_words.specs.Words.{number}
use Rattle.psm_object.specs.Words.{spaced}
use Rattle.psm_load_line.specs.Forms.{HandlerHead, ValueWord, Named, NotFound, SqlException, SqlWarning, State}
use Rattle.psm_load_line.specs.Heads.{ConditionHead, EachIs, IsConditionHead, IsHandlerHead, IsValueWord, condition_head_line, handler_head_line, value_head}
use Rattle.psm_load_line.specs.Said.{declared_of, handler_of, state_of, value_of}
use Rattle.psm_load.specs.Listed.{IsListedCondition, IsListedHandler, IsListedValue}

-- ---- what the line of one says

abbrev pub condition_head : Declared → ConditionHead
condition_head (declares.OfState s) = (s, None)
condition_head (declares.Named name) = (codes "45000", Some name)

abbrev pub word_of : ConditionValue → ValueWord
word_of (values.Named n) = Named n
word_of (values.State s) = State s
word_of values.SqlException = SqlException
word_of values.SqlWarning = SqlWarning
word_of values.NotFound = NotFound

abbrev pub handler_head : Handler → HandlerHead
handler_head h = ((h.context, (h.kind, h.pc)), (word_of h.values.first, map word_of h.values.rest))

-- ---- states

byte_of : (c : ℕ) → is_state_character c ≡ true → is_state_byte c ≡ true
byte_of c h = grind (arith, h)

bytes_of : (s : List ℕ) → list_all is_state_character s ≡ true → list_all is_state_byte s ≡ true
bytes_of [] h = refl
bytes_of (c ∷ s) h =
    ap (λ b. b && list_all is_state_byte s) (byte_of c (and_first (is_state_character c) (list_all is_state_character s) h))
    ∙ bytes_of s (and_second (is_state_character c) (list_all is_state_character s) h)

state_fits : (s : List ℕ) → IsState s → IsStateWord s
state_fits s v = (v.0, bytes_of s v.1)

state_kept : (s : List ℕ) → IsState s → state_of s ≡ s
state_kept s v = ap (λ b. if b then s else codes "00000") v.1

-- ---- declared conditions

pub condition_fits : (d : Declared) → IsListedCondition d → IsConditionHead (condition_head d)
condition_fits (declares.OfState s) v = (state_fits s v, tt)
condition_fits (declares.Named name) v = ((refl, refl), v)

pub condition_again : (d : Declared) → IsListedCondition d → d ≡ declared_of (condition_head d)
condition_again (declares.OfState s) v = ap declares.OfState (sym (state_kept s v))
condition_again (declares.Named name) v = refl

pub condition_line_is : (d : Declared) → condition_line d ≡ condition_head_line (condition_head d)
condition_line_is (declares.OfState s) = refl
condition_line_is (declares.Named name) = refl

abbrev IsSaid : ConditionHead → Declared → Type 0
IsSaid h d = (condition_head_line h ≡ condition_line d) × IsListedCondition d

pub condition_said : (h : ConditionHead) → IsConditionHead h → declared_fault (declared_of h) ≡ None → IsSaid h (declared_of h)
condition_said (s, None) v e = by (list_all is_state_character s) refl e where
  by : (b : Bool) → list_all is_state_character s ≡ b → declared_fault (declares.OfState (if b then s else codes "00000")) ≡ None → IsSaid (s, None) (declares.OfState (if b then s else codes "00000"))
  by true q e = (refl, (v.0.0, q))
  by false q e = absurd (cc)
condition_said (s, Some name) v e = by (pointwise nat_eq s (codes "45000")) refl e where
  by : (b : Bool) → pointwise nat_eq s (codes "45000") ≡ b → declared_fault (if b then declares.Named name else declares.OfState (codes "00000")) ≡ None → IsSaid (s, Some name) (if b then declares.Named name else declares.OfState (codes "00000"))
  by true q e = (ap (λ t. condition_head_line (t, Some name)) (same_text s (codes "45000") (sym q)), v.1)
  by false q e = absurd (cc)

-- ---- values of conditions

pub value_fits : (v : ConditionValue) → IsListedValue v → IsValueWord (word_of v)
value_fits (values.Named n) h = h
value_fits (values.State s) h = state_fits s h
value_fits values.SqlException h = tt
value_fits values.SqlWarning h = tt
value_fits values.NotFound h = tt

values_fit : (vs : List ConditionValue) → EachIs IsListedValue vs → EachIs IsValueWord (map word_of vs)
values_fit [] h = tt
values_fit (v ∷ vs) h = (value_fits v h.0, values_fit vs h.1)

value_again : (v : ConditionValue) → IsListedValue v → v ≡ value_of (word_of v)
value_again (values.Named n) h = refl
value_again (values.State s) h = ap values.State (sym (state_kept s h))
value_again values.SqlException h = refl
value_again values.SqlWarning h = refl
value_again values.NotFound h = refl

values_again : (vs : List ConditionValue) → EachIs IsListedValue vs → vs ≡ map value_of (map word_of vs)
values_again [] h = refl
values_again (v ∷ vs) h = ap₂ (λ w ws. w ∷ ws) (value_again v h.0) (values_again vs h.1)

value_is : (v : ConditionValue) → value_word v ≡ value_head (word_of v)
value_is (values.Named n) = refl
value_is (values.State s) = refl
value_is values.SqlException = refl
value_is values.SqlWarning = refl
value_is values.NotFound = refl

values_are : (vs : List ConditionValue) → map value_word vs ≡ map value_head (map word_of vs)
values_are [] = refl
values_are (v ∷ vs) = ap₂ (λ w ws. w ∷ ws) (value_is v) (values_are vs)

value_said : (r : RawRoutine) (w : ValueWord) → IsValueWord w → is_value_well_formed r (value_of w) ≡ true → (value_head w ≡ value_word (value_of w)) × IsListedValue (value_of w)
value_said r (Named n) v e = (refl, v)
value_said r (State s) v e = by (list_all is_state_character s) refl e where
  by : (b : Bool) → list_all is_state_character s ≡ b → is_condition (if b then s else codes "00000") ≡ true
      → (value_head (State s) ≡ value_word (values.State (if b then s else codes "00000"))) × IsState (if b then s else codes "00000")
  by true q e = (refl, (v.0, q))
  by false q e = absurd (cc)
value_said r SqlException v e = (refl, tt)
value_said r SqlWarning v e = (refl, tt)
value_said r NotFound v e = (refl, tt)

values_said : (r : RawRoutine) (ws : List ValueWord) → EachIs IsValueWord ws → list_all (is_value_well_formed r) (map value_of ws) ≡ true
    → (map value_head ws ≡ map value_word (map value_of ws)) × EachIs IsListedValue (map value_of ws)
values_said r [] v e = (refl, tt)
values_said r (w ∷ ws) v e =
    let first = value_said r w v.0 (and_first (is_value_well_formed r (value_of w)) (list_all (is_value_well_formed r) (map value_of ws)) e) in
    let others = values_said r ws v.1 (and_second (is_value_well_formed r (value_of w)) (list_all (is_value_well_formed r) (map value_of ws)) e) in
    (ap₂ (λ u us. u ∷ us) first.0 others.0, (first.1, others.1))

-- ---- handlers

pub handler_fits : (h : Handler) → IsListedHandler h → IsHandlerHead (handler_head h)
handler_fits h v = ((v.0, v.1), (value_fits h.values.first v.2, values_fit h.values.rest v.3))

abbrev with_values : Handler → ConditionValue → List ConditionValue → Handler
with_values h v vs = record { context = h.context; kind = h.kind; pc = h.pc; values = record { first = v; rest = vs } }

pub handler_again : (h : Handler) → IsListedHandler h → h ≡ handler_of (handler_head h)
handler_again h v = ap₂ (with_values h) (value_again h.values.first v.2) (values_again h.values.rest v.3)

pub handler_line_is : (h : Handler) → handler_line h ≡ handler_head_line (handler_head h)
handler_line_is h = ap (λ ws. spaced (codes "HANDLER" ∷ number h.context ∷ handler_kind_word h.kind ∷ number h.pc ∷ ws)) (values_are (h.values.first ∷ h.values.rest))

pub handler_said : (r : RawRoutine) (h : HandlerHead) → IsHandlerHead h → list_all (is_value_well_formed r) (values_of (handler_of h)) ≡ true → (handler_head_line h ≡ handler_line (handler_of h)) × IsListedHandler (handler_of h)
handler_said r h v e =
    let k = values_said r (h.1.0 ∷ h.1.1) v.1 e in
    (ap (λ ws. spaced (codes "HANDLER" ∷ number h.0.0 ∷ handler_kind_word h.0.1.0 ∷ number h.0.1.1 ∷ ws)) k.0, (v.0.0, v.0.1, k.1.0, k.1.1))
