-- The index of handlers.
use Rattle.std.proofs.Common.{◌≡◌, ℕ, suc, ◌+◌, ◌<◌, ◌≤◌, Bool, true, false, ◌&&◌, ◌||◌, nat_eq, cond, is_some, true≢false, length, take, get_or, List, [], ◌∷◌, ◌++◌, refl, ap, sym, ◌∙◌, arith}
use Rattle.std.specs.Prelude.{Option, Some, None, if◌then◌else◌}
use Rattle.std.specs.Cmp.Lexicographic.{pointwise}
use Rattle.std.specs.List.{list_any}
use Rattle.std.specs.Map.{lookup}
use Rattle.std.proofs.lemmas.Bool.Decides.{nat_tests, same_from_decides}
use Rattle.std.proofs.lemmas.List.{length-take-le, take_all, take_more}
use Rattle.std.proofs.lemmas.Slice.Eq.{bytes_eq-Decides}
use Rattle.psm_num.proofs.Literals.{and_first, and_second}
use Rattle.psm_cond.specs.declared.handlers.ConditionValue.{ConditionValue}
use Rattle.psm_cond.specs.declared.handlers.Handler.{Handler}
use Rattle.psm_cond.specs.declared.index.Index.{Index}
use Rattle.psm_cond.specs.declared.key.HandlerKey.{HandlerKey}
use Rattle.psm_cond.specs.Choice.{or_else}
use Rattle.psm_cond.specs.Index.{IsIndex, Notes, first_from, has_value, is_own_for}
use Rattle.psm_cond.specs.Keys.{is_value, own_number, same_key, state_text, value_kind}

-- ---- keys that are the same

abbrev Entries : Type 0
Entries = List (HandlerKey × ℕ)

numbers_back : (m n : ℕ) → nat_eq m n ≡ nat_eq n m
numbers_back m n = grind (arith, nat_tests)

number_is : (m n : ℕ) → nat_eq m n ≡ true → m ≡ n
number_is m n h = grind (arith, nat_tests, h)

texts_back : (a b : List ℕ) → pointwise nat_eq a b ≡ pointwise nat_eq b a
texts_back a b = same_from_decides (pointwise nat_eq a b) (pointwise nat_eq b a) (bytes_eq-Decides a b) (
  λ e. sym ((bytes_eq-Decides b a).0 e),
  λ e. (bytes_eq-Decides b a).1 (sym e),
)

keys_back : (a b : HandlerKey) → same_key a b ≡ same_key b a
keys_back a b = λ i.
    numbers_back a.context b.context i
    && ((numbers_back (value_kind a.value) (value_kind b.value) i && numbers_back (own_number a.value) (own_number b.value) i) && texts_back (state_text a.value) (state_text b.value) i)

-- whether a key has a context, and a value of that form, number and SQLSTATE
abbrev is_of : ℕ → ℕ → ℕ → List ℕ → HandlerKey → Bool
is_of k form n s key = nat_eq k key.context && ((nat_eq form (value_kind key.value) && nat_eq n (own_number key.value)) && pointwise nat_eq s (state_text key.value))

looked_same : (a b : HandlerKey) (es : Entries) → same_key a b ≡ true → lookup (same_key a) es ≡ lookup (same_key b) es
looked_same a b es h =
    let own : is_value a.value b.value ≡ true = and_second (nat_eq a.context b.context) (is_value a.value b.value) h in
    let numbers : (nat_eq (value_kind a.value) (value_kind b.value) && nat_eq (own_number a.value) (own_number b.value)) ≡ true =
    and_first (nat_eq (value_kind a.value) (value_kind b.value) && nat_eq (own_number a.value) (own_number b.value)) (pointwise nat_eq (state_text a.value) (state_text b.value)) own in
    let k : a.context ≡ b.context = number_is a.context b.context (and_first (nat_eq a.context b.context) (is_value a.value b.value) h) in
    let f : value_kind a.value ≡ value_kind b.value =
    number_is (value_kind a.value) (value_kind b.value)
    (and_first (nat_eq (value_kind a.value) (value_kind b.value)) (nat_eq (own_number a.value) (own_number b.value)) numbers) in
    let n : own_number a.value ≡ own_number b.value =
    number_is (own_number a.value) (own_number b.value)
    (and_second (nat_eq (value_kind a.value) (value_kind b.value)) (nat_eq (own_number a.value) (own_number b.value)) numbers) in
    let s : state_text a.value ≡ state_text b.value =
    (bytes_eq-Decides (state_text a.value) (state_text b.value)).0
    (and_second (nat_eq (value_kind a.value) (value_kind b.value) && nat_eq (own_number a.value) (own_number b.value)) (pointwise nat_eq (state_text a.value) (state_text b.value)) own) in
    λ i. lookup (is_of (k i) (f i) (n i) (s i)) es

-- ---- a number noted for a key

none_else : (o : Option ℕ) → or_else o None ≡ o
none_else None = refl
none_else (Some n) = refl

some_stays : (o other : Option ℕ) → is_some o ≡ true → or_else o other ≡ o
some_stays None other h = absurd (true≢false (sym h))
some_stays (Some n) other h = refl

nothing : (o : Option ℕ) → is_some o ≡ false → o ≡ None
nothing None h = refl
nothing (Some n) h = absurd (true≢false h)

module _ (old new : Index) (key : HandlerKey) (n : ℕ) where
  -- a key that has a number keeps it
  pub notes_there : true ≡ is_some (lookup (same_key key) old.first.entries) → new.first.entries ≡ old.first.entries → Notes (λ other. same_key other key) n old new
  notes_there there same other = ap (lookup (same_key other)) same ∙ by (same_key other key) refl
    where
      by : (b : Bool) → same_key other key ≡ b → lookup (same_key other) old.first.entries ≡ or_else (lookup (same_key other) old.first.entries) (if b then Some n else None)
      by true e = sym (some_stays (lookup (same_key other) old.first.entries) (Some n) (ap is_some (looked_same other key old.first.entries e) ∙ sym there))
      by false e = sym (none_else (lookup (same_key other) old.first.entries))

  -- a key that has none takes it
  pub notes_new : false ≡ is_some (lookup (same_key key) old.first.entries)
      → ((other : HandlerKey) → lookup (same_key other) new.first.entries ≡ cond (same_key key other) (Some n) (lookup (same_key other) old.first.entries))
      → Notes (λ other. same_key other key) n old new
  notes_new absent updated other =
      updated other
      ∙ ap (λ b. cond b (Some n) (lookup (same_key other) old.first.entries)) (keys_back key other)
      ∙ by (same_key other key) refl
    where
      by : (b : Bool) → same_key other key ≡ b → cond b (Some n) (lookup (same_key other) old.first.entries) ≡ or_else (lookup (same_key other) old.first.entries) (if b then Some n else None)
      by true e =
          sym (ap (λ o. or_else o (Some n)) (looked_same other key old.first.entries e ∙ nothing (lookup (same_key key) old.first.entries) (sym absent)))
      by false e = sym (none_else (lookup (same_key other) old.first.entries))

-- ---- a number noted for the values of a handler

noted_twice : (o : Option ℕ) (n : ℕ) (a b : Bool) → or_else (or_else o (if a then Some n else None)) (if b then Some n else None) ≡ or_else o (if a || b then Some n else None)
noted_twice (Some m) n a b = refl
noted_twice None n true b = refl
noted_twice None n false b = refl

any_last : (test : ConditionValue → Bool) (vs : List ConditionValue) (v : ConditionValue) → list_any test (vs ++ v ∷ []) ≡ (list_any test vs || test v)
any_last test [] v = by (test v)
  where
    by : (b : Bool) → (b || false) ≡ b
    by true = refl
    by false = refl
any_last test (w ∷ ws) v = ap (λ b. test w || b) (any_last test ws v) ∙ by (test w)
  where
    by : (b : Bool) → (b || (list_any test ws || test v)) ≡ ((b || list_any test ws) || test v)
    by true = refl
    by false = refl

both_or : (c a b : Bool) → (c && (a || b)) ≡ ((c && a) || (c && b))
both_or true a b = refl
both_or false a b = refl

pub notes_first : (old new : Index) (k n : ℕ) (v : ConditionValue) (vs : List ConditionValue) → vs ≡ [] → Notes (λ key. same_key key (record { context = k; value = v })) n old new
    → Notes (has_value k (v ∷ vs)) n old new
notes_first old new k n v vs e noted key =
    noted key
    ∙ ap (λ b. or_else (lookup (same_key key) old.first.entries) (if nat_eq key.context k && b then Some n else None)) (by (is_value key.value v))
    ∙ ap (λ vs. or_else (lookup (same_key key) old.first.entries) (if has_value k (v ∷ vs) key then Some n else None)) (sym e)
  where
    by : (b : Bool) → b ≡ (b || false)
    by true = refl
    by false = refl

pub notes_next : (old mid new : Index) (k n i : ℕ) (first v : ConditionValue) (vs : List ConditionValue) → i < length vs → v ≡ get_or vs i v
    → Notes (has_value k (first ∷ take i vs)) n old mid → Notes (λ key. same_key key (record { context = k; value = v })) n mid new → Notes (has_value k (first ∷ take (i + 1) vs)) n old new
notes_next old mid new k n i first v vs lt at before noted key =
    let values : take (i + 1) vs ≡ take i vs ++ v ∷ [] = take_more vs i v lt ∙ ap (λ w. take i vs ++ w ∷ []) (sym at) in
    noted key
    ∙ ap (λ o. or_else o (if nat_eq key.context k && is_value key.value v then Some n else None)) (before key)
    ∙ noted_twice (lookup (same_key key) old.first.entries) n (has_value k (first ∷ take i vs) key) (nat_eq key.context k && is_value key.value v)
    ∙ ap (λ b. or_else (lookup (same_key key) old.first.entries) (if b then Some n else None)) (
    sym (both_or (nat_eq key.context k) (list_any (is_value key.value) (first ∷ take i vs)) (is_value key.value v))
    ∙ ap (λ b. nat_eq key.context k && b) (sym (any_last (is_value key.value) (first ∷ take i vs) v))
    ∙ ap (λ vs. has_value k (first ∷ vs) key) (sym values)
    )

pub notes_all : (old new : Index) (k n i : ℕ) (first : ConditionValue) (rest : List ConditionValue) → length rest ≤ i → Notes (has_value k (first ∷ take i rest)) n old new
    → Notes (has_value k (first ∷ rest)) n old new
notes_all old new k n i first rest le noted key =
    noted key ∙ ap (λ vs. or_else (lookup (same_key key) old.first.entries) (if has_value k (first ∷ vs) key then Some n else None)) (take_all i rest le)

-- ---- the index of some handlers

first_last : (key : HandlerKey) (m : ℕ) (hs : List Handler) (h : Handler)
    → first_from key m (hs ++ h ∷ []) ≡ or_else (first_from key m hs) (if is_own_for key h then Some (m + length hs) else None)
first_last key m [] h = let z : m ≡ m + 0 = omega arith in ap (λ n. if is_own_for key h then Some n else None) z
first_last key m (g ∷ gs) h = by (is_own_for key g) (first_last key (suc m) gs h)
  where
    by : (b : Bool) → first_from key (suc m) (gs ++ h ∷ []) ≡ or_else (first_from key (suc m) gs) (if is_own_for key h then Some (suc m + length gs) else None)
        → (if b then Some m else first_from key (suc m) (gs ++ h ∷ []))
        ≡ or_else (if b then Some m else first_from key (suc m) gs) (if is_own_for key h then Some (m + suc (length gs)) else None)
    by true rec = refl
    by false rec =
        let z : suc m + length gs ≡ m + suc (length gs) = omega arith in
        rec ∙ ap (λ n. or_else (first_from key (suc m) gs) (if is_own_for key h then Some n else None)) z

pub index_next : (old new : Index) (hs : List Handler) (n m : ℕ) (h : Handler) → n < length hs → h ≡ get_or hs n h → m ≡ n
    → IsIndex old (take n hs) → Notes (λ key. is_own_for key h) m old new → IsIndex new (take (n + 1) hs)
index_next old new hs n m h lt at number before noted key =
    let more : take (n + 1) hs ≡ take n hs ++ h ∷ [] = take_more hs n h lt ∙ ap (λ g. take n hs ++ g ∷ []) (sym at) in
    let position : m ≡ 0 + length (take n hs) = let l : length (take n hs) ≡ n = length-take-le n hs (omega (arith, lt)) in omega (arith, number, l) in
    noted key
    ∙ ap (λ o. or_else o (if is_own_for key h then Some m else None)) (before key)
    ∙ ap (λ m. or_else (first_from key 0 (take n hs)) (if is_own_for key h then Some m else None)) position
    ∙ sym (first_last key 0 (take n hs) h)
    ∙ ap (first_from key 0) (sym more)

pub index_all : (index : Index) (hs : List Handler) (n : ℕ) → length hs ≤ n → IsIndex index (take n hs) → IsIndex index hs
index_all index hs n le all key = all key ∙ ap (first_from key 0) (take_all n hs le)
