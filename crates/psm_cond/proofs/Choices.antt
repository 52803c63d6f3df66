-- The choice among the handlers of one scope.
use Rattle.std.proofs.Common.{◌≡◌, ℕ, suc, Bool, true, false, ◌&&◌, ◌||◌, max, nat_eq, nat_lt, nat_le, cond, List, [], ◌∷◌, refl, ap, sym, ◌∙◌, arith}
use Rattle.std.specs.Prelude.{Option, Some, None, if◌then◌else◌}
use Rattle.std.specs.List.{filter, find, list_any}
use Rattle.std.specs.Cmp.Lexicographic.{pointwise}
use Rattle.std.proofs.lemmas.Bool.Decides.{nat_tests}
use Rattle.psm_sqlstate.specs.declared.kind.Kind.{Kind}
use Rattle.psm_sqlstate.specs.declared.kind.Kind.TheVariants as kind
use Rattle.psm_sqlstate.specs.Kind.{kind_of}
use Rattle.psm_cond.specs.declared.entry.Entry.{Entry}
use Rattle.psm_cond.specs.declared.handlers.ConditionValue.{ConditionValue}
use Rattle.psm_cond.specs.declared.handlers.ConditionValue.TheVariants.{Named, State, SqlException, SqlWarning, NotFound}
use Rattle.psm_cond.specs.declared.handlers.Handler.{Handler}
use Rattle.psm_cond.specs.Choice.{highest, chosen_in, is_exception, is_no_data, is_own, is_warning, or_else, rank, specificity}
use Rattle.psm_cond.specs.Handlers.{Numbered, numbered, handler_rank, number_of, own_handlers}
use Rattle.psm_cond.specs.Index.{class_value, first_for, first_for_any, first_from, own_value}
use Rattle.psm_cond.specs.Keys.{is_value}
use Rattle.psm_cond.specs.Tables.{HandlerTable}

pub none_chosen : (rank : Numbered → ℕ) (handlers : List Numbered) → highest rank handlers ≡ 0 → chosen_in rank handlers ≡ None
none_chosen rank [] h = refl
none_chosen rank (x ∷ xs) h = grind (arith, h, none_chosen rank xs (omega (arith, h)))

-- ---- a rank by three tests: for a condition of its own, for an SQLSTATE, for a class

abbrev by_tests : Bool → Bool → Bool → ℕ
by_tests true state class = 3
by_tests false true class = 2
by_tests false false true = 1
by_tests false false false = 0

max_tests : (o s c p t d : Bool) → max (by_tests o s c) (by_tests p t d) ≡ by_tests (o || p) (s || t) (c || d)
max_tests true s c true t d = refl
max_tests true s c false true d = refl
max_tests true s c false false true = refl
max_tests true s c false false false = refl
max_tests false true c true t d = refl
max_tests false true c false true d = refl
max_tests false true c false false true = refl
max_tests false true c false false false = refl
max_tests false false true true t d = refl
max_tests false false true false true d = refl
max_tests false false true false false true = refl
max_tests false false true false false false = refl
max_tests false false false true t d = refl
max_tests false false false false true d = refl
max_tests false false false false false true = refl
max_tests false false false false false false = refl

-- whether a value is the one looked for, where there is one
abbrev is_sought : Option ConditionValue → ConditionValue → Bool
is_sought None = λ v. false
is_sought (Some w) = is_value w

-- the tests of the value of a handler
abbrev tested : Option ℕ → List ℕ → Kind → ConditionValue → ℕ
tested own state kind v = by_tests (is_sought (own_value own) v) (is_value (State state) v) (is_sought (class_value kind) v)

alone : (b : Bool) → (if b then 3 else 0) ≡ by_tests (b && true) false false
alone true = refl
alone false = refl

named_rank : (own : Option ℕ) (state : List ℕ) (k : Kind) (n : ℕ) → (if is_own own n then 3 else 0) ≡ tested own state k (Named n)
named_rank None state kind.Success n = refl
named_rank None state kind.Warning n = refl
named_rank None state kind.NotFound n = refl
named_rank None state kind.Exception n = refl
named_rank (Some own) state kind.Success n = alone (nat_eq own n)
named_rank (Some own) state kind.Warning n = alone (nat_eq own n)
named_rank (Some own) state kind.NotFound n = alone (nat_eq own n)
named_rank (Some own) state kind.Exception n = alone (nat_eq own n)

second : (b : Bool) → (if b then 2 else 0) ≡ by_tests false b false
second true = refl
second false = refl

state_rank : (own : Option ℕ) (state : List ℕ) (k : Kind) (s : List ℕ) → (if pointwise nat_eq state s then 2 else 0) ≡ tested own state k (State s)
state_rank None state kind.Success s = second (pointwise nat_eq state s)
state_rank None state kind.Warning s = second (pointwise nat_eq state s)
state_rank None state kind.NotFound s = second (pointwise nat_eq state s)
state_rank None state kind.Exception s = second (pointwise nat_eq state s)
state_rank (Some own) state kind.Success s = second (pointwise nat_eq state s)
state_rank (Some own) state kind.Warning s = second (pointwise nat_eq state s)
state_rank (Some own) state kind.NotFound s = second (pointwise nat_eq state s)
state_rank (Some own) state kind.Exception s = second (pointwise nat_eq state s)

exception_rank : (own : Option ℕ) (state : List ℕ) (k : Kind) → (if is_exception k then 1 else 0) ≡ tested own state k SqlException
exception_rank None state kind.Success = refl
exception_rank None state kind.Warning = refl
exception_rank None state kind.NotFound = refl
exception_rank None state kind.Exception = refl
exception_rank (Some own) state kind.Success = refl
exception_rank (Some own) state kind.Warning = refl
exception_rank (Some own) state kind.NotFound = refl
exception_rank (Some own) state kind.Exception = refl

warning_rank : (own : Option ℕ) (state : List ℕ) (k : Kind) → (if is_warning k then 1 else 0) ≡ tested own state k SqlWarning
warning_rank None state kind.Success = refl
warning_rank None state kind.Warning = refl
warning_rank None state kind.NotFound = refl
warning_rank None state kind.Exception = refl
warning_rank (Some own) state kind.Success = refl
warning_rank (Some own) state kind.Warning = refl
warning_rank (Some own) state kind.NotFound = refl
warning_rank (Some own) state kind.Exception = refl

no_data_rank : (own : Option ℕ) (state : List ℕ) (k : Kind) → (if is_no_data k then 1 else 0) ≡ tested own state k NotFound
no_data_rank None state kind.Success = refl
no_data_rank None state kind.Warning = refl
no_data_rank None state kind.NotFound = refl
no_data_rank None state kind.Exception = refl
no_data_rank (Some own) state kind.Success = refl
no_data_rank (Some own) state kind.Warning = refl
no_data_rank (Some own) state kind.NotFound = refl
no_data_rank (Some own) state kind.Exception = refl

rank_tested : (e : Entry) (v : ConditionValue) → rank e v ≡ tested e.own e.state (kind_of e.state) v
rank_tested e (Named n) = named_rank e.own e.state (kind_of e.state) n
rank_tested e (State s) = state_rank e.own e.state (kind_of e.state) s
rank_tested e SqlException = exception_rank e.own e.state (kind_of e.state)
rank_tested e SqlWarning = warning_rank e.own e.state (kind_of e.state)
rank_tested e NotFound = no_data_rank e.own e.state (kind_of e.state)

-- the rank of some values by the tests
highest_tested : (e : Entry) (values : List ConditionValue)
    → highest (rank e) values
    ≡ by_tests (list_any (is_sought (own_value e.own)) values) (list_any (is_value (State e.state)) values) (list_any (is_sought (class_value (kind_of e.state))) values)
highest_tested e [] = refl
highest_tested e (v ∷ vs) =
    ap (λ n. max n (highest (rank e) vs)) (rank_tested e v)
    ∙ ap (max (tested e.own e.state (kind_of e.state) v)) (highest_tested e vs)
    ∙ max_tests (is_sought (own_value e.own) v) (is_value (State e.state) v) (is_sought (class_value (kind_of e.state)) v)
    (list_any (is_sought (own_value e.own)) vs) (list_any (is_value (State e.state)) vs) (list_any (is_sought (class_value (kind_of e.state))) vs)

-- ---- the first handler for a condition of its own is chosen, or else the first for an SQLSTATE, or else the first for a class

abbrev level : Option Numbered → Option Numbered → Option Numbered → ℕ
level (Some o) s c = 3
level None (Some s) c = 2
level None None (Some c) = 1
level None None None = 0

-- a handler before others
abbrev before : Bool → Numbered → Option Numbered → Option Numbered
before b x o = cond b (Some x) o

level_more : (x : Numbered) (o s c : Bool) (p t d : Option Numbered) → max (by_tests o s c) (level p t d) ≡ level (before o x p) (before s x t) (before c x d)
level_more x true s c (Some p) t d = refl
level_more x true s c None (Some t) d = refl
level_more x true s c None None (Some d) = refl
level_more x true s c None None None = refl
level_more x false true c (Some p) t d = refl
level_more x false true c None (Some t) d = refl
level_more x false true c None None (Some d) = refl
level_more x false true c None None None = refl
level_more x false false true (Some p) t d = refl
level_more x false false true None (Some t) d = refl
level_more x false false true None None (Some d) = refl
level_more x false false true None None None = refl
level_more x false false false (Some p) t d = refl
level_more x false false false None (Some t) d = refl
level_more x false false false None None (Some d) = refl
level_more x false false false None None None = refl

abbrev best : Option Numbered → Option Numbered → Option Numbered → Option Numbered
best o s c = or_else o (or_else s c)

best_more : (x : Numbered) (o s c : Bool) (p t d : Option Numbered)
    → (if nat_lt 0 (by_tests o s c) && nat_le (level p t d) (by_tests o s c) then Some x else best p t d) ≡ best (before o x p) (before s x t) (before c x d)
best_more x true s c (Some p) t d = refl
best_more x true s c None (Some t) d = refl
best_more x true s c None None (Some d) = refl
best_more x true s c None None None = refl
best_more x false true c (Some p) t d = refl
best_more x false true c None (Some t) d = refl
best_more x false true c None None (Some d) = refl
best_more x false true c None None None = refl
best_more x false false true (Some p) t d = refl
best_more x false false true None (Some t) d = refl
best_more x false false true None None (Some d) = refl
best_more x false false true None None None = refl
best_more x false false false (Some p) t d = refl
best_more x false false false None (Some t) d = refl
best_more x false false false None None (Some d) = refl
best_more x false false false None None None = refl

-- whether a handler has a value that is looked for
abbrev has : Option ConditionValue → Numbered → Bool
has sought p = list_any (is_sought sought) (p.1.values.first ∷ p.1.values.rest)

module _ (e : Entry) where
  abbrev own : Numbered → Bool
  own = has (own_value e.own)

  abbrev state : Numbered → Bool
  state = has (Some (State e.state))

  abbrev class : Numbered → Bool
  class = has (class_value (kind_of e.state))

  handler_tested : (x : Numbered) → handler_rank e x ≡ by_tests (own x) (state x) (class x)
  handler_tested x = highest_tested e (x.1.values.first ∷ x.1.values.rest)

  highest_found : (xs : List Numbered) → highest (handler_rank e) xs ≡ level (find own xs) (find state xs) (find class xs)
  highest_found [] = refl
  highest_found (x ∷ xs) =
      ap (λ n. max n (highest (handler_rank e) xs)) (handler_tested x)
      ∙ ap (max (by_tests (own x) (state x) (class x))) (highest_found xs)
      ∙ level_more x (own x) (state x) (class x) (find own xs) (find state xs) (find class xs)

  chosen_found : (xs : List Numbered) → chosen_in (handler_rank e) xs ≡ best (find own xs) (find state xs) (find class xs)
  chosen_found [] = refl
  chosen_found (x ∷ xs) =
      ap (λ n. if nat_lt 0 n && nat_le (highest (handler_rank e) xs) n then Some x else chosen_in (handler_rank e) xs) (handler_tested x)
      ∙ ap (λ n. if nat_lt 0 (by_tests (own x) (state x) (class x)) && nat_le n (by_tests (own x) (state x) (class x)) then Some x else chosen_in (handler_rank e) xs) (highest_found xs)
      ∙ ap (λ o. if nat_lt 0 (by_tests (own x) (state x) (class x)) && nat_le (level (find own xs) (find state xs) (find class xs)) (by_tests (own x) (state x) (class x)) then Some x else o)
      (chosen_found xs)
      ∙ best_more x (own x) (state x) (class x) (find own xs) (find state xs) (find class xs)

-- ---- the first handler of a block by its number

none_sought : (values : List ConditionValue) → list_any (is_sought None) values ≡ false
none_sought [] = refl
none_sought (v ∷ vs) = none_sought vs

none_found : (xs : List Numbered) → find (has None) xs ≡ None
none_found [] = refl
none_found (x ∷ xs) = ap (λ b. before b x (find (has None) xs)) (none_sought (x.1.values.first ∷ x.1.values.rest)) ∙ none_found xs

back : (m n : ℕ) → nat_eq m n ≡ nat_eq n m
back m n = grind (arith, nat_tests)

abbrev those : ℕ → ℕ → List Handler → List Numbered
those k n handlers = filter (λ p. nat_eq p.1.context k) (numbered n handlers)

picked : (n : ℕ) (h : Handler) (among : Bool) (o : Option Numbered) (r : Option ℕ) → number_of o ≡ r
    → number_of (cond among (Some (n, h)) o) ≡ (if among then Some n else r)
picked n h true o r e = refl
picked n h false o r e = e

first_own : (k : ℕ) (v : ConditionValue) (n : ℕ) (handlers : List Handler)
    → number_of (find (has (Some v)) (those k n handlers)) ≡ first_from (record { context = k; value = v }) n handlers
first_own k v n [] = refl
first_own k v n (h ∷ hs) =
    by (nat_eq h.context k) (first_own k v (suc n) hs)
    ∙ ap (λ b. if b && list_any (is_value v) (h.values.first ∷ h.values.rest) then Some n else first_from (record { context = k; value = v }) (suc n) hs) (back h.context k)
  where
    by : (own : Bool) → number_of (find (has (Some v)) (those k (suc n) hs)) ≡ first_from (record { context = k; value = v }) (suc n) hs
        → number_of (find (has (Some v)) (cond own ((n, h) ∷ those k (suc n) hs) (those k (suc n) hs)))
        ≡ (if own && list_any (is_value v) (h.values.first ∷ h.values.rest) then Some n else first_from (record { context = k; value = v }) (suc n) hs)
    by true rec = picked n h (list_any (is_value v) (h.values.first ∷ h.values.rest)) (find (has (Some v)) (those k (suc n) hs)) (first_from (record { context = k; value = v }) (suc n) hs) rec
    by false rec = rec

first_sought : (t : HandlerTable) (k : ℕ) (sought : Option ConditionValue) → number_of (find (has sought) (own_handlers t k)) ≡ first_for_any t.handlers k sought
first_sought t k None = ap number_of (none_found (own_handlers t k))
first_sought t k (Some v) = first_own k v 0 t.handlers

number_best : (o s c : Option Numbered) → number_of (best o s c) ≡ or_else (number_of o) (or_else (number_of s) (number_of c))
number_best (Some o) s c = refl
number_best None (Some s) c = refl
number_best None None c = refl

module _ (t : HandlerTable) (k : ℕ) (e : Entry) where
  abbrev choice_there : Option ℕ
  choice_there = number_of (chosen_in (handler_rank e) (own_handlers t k))

  chosen_first : choice_there ≡ or_else (first_for_any t.handlers k (own_value e.own)) (or_else (first_for t.handlers k (State e.state)) (first_for_any t.handlers k (class_value (kind_of e.state))))
  chosen_first =
      let hs = own_handlers t k in
      ap number_of (chosen_found e hs)
      ∙ number_best (find (own e) hs) (find (state e) hs) (find (class e) hs)
      ∙ ap (λ o. or_else o (or_else (number_of (find (state e) hs)) (number_of (find (class e) hs)))) (first_sought t k (own_value e.own))
      ∙ ap (λ s. or_else (first_for_any t.handlers k (own_value e.own)) (or_else s (number_of (find (class e) hs)))) (first_sought t k (Some (State e.state)))
      ∙ ap (λ c. or_else (first_for_any t.handlers k (own_value e.own)) (or_else (first_for t.handlers k (State e.state)) c)) (first_sought t k (class_value (kind_of e.state)))

  pub chosen_own : (n : ℕ) → Some n ≡ first_for_any t.handlers k (own_value e.own) → Some n ≡ choice_there
  chosen_own n h =
      ap (λ o. or_else o (or_else (first_for t.handlers k (State e.state)) (first_for_any t.handlers k (class_value (kind_of e.state))))) h
      ∙ sym chosen_first

  pub chosen_state : (n : ℕ) → None ≡ first_for_any t.handlers k (own_value e.own) → Some n ≡ first_for t.handlers k (State e.state) → Some n ≡ choice_there
  chosen_state n h g =
      ap (λ s. or_else s (first_for_any t.handlers k (class_value (kind_of e.state)))) g
      ∙ ap (λ o. or_else o (or_else (first_for t.handlers k (State e.state)) (first_for_any t.handlers k (class_value (kind_of e.state))))) h
      ∙ sym chosen_first

  pub chosen_class : (r : Option ℕ) → None ≡ first_for_any t.handlers k (own_value e.own) → None ≡ first_for t.handlers k (State e.state)
      → r ≡ first_for_any t.handlers k (class_value (kind_of e.state)) → r ≡ choice_there
  chosen_class r h g p =
      p
      ∙ ap (λ s. or_else s (first_for_any t.handlers k (class_value (kind_of e.state)))) g
      ∙ ap (λ o. or_else o (or_else (first_for t.handlers k (State e.state)) (first_for_any t.handlers k (class_value (kind_of e.state))))) h
      ∙ sym chosen_first
