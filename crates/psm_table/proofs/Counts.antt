-- How many slots and entries a table keeps.
use Rattle.std.proofs.Common.{◌≡◌, ℕ, zero, suc, ◌+◌, ◌*◌, ◌<◌, ◌≤◌, List, [], ◌∷◌, ◌++◌, length, get_or, set, drop, Bool, true, false, not, ◌||◌, refl, ap, sym, subst, ◌∙◌, arith, Some, None}
use Rattle.std.specs.Prelude.{All, cond, filter, find, is_some, map, Option}
use Rattle.std.specs.List.{cons_option}
use Rattle.std.proofs.lemmas.List.{length-map, map-append}
use Rattle.std.proofs.lemmas.List.Elements.{All-head, All-push, All-tail}
use Rattle.std.specs.declared.cmp.Ordering.TheVariants.{Less, Equal, Greater}
use Rattle.std.specs.Ordering.{is_eq, ordering_reverse}
use Rattle.psm_value.specs.declared.datum.Datum.{Datum}
use Rattle.psm_table.specs.declared.definition.TableDef.{TableDef}
use Rattle.psm_table.specs.declared.map.Pair.{Pair}
use Rattle.psm_table.specs.Held.{entries_of, full_count, live_rows, row_of, state_of, AreCounted, HasItsKey}
use Rattle.psm_table.specs.Index.{is_current, GrowByOne}
use Rattle.psm_table.specs.Key.{key_order, row_order, values_at}
use Rattle.psm_table.specs.Map.{keys_of, AreAscending}
use Rattle.psm_table.specs.Mapped.{Mapped}
use Rattle.psm_table.specs.State.{entry_of, few_left, has_key, IsTidy, KeepsAtMost, State}
use Rattle.psm_table.specs.Unique.{has_null}
use Rattle.psm_table.proofs.Filters.{equal_is, filtered, AllPairs-first, AllPairs-rest}
use Rattle.psm_table.proofs.KeyLaws.{key_order-total}
use Rattle.psm_table.proofs.Keys.{or_right}
use Rattle.psm_table.proofs.Lives.{rows-find}
use Rattle.psm_table.proofs.Pairs.{Rises}
use Rattle.psm_table.proofs.Rivals.{and_true, equal_sym}

abbrev pub Key : Type 0
Key = List Datum

abbrev pub Slot : Type 0
Slot = Pair (Option (List Datum))

abbrev pub Sets : Type 0
Sets = List (Mapped (Unit {0}))

-- the keys that are not equal to a key
abbrev others : Key → List Key → List Key
others x ys = filter (λ y. not (is_eq (key_order y x))) ys

others-fewer_step : (y : Key) (ys rest : List Key) (b c : Bool) → length rest ≤ length ys → (c ≡ true → length rest < length ys) → (b || c) ≡ true
    → length (cond (not b) (y ∷ rest) rest) < length (y ∷ ys)
others-fewer_step y ys rest true c l f e = omega (arith, l)
others-fewer_step y ys rest false c l f e = omega (arith, f e)

others-within_step : (y : Key) (ys rest : List Key) (b : Bool) → length rest ≤ length ys → length (cond (not b) (y ∷ rest) rest) ≤ length (y ∷ ys)
others-within_step y ys rest true l = omega (arith, l)
others-within_step y ys rest false l = omega (arith, l)

others-within : (x : Key) (ys : List Key) → length (others x ys) ≤ length ys
others-within x [] = omega arith
others-within x (y ∷ ys) = others-within_step y ys (others x ys) (is_eq (key_order y x)) (others-within x ys)

others-fewer : (x : Key) (ys : List Key) → has_key ys x ≡ true → length (others x ys) < length ys
others-fewer x [] h = cc
others-fewer x (y ∷ ys) h = others-fewer_step y ys (others x ys) (is_eq (key_order y x)) (has_key ys x) (others-within x ys) (others-fewer x ys) h

-- a greater key that is there is among the others
module _ (x z : Key) (less : key_order x z ≡ Less) where
  apart : (y : Key) → is_eq (key_order y z) ≡ true → is_eq (key_order y x) ≡ false
  apart y e =
      let turned : key_order z x ≡ Greater = key_order-total.antisymm z x ∙ ap ordering_reverse less in
      ap is_eq (key_order-total.congr y z x (equal_is (key_order y z) e) ∙ turned)

  others-has_step : (y : Key) (ys rest : List Key) (a b : Bool) → is_eq (key_order y z) ≡ a → (a ≡ true → b ≡ false) → (has_key ys z ≡ true → has_key rest z ≡ true)
      → (a || has_key ys z) ≡ true → has_key (cond (not b) (y ∷ rest) rest) z ≡ true
  others-has_step y ys rest true true e f h g = absurd (let c : true ≡ false = f refl in cc)
  others-has_step y ys rest true false e f h g = rw e refl
  others-has_step y ys rest false true e f h g = h g
  others-has_step y ys rest false false e f h g = or_right (is_eq (key_order y z)) (has_key rest z) (h g)

  others-has : (ys : List Key) → has_key ys z ≡ true → has_key (others x ys) z ≡ true
  others-has [] h = h
  others-has (y ∷ ys) h = others-has_step y ys (others x ys) (is_eq (key_order y z)) (is_eq (key_order y x)) refl (apart y) (others-has ys) h

-- pairs in ascending order whose keys are all among some keys are no more than those
pub ascending-within : {V : Type 0} (pairs : List (Pair V)) (keys : List Key) → AreAscending pairs → All (λ (p : Pair V). has_key keys p.key ≡ true) pairs → length pairs ≤ length keys
ascending-within {V} [] keys up h = omega arith
ascending-within {V} (p ∷ ps) keys up h =
    let first = All-head (λ (q : Pair V). has_key keys q.key ≡ true) p ps h in
    let rest : All (λ (q : Pair V). has_key (others p.key keys) q.key ≡ true) ps = λ k d l.
    others-has p.key (get_or ps k d).key (AllPairs-first Rises p ps up k d l) keys (All-tail (λ (q : Pair V). has_key keys q.key ≡ true) p ps h k d l) in
    omega (arith, ascending-within ps (others p.key keys) (AllPairs-rest Rises p ps up) rest, others-fewer p.key keys first)

-- a row that is found has its entry among those of all rows
entry-found_step : (f : List Datum → Key) (e : Key) (r : List Datum) (rs : List (List Datum)) (row : List Datum) (o : Option (List Datum)) (b : Bool) → cond b (Some r) o ≡ Some row
    → is_eq (key_order (f row) e) ≡ true → (o ≡ Some row → has_key (map f rs) e ≡ true) → (is_eq (key_order (f r) e) || has_key (map f rs) e) ≡ true
entry-found_step f e r rs row o true s h t =
    let same : r ≡ row = cc in
    ap (λ q. is_eq (key_order (f q) e) || has_key (map f rs) e) same ∙ ap (λ c. c || has_key (map f rs) e) h
entry-found_step f e r rs row o false s h t = or_right (is_eq (key_order (f r) e)) (has_key (map f rs) e) (t s)

entry-found : (t : List Datum → Bool) (f : List Datum → Key) (e : Key) (rows : List (List Datum)) (row : List Datum) → find t rows ≡ Some row → is_eq (key_order (f row) e) ≡ true → has_key (map f rows) e ≡ true
entry-found t f e [] row s h = cc
entry-found t f e (r ∷ rs) row s h = entry-found_step f e r rs row (find t rs) (t r) s h (λ g. entry-found t f e rs row g h)

module _ (def : TableDef) (columns : List ℕ) (pairs : List Slot) (up : AreAscending pairs) (keyed : All (HasItsKey def.key) pairs) where
  -- an entry of a row that is there is among the entries of the rows
  current_found : (e : Key) (o : Option (List Datum)) → row_of (drop (length columns) e) pairs ≡ o → is_current def.key columns e o ≡ true
      → has_key (map (entry_of def columns) (live_rows pairs)) e ≡ true
  current_found e None s h = cc
  current_found e (Some row) s h =
      let is : is_eq (key_order e (entry_of def columns row)) ≡ true = (and_true (not (has_null (values_at columns row))) (is_eq (key_order e (entry_of def columns row))) h).1 in
      let back : key_order (entry_of def columns row) e ≡ Equal = equal_sym e (entry_of def columns row) (equal_is (key_order e (entry_of def columns row)) is) in
      entry-found (λ r. is_eq (row_order def.key (drop (length columns) e) r)) (entry_of def columns) e (live_rows pairs) row
      (sym (rows-find def.key (drop (length columns) e) pairs up keyed) ∙ s) (ap is_eq back)

  -- so there are no more of them than rows
  pub current-within : (new old : List (Pair (Unit {0}))) → new ≡ filter (λ p. is_current def.key columns p.key (row_of (drop (length columns) p.key) pairs)) old → AreAscending new → length new ≤ length (live_rows pairs)
  current-within new old e ascend =
      let among : All (λ (p : Pair (Unit {0})). has_key (map (entry_of def columns) (live_rows pairs)) p.key ≡ true) new =
      subst (All (λ (p : Pair (Unit {0})). has_key (map (entry_of def columns) (live_rows pairs)) p.key ≡ true)) (sym e)
      (filtered (λ (p : Pair (Unit {0})). is_current def.key columns p.key (row_of (drop (length columns) p.key) pairs)) (λ (p : Pair (Unit {0})). has_key (map (entry_of def columns) (live_rows pairs)) p.key ≡ true)
      (λ p c. current_found p.key (row_of (drop (length columns) p.key) pairs) refl c) old) in
      omega (arith, ascending-within new (map (entry_of def columns) (live_rows pairs)) ascend among, length-map (live_rows pairs) (entry_of def columns))

-- where the sets before an index have few entries, and the one that is put there
pub few-set : (n : ℕ) (sets : Sets) (i : ℕ) (m : Mapped (Unit {0})) → i < length sets → length m.pairs ≤ n
    → ((k : ℕ) (d : List Key) → k < i → length (get_or (entries_of sets) k d) ≤ n) → (k : ℕ) (d : List Key) → k < i + 1 → length (get_or (entries_of (set sets i m)) k d) ≤ n
few-set n [] i m l few h k d b = absurd (omega arith)
few-set n (x ∷ xs) zero m l few h zero d b = omega (arith, few, length-map m.pairs (λ (p : Pair (Unit {0})). p.key))
few-set n (x ∷ xs) zero m l few h (suc k) d b = absurd (omega (arith, b))
few-set n (x ∷ xs) (suc i) m l few h zero d b = h 0 d (omega arith)
few-set n (x ∷ xs) (suc i) m l few h (suc k) d b = few-set n xs i m (omega (arith, l)) few (λ j c g. h (suc j) c (omega (arith, g))) k d (omega (arith, b))

-- one empty set more
pub few-pushed : (n : ℕ) (sets : Sets) (m : Mapped (Unit {0})) → m.pairs ≡ [] → All (λ es. length es ≤ n) (entries_of sets) → All (λ es. length es ≤ n) (entries_of (sets ++ m ∷ []))
few-pushed n sets m e h =
    subst (All (λ (es : List Key). length es ≤ n)) (sym (map-append (λ (x : Mapped (Unit {0})). keys_of x.pairs) sets (m ∷ [])))
    (All-push (λ (es : List Key). length es ≤ n) (entries_of sets) (keys_of m.pairs) h (omega (arith, ap (λ (ps : List (Pair (Unit {0}))). length (keys_of ps)) e)))

-- empty sets
pub empty-pushed : (sets : Sets) (m : Mapped (Unit {0})) → m.pairs ≡ [] → All (λ es. length es ≤ 0) (entries_of sets) → All (λ es. length es ≤ 0) (entries_of (sets ++ m ∷ []))
empty-pushed sets m e h = few-pushed 0 sets m e h

pub counted-new : (def : TableDef) (lists : List (List ℕ)) (rows : Mapped (Option (List Datum))) (sets : Sets) → rows.pairs ≡ [] → All (λ es. length es ≤ 0) (entries_of sets) → AreCounted (state_of def lists rows sets) 0
counted-new def lists rows sets e none l = record {
  slots = omega (arith, ap (λ (ps : List Slot). length (keys_of ps)) e);
  entries = λ k d m. omega (arith, none k d m);
}

-- a state that has the same slots and entries
pub counted-kept : (old new : State) (left now : ℕ) → (now < full_count → (left < full_count) × (length old.contents.rows + left ≤ length new.contents.rows + now)) → new.slots ≡ old.slots → new.entries ≡ old.entries
    → AreCounted old left → AreCounted new now
counted-kept old new left now f p e h l =
    let total = f l in
    let kept = h total.0 in
    record {
      slots = omega (arith, kept.slots, total.1, ap length p);
      entries = subst (All (λ (es : List Key). length es ≤ length new.contents.rows + now)) (sym e) (λ k d m. omega (arith, kept.entries k d m, total.1));
    }

-- a state that has at most one slot more, and one entry more in each set
pub counted-grown : (old new : State) (left now : ℕ) → (now < full_count → (left < full_count) × (length old.contents.rows + left < length new.contents.rows + now)) → length new.slots ≤ length old.slots + 1
    → length new.entries ≡ length old.entries → GrowByOne old.entries new.entries → AreCounted old left → AreCounted new now
counted-grown old new left now f p long grow h l =
    let total = f l in
    let kept = h total.0 in
    record {
      slots = omega (arith, kept.slots, total.1, p);
      entries = λ k d m. omega (arith, kept.entries k d (omega (arith, m, long)), grow k d (omega (arith, m, long)), total.1);
    }

-- a map of which the keys without a row went
settled-count_step : (p : Slot) (o : Option (List Datum)) (ps rest : List Slot) → length rest ≡ length (live_rows ps) → length (cond (is_some o) (p ∷ rest) rest) ≡ length (cons_option o (live_rows ps))
settled-count_step p None ps rest e = e
settled-count_step p (Some row) ps rest e = ap suc e

settled-count : (pairs : List Slot) → length (filter (λ p. is_some p.value) pairs) ≡ length (live_rows pairs)
settled-count [] = refl
settled-count (p ∷ ps) = settled-count_step p p.value ps (filter (λ q. is_some q.value) ps) (settled-count ps)

pub settled-within : (def : TableDef) (lists : List (List ℕ)) (rows new : Mapped (Option (List Datum))) (sets : Sets) → new.pairs ≡ filter (λ p. is_some p.value) rows.pairs → All (λ es. length es ≤ length (live_rows rows.pairs)) (entries_of sets)
    → KeepsAtMost (length (live_rows rows.pairs)) (state_of def lists new sets)
settled-within def lists rows new sets e few = record {
  slots = omega (arith, length-map new.pairs (λ (p : Slot). p.key), ap length e, settled-count rows.pairs);
  entries = few;
}

pub keeps-more : (s : State) (a b : ℕ) → a ≤ b → KeepsAtMost a s → KeepsAtMost b s
keeps-more s a b l h = record { slots = omega (arith, l, h.slots); entries = λ k d m. omega (arith, l, h.entries k d m) }

-- a table with few rows left is tidy
pub tidy-few : (s : State) (left : ℕ) → left < full_count → left ≤ length s.contents.rows + few_left → AreCounted s left → IsTidy s
tidy-few s left l few h = keeps-more s (length s.contents.rows + left) (2 * length s.contents.rows + few_left) (omega (arith, few)) (h l)

pub tidy-grown : (old new : State) → length old.contents.rows < length new.contents.rows → length new.slots ≤ length old.slots + 1 → length new.entries ≡ length old.entries → GrowByOne old.entries new.entries
    → IsTidy old → IsTidy new
tidy-grown old new more p long grow h = record {
  slots = omega (arith, h.slots, more, p);
  entries = λ k d m. omega (arith, h.entries k d (omega (arith, m, long)), grow k d (omega (arith, m, long)), more);
}

pub tidy-same : (old new : State) → new ≡ old → IsTidy old → IsTidy new
tidy-same old new e h = subst IsTidy (sym e) h

pub tidy-new : (def : TableDef) (lists : List (List ℕ)) (rows : Mapped (Option (List Datum))) (sets : Sets) → rows.pairs ≡ [] → All (λ es. length es ≤ 0) (entries_of sets) → IsTidy (state_of def lists rows sets)
tidy-new def lists rows sets e none = record {
  slots = omega (arith, ap (λ (ps : List Slot). length (keys_of ps)) e);
  entries = λ k d m. omega (arith, none k d m);
}
