-- What a change of one row leaves of a table.
use Rattle.std.proofs.Common.{◌≡◌, ℕ, suc, ◌+◌, ◌≤◌, List, [], ◌∷◌, length, get_or, Bool, true, false, ◌||◌, refl, ap, sym, subst, ◌∙◌, arith, Some, None}
use Rattle.std.specs.Prelude.{All, cond, find, IfSome, Option, option_map, if◌then◌else◌}
use Rattle.std.specs.List.{cons_option}
use Rattle.std.proofs.lemmas.List.Elements.{All-nil, All-cons, All-append, All-filter, All-tail, All-head}
use Rattle.std.proofs.lemmas.List.Kept.{AllPairs-filter, AllPairs-cons}
use Rattle.std.specs.declared.cmp.Ordering.{Ordering}
use Rattle.std.specs.declared.cmp.Ordering.TheVariants.{Less, Equal, Greater}
use Rattle.std.specs.Ordering.{is_lt, is_gt, is_eq, ordering_reverse}
use Rattle.psm_value.specs.declared.datum.Datum.{Datum}
use Rattle.psm_table.specs.declared.definition.TableDef.{TableDef}
use Rattle.psm_table.specs.declared.map.Pair.{Pair}
use Rattle.psm_table.specs.Definition.{IsDefinition, IsRow}
use Rattle.psm_table.specs.Held.{contents_of, entries_of, live_rows, row_of, state_of, HasItsKey, IsEntered, IsHeld}
use Rattle.psm_table.specs.Index.{AreEntered, Grow, HaveKeys}
use Rattle.psm_table.specs.Key.{values_at, key_order, row_order, AreColumnsOf}
use Rattle.psm_table.specs.Map.{AreAscending, keys_of, pair_with, pairs_above, pairs_below, value_of, with_value}
use Rattle.psm_table.specs.Mapped.{Mapped}
use Rattle.psm_table.specs.Rows.{IsAscending, rows_below, rows_above, put, without}
use Rattle.psm_table.specs.State.{has_key, KeepsRow, StillKeeps}
use Rattle.psm_table.specs.Table.{Contents, IsTable, keyed, most_rows, with_row}
use Rattle.psm_table.proofs.Entered.{entered-grow, length-entries}
use Rattle.psm_table.proofs.Filters.{filtered, AllPairs-rest, AllPairs-append, less_is, equal_is, greater_is}
use Rattle.psm_table.proofs.KeyLaws.{key_order-refl, key_order-total}
use Rattle.psm_table.proofs.Keys.{or_right}
use Rattle.psm_table.proofs.Rivals.{equal_trans}
use Rattle.psm_table.proofs.Lives.{rows-find}
use Rattle.psm_table.proofs.Pairs.{Rises, after_equal, with_value-greater}

-- the rows around a key
module _ (columns : List ℕ) (key : List Datum) (rows : List (List Datum)) where
  below : All (λ r. row_order columns key r ≡ Less) (rows_below columns key rows)
  below = filtered (λ r. is_lt (row_order columns key r)) (λ r. row_order columns key r ≡ Less) (λ r e. less_is (row_order columns key r) e) rows

  above : All (λ r. key_order key (values_at columns r) ≡ Less) (rows_above columns key rows)
  above = filtered (λ r. is_gt (row_order columns key r)) (λ r. key_order key (values_at columns r) ≡ Less)
      (λ r e. key_order-total.antisymm key (values_at columns r) ∙ ap ordering_reverse (greater_is (row_order columns key r) e)) rows

  abbrev Ascends : List Datum → List Datum → Type 0
  Ascends a b = key_order (values_at columns a) (values_at columns b) ≡ Less

  -- each row before the key is before each one after it
  across : All (λ a. All (Ascends a) (rows_above columns key rows)) (rows_below columns key rows)
  across k d l k' d' l' =
      key_order-total.trans (values_at columns (get_or (rows_below columns key rows) k d)) key (values_at columns (get_or (rows_above columns key rows) k' d')) (below k d l) (above k' d' l')

  pub ascending-without : IsAscending columns rows → IsAscending columns (without columns key rows)
  ascending-without up =
      AllPairs-append Ascends (rows_below columns key rows) (rows_above columns key rows) (AllPairs-filter Ascends (λ r. is_lt (row_order columns key r)) rows up)
      (AllPairs-filter Ascends (λ r. is_gt (row_order columns key r)) rows up) across

pub ascending-put : (columns : List ℕ) (row : List Datum) (rows : List (List Datum)) → IsAscending columns rows → IsAscending columns (put columns row rows)
ascending-put columns row rows up =
    let key = values_at columns row in
    let ascends = λ (a b : List Datum). key_order (values_at columns a) (values_at columns b) ≡ Less in
    let low = rows_below columns key rows in
    let high = rows_above columns key rows in
    AllPairs-append ascends low (row ∷ high) (AllPairs-filter ascends (λ r. is_lt (row_order columns key r)) rows up)
    (AllPairs-cons ascends row high (above columns key rows) (AllPairs-filter ascends (λ r. is_gt (row_order columns key r)) rows up))
    (λ k d l. All-cons (ascends (get_or low k d)) row high (below columns key rows k d l) (across columns key rows k d l))

-- a column of the key is one of the row's
pub key_exists : (def : TableDef) (row : List Datum) → IsDefinition def → IsRow def row → AreColumnsOf row def.key
key_exists def row defined fits k d l = omega (arith, defined.exist k d l, fits.long)

pub rows_exist : (t : Contents) → IsTable t → All (λ row. AreColumnsOf row t.def.key) t.rows
rows_exist t h k d l = key_exists t.def (get_or t.rows k d) h.defined (h.fit k d l)

-- the table with one row put in
pub IsTable-with_row : (t : Contents) (row : List Datum) → IsTable t → IsRow t.def row → length (put t.def.key row t.rows) ≤ most_rows → IsTable (with_row t row)
IsTable-with_row t row h fits l =
    let key = values_at t.def.key row in
    record {
      defined = h.defined;
      fit = All-append (IsRow t.def) (rows_below t.def.key key t.rows) (row ∷ rows_above t.def.key key t.rows) (All-filter (λ r. is_lt (row_order t.def.key key r)) (IsRow t.def) t.rows h.fit)
          (All-cons (IsRow t.def) row (rows_above t.def.key key t.rows) fits (All-filter (λ r. is_gt (row_order t.def.key key r)) (IsRow t.def) t.rows h.fit));
      ascend = ascending-put t.def.key row t.rows h.ascend;
      bound = l;
    }

-- the table without the row of a key
pub IsTable-without : (t : Contents) (key : List Datum) → IsTable t → length (without t.def.key key t.rows) ≤ most_rows → IsTable (record t { rows = without t.def.key key t.rows })
IsTable-without t key h l = record {
  defined = h.defined;
  fit = All-append (IsRow t.def) (rows_below t.def.key key t.rows) (rows_above t.def.key key t.rows) (All-filter (λ r. is_lt (row_order t.def.key key r)) (IsRow t.def) t.rows h.fit)
      (All-filter (λ r. is_gt (row_order t.def.key key r)) (IsRow t.def) t.rows h.fit);
  ascend = ascending-without t.def.key key t.rows h.ascend;
  bound = l;
}

-- the rows of a map, n of them
abbrev pub Slot : Type 0
Slot = Pair (Option (List Datum))

abbrev pub Slots : Type 0
Slots = Mapped (Option (List Datum))

abbrev pub Sets : Type 0
Sets = List (Mapped (Unit {0}))

longer-first : (o : Option (List Datum)) (a b : List (List Datum)) → suc (length a) ≡ length b → suc (length (cons_option o a)) ≡ length (cons_option o b)
longer-first None a b e = e
longer-first (Some row) a b e = ap suc e

same-first : (o : Option (List Datum)) (a b : List (List Datum)) → length a ≡ length b → length (cons_option o a) ≡ length (cons_option o b)
same-first None a b e = e
same-first (Some row) a b e = ap suc e

left : (o : Option (List Datum)) (a b l : List (List Datum)) → length a + length b ≡ length l → length (cons_option o a) + length b ≡ length (cons_option o l)
left None a b l e = e
left (Some row) a b l e = omega (arith, e)

right : (o : Option (List Datum)) (a b l : List (List Datum)) → length a + length b ≡ length l → length a + length (cons_option o b) ≡ length (cons_option o l)
right None a b l e = e
right (Some row) a b l e = omega (arith, e)

not_found : (p : Slot) (o : Option Slot) (b : Bool) → option_map (λ (q : Slot). q.value) (cond b (Some p) o) ≡ None → (b ≡ false) × (option_map (λ (q : Slot). q.value) o ≡ None)
not_found p o true e = cc
not_found p o false e = (refl, e)

module _ (key : List Datum) where
  -- a row is taken out at the key
  hidden-step : (p : Slot) (ps : List Slot) (row : List Datum) (c : Ordering) → AreAscending (p ∷ ps) → key_order p.key key ≡ c
      → (value_of key ps ≡ Some (Some row) → suc (length (live_rows (with_value key None ps))) ≡ length (live_rows ps))
      → option_map (λ (q : Slot). q.value) (cond (is_eq c) (Some p) (pair_with key ps)) ≡ Some (Some row)
      → suc (length (cons_option (if is_eq c then record { key = p.key; value = None } else p).value (live_rows (with_value key None ps)))) ≡ length (cons_option p.value (live_rows ps))
  hidden-step p ps row Less up e t s = longer-first p.value (live_rows (with_value key None ps)) (live_rows ps) (t s)
  hidden-step p ps row Greater up e t s = longer-first p.value (live_rows (with_value key None ps)) (live_rows ps) (t s)
  hidden-step p ps row Equal up e t s =
      let v : p.value ≡ Some row = cc in
      ap (λ l. suc (length (live_rows l))) (with_value-greater key None ps (after_equal key p ps up e)) ∙ ap (λ o. length (cons_option o (live_rows ps))) (sym v)

  pub length-hidden : (pairs : List Slot) (row : List Datum) → AreAscending pairs → value_of key pairs ≡ Some (Some row) → suc (length (live_rows (with_value key None pairs))) ≡ length (live_rows pairs)
  length-hidden [] row up s = cc
  length-hidden (p ∷ ps) row up s = hidden-step p ps row (key_order p.key key) up refl (length-hidden ps row (AllPairs-rest Rises p ps up)) s

  -- a row is put in at the key, in the place of one that was taken out, or of another
  put-step : (p : Slot) (ps : List Slot) (row : List Datum) (c : Ordering) → AreAscending (p ∷ ps) → key_order p.key key ≡ c
      → (value_of key ps ≡ Some None → length (live_rows (with_value key (Some row) ps)) ≡ suc (length (live_rows ps)))
      → option_map (λ (q : Slot). q.value) (cond (is_eq c) (Some p) (pair_with key ps)) ≡ Some None
      → length (cons_option (if is_eq c then record { key = p.key; value = Some row } else p).value (live_rows (with_value key (Some row) ps))) ≡ suc (length (cons_option p.value (live_rows ps)))
  put-step p ps row Less up e t s = sym (longer-first p.value (live_rows ps) (live_rows (with_value key (Some row) ps)) (sym (t s)))
  put-step p ps row Greater up e t s = sym (longer-first p.value (live_rows ps) (live_rows (with_value key (Some row) ps)) (sym (t s)))
  put-step p ps row Equal up e t s =
      let v : p.value ≡ None = cc in
      ap (λ l. suc (length (live_rows l))) (with_value-greater key (Some row) ps (after_equal key p ps up e)) ∙ ap (λ o. suc (length (cons_option o (live_rows ps)))) (sym v)

  pub length-put : (pairs : List Slot) (row : List Datum) → AreAscending pairs → value_of key pairs ≡ Some None → length (live_rows (with_value key (Some row) pairs)) ≡ suc (length (live_rows pairs))
  length-put [] row up s = cc
  length-put (p ∷ ps) row up s = put-step p ps row (key_order p.key key) up refl (length-put ps row (AllPairs-rest Rises p ps up)) s

  over-step : (p : Slot) (ps : List Slot) (row was : List Datum) (c : Ordering) → AreAscending (p ∷ ps) → key_order p.key key ≡ c
      → (value_of key ps ≡ Some (Some was) → length (live_rows (with_value key (Some row) ps)) ≡ length (live_rows ps))
      → option_map (λ (q : Slot). q.value) (cond (is_eq c) (Some p) (pair_with key ps)) ≡ Some (Some was)
      → length (cons_option (if is_eq c then record { key = p.key; value = Some row } else p).value (live_rows (with_value key (Some row) ps))) ≡ length (cons_option p.value (live_rows ps))
  over-step p ps row was Less up e t s = same-first p.value (live_rows (with_value key (Some row) ps)) (live_rows ps) (t s)
  over-step p ps row was Greater up e t s = same-first p.value (live_rows (with_value key (Some row) ps)) (live_rows ps) (t s)
  over-step p ps row was Equal up e t s =
      let v : p.value ≡ Some was = cc in
      ap (λ l. suc (length (live_rows l))) (with_value-greater key (Some row) ps (after_equal key p ps up e)) ∙ ap (λ o. length (cons_option o (live_rows ps))) (sym v)

  pub length-over : (pairs : List Slot) (row was : List Datum) → AreAscending pairs → value_of key pairs ≡ Some (Some was) → length (live_rows (with_value key (Some row) pairs)) ≡ length (live_rows pairs)
  length-over [] row was up s = cc
  length-over (p ∷ ps) row was up s = over-step p ps row was (key_order p.key key) up refl (length-over ps row was (AllPairs-rest Rises p ps up)) s

  -- the rows around a key that has no slot are all rows
  around-step : (p : Slot) (low high ps : List Slot) (c : Ordering) → length (live_rows low) + length (live_rows high) ≡ length (live_rows ps) → is_eq c ≡ false
      → length (live_rows (cond (is_lt c) (p ∷ low) low)) + length (live_rows (cond (is_gt c) (p ∷ high) high)) ≡ length (cons_option p.value (live_rows ps))
  around-step p low high ps Less e f = left p.value (live_rows low) (live_rows high) (live_rows ps) e
  around-step p low high ps Equal e f = cc
  around-step p low high ps Greater e f = right p.value (live_rows low) (live_rows high) (live_rows ps) e

  pub length-around : (pairs : List Slot) → value_of key pairs ≡ None → length (live_rows (pairs_below key pairs)) + length (live_rows (pairs_above key pairs)) ≡ length (live_rows pairs)
  length-around [] s = refl
  length-around (p ∷ ps) s =
      let t = not_found p (pair_with key ps) (is_eq (key_order p.key key)) s in
      around-step p (pairs_below key ps) (pairs_above key ps) ps (key_order p.key key) (length-around ps t.1) t.0

-- a found row is one of the rows
found-one : {X : Type 0} (t : X → Bool) (P : X → Type 0) (y : X) (ys : List X) (x : X) (b : Bool) → cond b (Some y) (find t ys) ≡ Some x → All P (y ∷ ys) → (find t ys ≡ Some x → All P ys → P x) → P x
found-one t P y ys x true e a h = let same : y ≡ x = cc in subst P same (All-head P y ys a)
found-one t P y ys x false e a h = h e (All-tail P y ys a)

pub found-all : {X : Type 0} (t : X → Bool) (P : X → Type 0) (xs : List X) (x : X) → find t xs ≡ Some x → All P xs → P x
found-all t P [] x e a = cc
found-all t P (y ∷ ys) x e a = found-one t P y ys x (t y) e a (found-all t P ys x)

-- equal keys have the same places
or-same : (a b c d : Bool) → (a ≡ true → b ≡ true) → (c ≡ true → d ≡ true) → (a || c) ≡ true → (b || d) ≡ true
or-same true b c d f g e = rw (f refl) refl
or-same false b c d f g e = or_right b d (g e)

pub same-slot : (keys : List (List Datum)) (a b : List Datum) → key_order a b ≡ Equal → has_key keys b ≡ true → has_key keys a ≡ true
same-slot [] a b e h = h
same-slot (k ∷ ks) a b e h =
    or-same (is_eq (key_order k b)) (is_eq (key_order k a)) (has_key ks b) (has_key ks a)
    (λ f. let g : key_order b a ≡ Equal = key_order-total.antisymm b a ∙ ap ordering_reverse e in ap is_eq (equal_trans k b a (equal_is (key_order k b) f) g))
    (same-slot ks a b e) h

-- each row's key has a slot
slot-first : (columns : List ℕ) (keys : List (List Datum)) (key : List Datum) (o : Option (List Datum)) (rows : List (List Datum)) → IfSome o (λ row. row_order columns key row ≡ Equal)
    → has_key keys key ≡ true → All (λ row. has_key keys (values_at columns row) ≡ true) rows → All (λ row. has_key keys (values_at columns row) ≡ true) (cons_option o rows)
slot-first columns keys key None rows h e a = a
slot-first columns keys key (Some row) rows h e a =
    All-cons (λ row. has_key keys (values_at columns row) ≡ true) row rows (same-slot keys (values_at columns row) key h e) a

slots-more : (columns : List ℕ) (keys : List (List Datum)) (all : List (List Datum)) (pairs : List Slot) → ((k : List Datum) → has_key keys k ≡ true → has_key all k ≡ true)
    → keys ≡ keys_of pairs → All (HasItsKey columns) pairs → All (λ row. has_key all (values_at columns row) ≡ true) (live_rows pairs)
slots-more columns keys all [] f e h = All-nil (λ row. has_key all (values_at columns row) ≡ true)
slots-more columns keys all (p ∷ ps) f e h =
    let own : has_key all p.key ≡ true = f p.key (ap (λ l. has_key l p.key) e ∙ ap (λ o. is_eq o || has_key (keys_of ps) p.key) (key_order-refl p.key)) in
    slot-first columns all p.key p.value (live_rows ps) (All-head (HasItsKey columns) p ps h) own
    (slots-more columns (keys_of ps) all ps (λ k g. f k (ap (λ l. has_key l k) e ∙ or_right (is_eq (key_order p.key k)) (has_key (keys_of ps) k) g)) refl (All-tail (HasItsKey columns) p ps h))

pub have_slots : (columns : List ℕ) (pairs : List Slot) → All (HasItsKey columns) pairs → All (λ row. has_key (keys_of pairs) (values_at columns row) ≡ true) (live_rows pairs)
have_slots columns pairs h = slots-more columns (keys_of pairs) (keys_of pairs) pairs (λ k g. g) refl h

-- a row of the table is kept
pub row_kept : (def : TableDef) (lists : List (List ℕ)) (rows : Slots) (sets : Sets) (row : List Datum) → has_key (keys_of rows.pairs) (values_at def.key row) ≡ true → IsEntered def lists (entries_of sets) row → KeepsRow (state_of def lists rows sets) row
row_kept def lists rows sets row slot entered = record { slot = slot; entries = entered }

pub keeps-grow : (def : TableDef) (lists : List (List ℕ)) (rows new : Slots) (sets more : Sets) → ((key : List Datum) → has_key (keys_of rows.pairs) key ≡ true → has_key (keys_of new.pairs) key ≡ true)
    → length more ≡ length sets → Grow (entries_of sets) (entries_of more) → StillKeeps (state_of def lists rows sets) (state_of def lists new more)
keeps-grow def lists rows new sets more slots long grow row kept = record {
  slot = slots (values_at def.key row) kept.slot;
  entries = entered-grow def lists row (entries_of sets) (entries_of more) (omega (arith, long, length-entries sets, length-entries more)) grow kept.entries;
}

pub have_keys : (t : Contents) → IsTable t → HaveKeys t.def t.rows
have_keys t h = rows_exist t h

-- a table with a row put in
module _ (def : TableDef) (lists : List (List ℕ)) (rows : Slots) (live : ℕ) (sets : Sets) (h : IsHeld def lists rows live sets) where
  pub held-put : (row : List Datum) (new : Slots) (count : ℕ) (more : Sets) → IsRow def row → live_rows new.pairs ≡ put def.key row (live_rows rows.pairs) → All (HasItsKey def.key) new.pairs
      → count ≡ length (live_rows new.pairs) → length (live_rows new.pairs) ≤ most_rows → length more ≡ length sets → Grow (entries_of sets) (entries_of more) → IsEntered def lists (entries_of more) row → AreAscending new.pairs
      → IsHeld def lists new count more
  held-put row new count more fits e keyed counted bound long grow entered order = record {
    order = order;
    table = subst (λ r. IsTable (record { def = def; rows = r })) (sym e)
        (IsTable-with_row (contents_of def rows) row h.table fits (subst (λ r. length r ≤ most_rows) e bound));
    count = counted;
    keyed = keyed;
    unique = h.unique;
    sets = omega (arith, long, h.sets);
    entered =
        let key = values_at def.key row in
        let old : AreEntered def lists (live_rows rows.pairs) (entries_of more) = λ k d l.
        entered-grow def lists (get_or (live_rows rows.pairs) k d) (entries_of sets) (entries_of more) (omega (arith, long, length-entries sets, length-entries more)) grow (h.entered k d l) in
        subst (λ r. AreEntered def lists r (entries_of more)) (sym e)
        (All-append (IsEntered def lists (entries_of more)) (rows_below def.key key (live_rows rows.pairs)) (row ∷ rows_above def.key key (live_rows rows.pairs))
        (All-filter (λ r. is_lt (row_order def.key key r)) (IsEntered def lists (entries_of more)) (live_rows rows.pairs) old)
        (All-cons (IsEntered def lists (entries_of more)) row (rows_above def.key key (live_rows rows.pairs)) entered
        (All-filter (λ r. is_gt (row_order def.key key r)) (IsEntered def lists (entries_of more)) (live_rows rows.pairs) old)));
  }

  -- a table with the row of a key taken out
  pub held-without : (key : List Datum) (new : Slots) (count : ℕ) → live_rows new.pairs ≡ without def.key key (live_rows rows.pairs) → All (HasItsKey def.key) new.pairs
      → count ≡ length (live_rows new.pairs) → length (live_rows new.pairs) ≤ length (live_rows rows.pairs) → AreAscending new.pairs → IsHeld def lists new count sets
  held-without key new count e keyed counted bound order = record {
    order = order;
    table = subst (λ r. IsTable (record { def = def; rows = r })) (sym e)
        (IsTable-without (contents_of def rows) key h.table (subst (λ r. length r ≤ most_rows) e (omega (arith, bound, h.table.bound))));
    count = counted;
    keyed = keyed;
    unique = h.unique;
    sets = h.sets;
    entered = subst (λ r. AreEntered def lists r (entries_of sets)) (sym e)
        (All-append (IsEntered def lists (entries_of sets)) (rows_below def.key key (live_rows rows.pairs)) (rows_above def.key key (live_rows rows.pairs))
        (All-filter (λ r. is_lt (row_order def.key key r)) (IsEntered def lists (entries_of sets)) (live_rows rows.pairs) h.entered)
        (All-filter (λ r. is_gt (row_order def.key key r)) (IsEntered def lists (entries_of sets)) (live_rows rows.pairs) h.entered));
  }

  -- the row that a key has
  pub held-find : (key : List Datum) → row_of key rows.pairs ≡ keyed (contents_of def rows) key
  held-find key = rows-find def.key key rows.pairs h.order h.keyed
