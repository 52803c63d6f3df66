-- Rows that have an entry beside a row's in a UNIQUE list, found by the entries.
use Rattle.std.proofs.Common.{◌≡◌, ℕ, zero, suc, ◌<◌, List, [], ◌∷◌, ◌++◌, length, get_or, set, take, drop, Bool, true, false, not, ◌&&◌, ◌||◌, refl, ap, sym, subst, ◌∙◌, arith, Some, None, inl, inr}
use Rattle.std.specs.Prelude.{All, cond, filter, Option, option_map}
use Rattle.std.specs.List.{cons_option}
use Rattle.std.proofs.lemmas.List.{length-set, get_or_default}
use Rattle.std.proofs.lemmas.Bool.{cases_eq}
use Rattle.std.proofs.lemmas.List.Elements.{All-tail, All-head}
use Rattle.std.proofs.lemmas.List.Folds.{Any-from_list_any}
use Rattle.std.specs.declared.cmp.Ordering.{Ordering}
use Rattle.std.specs.declared.cmp.Ordering.TheVariants.{Less, Equal, Greater}
use Rattle.std.specs.Ordering.{is_eq, is_ne, ordering_then, ordering_reverse}
use Rattle.psm_value.specs.declared.datum.Datum.{Datum}
use Rattle.psm_value.specs.Order.{data_order}
use Rattle.psm_table.specs.declared.definition.TableDef.{TableDef}
use Rattle.psm_table.specs.declared.map.Pair.{Pair}
use Rattle.psm_table.specs.Held.{entries_of, live_rows, row_of, the_row, HasItsKey, IsEntered}
use Rattle.psm_table.specs.Index.{is_current, rival_at}
use Rattle.psm_table.specs.Key.{key_order, row_order, values_at}
use Rattle.psm_table.specs.Map.{AreAscending, keys_of, pair_with, prefix_order}
use Rattle.psm_table.specs.Mapped.{Mapped}
use Rattle.psm_table.specs.Rows.{IsAscending, row_with}
use Rattle.psm_table.specs.State.{entry_of, has_key, HasEntry}
use Rattle.psm_table.specs.Unique.{agree, clashes, conflict, equal_values, has_null, is_rival}
use Rattle.psm_table.proofs.KeyLaws.{key_order-total}
use Rattle.psm_table.proofs.Entered.{all_zip-at, all_zip-from, get-entries, get-set, get-set_other, length-entries, length_all_zip}
use Rattle.psm_table.proofs.Filters.{equal_is}
use Rattle.psm_table.proofs.Keys.{has-filter, or_right}
use Rattle.psm_table.proofs.Lives.{rows-find}
use Rattle.psm_table.proofs.PrefixWalks.{Silent}
use Rattle.psm_table.proofs.RowOrders.{length-values_at}
use Rattle.psm_table.proofs.Searches.{less_before_equal}

abbrev pub Row : Type 0
Row = List Datum

abbrev pub Slot : Type 0
Slot = Pair (Option (List Datum))

abbrev pub Sets : Type 0
Sets = List (Mapped (Unit {0}))

abbrev pub Entry : Type 0
Entry = Pair (Unit {0})

-- keys of two parts
pub then_equal : (o r : Ordering) → ordering_then o r ≡ Equal → (o ≡ Equal) × (r ≡ Equal)
then_equal Less r e = cc
then_equal Equal r e = (refl, e)
then_equal Greater r e = cc

pub split_equal : (e v k : List Datum) → key_order e (v ++ k) ≡ Equal → (key_order (take (length v) e) v ≡ Equal) × (key_order (drop (length v) e) k ≡ Equal)
split_equal e [] k h = (refl, h)
split_equal [] (x ∷ v) k h = cc
split_equal (y ∷ e) (x ∷ v) k h =
    let t = then_equal (data_order y x) (key_order e (v ++ k)) h in
    let u = split_equal e v k t.1 in
    (rw t.0 u.0, u.1)

pub equal_trans : (a b c : List Datum) → key_order a b ≡ Equal → key_order b c ≡ Equal → key_order a c ≡ Equal
equal_trans a b c e f = key_order-total.congr a b c e ∙ f

pub equal_sym : (a b : List Datum) → key_order a b ≡ Equal → key_order b a ≡ Equal
equal_sym a b e = key_order-total.antisymm b a ∙ ap ordering_reverse e

-- the row at an index is the one that has its key
pub row_with-at : (columns : List ℕ) (key : List Datum) (rows : List Row) (i : ℕ) (d : Row) → IsAscending columns rows → i < length rows → row_order columns key (get_or rows i d) ≡ Equal
    → row_with columns key rows ≡ Some (get_or rows i d)
row_with-at columns key [] i d up l e = absurd (omega arith)
row_with-at columns key (x ∷ xs) zero d up l e = rw e refl
row_with-at columns key (x ∷ xs) (suc i) d up l e =
    let less : row_order columns key x ≡ Less =
    less_before_equal (values_at columns x) (values_at columns (get_or xs i d)) key (up 0 (suc i) d (omega arith) l) e in
    let rest : IsAscending columns xs = λ j k f m n. up (suc j) (suc k) f (omega arith) (omega arith) in
    let t = row_with-at columns key xs i d rest (omega arith) e in
    rw less t

-- a key that is there is that of a pair
some-pair : (p : Entry) (ps : List Entry) (key : List Datum) (P : Entry → Type 0) (b : Bool) → is_eq (key_order p.key key) ≡ b → (b || has_key (keys_of ps) key) ≡ true → All P (p ∷ ps)
    → (has_key (keys_of ps) key ≡ true → All P ps → (q : Entry) × (key_order q.key key ≡ Equal) × P q) → (q : Entry) × (key_order q.key key ≡ Equal) × P q
some-pair p ps key P true e h a t = (p, equal_is (key_order p.key key) e, All-head P p ps a)
some-pair p ps key P false e h a t = t h (All-tail P p ps a)

pub pair_there : (entries : List Entry) (key : List Datum) (P : Entry → Type 0) → has_key (keys_of entries) key ≡ true → All P entries → (q : Entry) × (key_order q.key key ≡ Equal) × P q
pair_there [] key P h a = cc
pair_there (p ∷ ps) key P h a = some-pair p ps key P (is_eq (key_order p.key key)) refl h a (pair_there ps key P)

pub and_true : (a b : Bool) → (a && b) ≡ true → (a ≡ true) × (b ≡ true)
and_true true b e = (refl, e)
and_true false b e = cc

not_true : (a : Bool) → not a ≡ true → a ≡ false
not_true true e = cc
not_true false e = refl

-- values that are equal have no null
pub equal_parts : (a b : List Datum) → equal_values a b ≡ true → (has_null a ≡ false) × (has_null b ≡ false) × (key_order a b ≡ Equal)
equal_parts a b e =
    let t = and_true (not (has_null a)) (not (has_null b) && is_eq (key_order a b)) e in
    let u = and_true (not (has_null b)) (is_eq (key_order a b)) t.1 in
    (not_true (has_null a) t.0, not_true (has_null b) u.0, equal_is (key_order a b) u.1)

-- and are as many
pub equal_length : (a b : List Datum) → key_order a b ≡ Equal → length a ≡ length b
equal_length [] [] e = refl
equal_length [] (y ∷ b) e = cc
equal_length (x ∷ a) [] e = cc
equal_length (x ∷ a) (y ∷ b) e = ap suc (equal_length a b (then_equal (data_order x y) (key_order a b) e).1)

-- the row of a key is one of the rows
live-value : (P : Row → Type 0) (o : Option Row) (rows : List Row) (row : Row) → the_row (Some o) ≡ Some row → All P (cons_option o rows) → P row
live-value P None rows row e a = cc
live-value P (Some r) rows row e a = let same : r ≡ row = cc in subst P same (All-head P r rows a)

live-rest : (P : Row → Type 0) (o : Option Row) (rows : List Row) → All P (cons_option o rows) → All P rows
live-rest P None rows a = a
live-rest P (Some r) rows a = All-tail P r rows a

live-first : (P : Row → Type 0) (p : Slot) (ps : List Slot) (row : Row) (o : Option Slot) (b : Bool) → (the_row (option_map (λ (q : Slot). q.value) o) ≡ Some row → All P (live_rows ps) → P row)
    → the_row (option_map (λ (q : Slot). q.value) (cond b (Some p) o)) ≡ Some row → All P (cons_option p.value (live_rows ps)) → P row
live-first P p ps row o true h e a = live-value P p.value (live_rows ps) row e a
live-first P p ps row o false h e a = h e (live-rest P p.value (live_rows ps) a)

pub row-live : (P : Row → Type 0) (key : List Datum) (pairs : List Slot) (row : Row) → row_of key pairs ≡ Some row → All P (live_rows pairs) → P row
row-live P key [] row e a = cc
row-live P key (p ∷ ps) row e a = live-first P p ps row (pair_with key ps) (is_eq (key_order p.key key)) (row-live P key ps row) e a

module _ (def : TableDef) (row : Row) where
  -- a rival that a key has is one of the rows
  rival-value : (o : Option Row) (rows : List Row) → rival_at def row (the_row (Some o)) ≡ true → clashes def row (cons_option o rows) ≡ true
  rival-value None rows e = cc
  rival-value (Some r) rows e = rw e refl

  clash-more : (o : Option Row) (rows : List Row) → clashes def row rows ≡ true → clashes def row (cons_option o rows) ≡ true
  clash-more None rows e = e
  clash-more (Some r) rows e = or_right (is_rival def row r) (clashes def row rows) e

  rival-first : (p : Slot) (ps : List Slot) (o : Option Slot) (b : Bool) → (rival_at def row (the_row (option_map (λ (q : Slot). q.value) o)) ≡ true → clashes def row (live_rows ps) ≡ true)
      → rival_at def row (the_row (option_map (λ (q : Slot). q.value) (cond b (Some p) o))) ≡ true → clashes def row (cons_option p.value (live_rows ps)) ≡ true
  rival-first p ps o true t e = rival-value p.value (live_rows ps) e
  rival-first p ps o false t e = clash-more p.value (live_rows ps) (t e)

  pub rival-clashes : (key : List Datum) (pairs : List Slot) → rival_at def row (row_of key pairs) ≡ true → clashes def row (live_rows pairs) ≡ true
  rival-clashes key [] e = cc
  rival-clashes key (p ∷ ps) e = rival-first p ps (pair_with key ps) (is_eq (key_order p.key key)) (rival-clashes key ps) e

  -- whether the row of an entry is a rival
  abbrev pub rival_by : List ℕ → List Slot → List Datum → Bool
  rival_by columns pairs entry = rival_at def row (row_of (drop (length columns) entry) pairs)

  -- no rival is the row of an entry with the row's values
  abbrev pub Harmless : List ℕ → List Slot → Entry → Type 0
  Harmless columns pairs p = Silent (values_at columns row) (rival_by columns pairs) p

  -- the row at an index of the rows: the entry of it that the sets have leads back to it
  module _ (pairs : List Slot) (up : AreAscending pairs) (keyed : All (HasItsKey def.key) pairs) (ascend : IsAscending def.key (live_rows pairs)) (i : ℕ) (d : Row) (l : i < length (live_rows pairs)) where
    abbrev it : Row
    it = get_or (live_rows pairs) i d

    -- the key part of an entry that is equal to its own
    pub leads_back : (columns : List ℕ) (e : List Datum) → key_order e (entry_of def columns it) ≡ Equal
        → (key_order (take (length columns) e) (values_at columns it) ≡ Equal) × (row_of (drop (length columns) e) pairs ≡ Some it)
    leads_back columns e h =
        let width : length (values_at columns it) ≡ length columns = length-values_at columns it in
        let t = split_equal e (values_at columns it) (values_at def.key it) h in
        let key : key_order (drop (length columns) e) (values_at def.key it) ≡ Equal = subst (λ n. key_order (drop n e) (values_at def.key it) ≡ Equal) width t.1 in (
          subst (λ n. key_order (take n e) (values_at columns it) ≡ Equal) width t.0,
          rows-find def.key (drop (length columns) e) pairs up keyed
              ∙ row_with-at def.key (drop (length columns) e) (live_rows pairs) i d ascend l (equal_sym (drop (length columns) e) (values_at def.key it) key),
        )

    -- it is no rival where the entries of a list in which it agrees are harmless
    no_rival_in : (columns : List ℕ) (entries : List Entry) → HasEntry def it columns (keys_of entries) → All (Harmless columns pairs) entries → agree it row columns ≡ true → is_rival def row it ≡ false
    no_rival_in columns entries has harmless a =
        let t = equal_parts (values_at columns it) (values_at columns row) a in
        let p = pair_there entries (entry_of def columns it) (Harmless columns pairs) (has t.0) harmless in
        let back = leads_back columns (p.0).key p.1 in
        let same : length (values_at columns row) ≡ length columns = length-values_at columns row in
        let prefix : prefix_order (values_at columns row) (p.0).key ≡ Equal =
        subst (λ n. key_order (take n (p.0).key) (values_at columns row) ≡ Equal) (sym same) (equal_trans (take (length columns) (p.0).key) (values_at columns it) (values_at columns row) back.0 t.2) in
        ap (rival_at def row) (sym back.1) ∙ p.2 (ap is_eq prefix)

    rival_none : (b : Bool) → is_rival def row it ≡ b → (conflict def it row ≡ true → is_rival def row it ≡ false) → is_rival def row it ≡ false
    rival_none false e h = e
    rival_none true e h = h ((and_true (is_ne (row_order def.key (values_at def.key row) it)) (conflict def it row) e).1)

    -- no rival: each list in which the row has no null has harmless entries
    pub no_rival : (sets : Sets) → IsEntered def def.unique (entries_of sets) it
        → ((k : ℕ) (c : List ℕ) (m : Mapped (Unit {0})) → k < length sets → has_null (values_at (get_or def.unique k c) row) ≡ false → All (Harmless (get_or def.unique k c) pairs) (get_or sets k m).pairs)
        → is_rival def row it ≡ false
    no_rival sets has harmless = rival_none (is_rival def row it) refl (λ e.
        let any = Any-from_list_any (agree it row) def.unique e in
        let columns = any.1 in
        let empty : Mapped (Unit {0}) = record { runs = []; pairs = []; ready = false } in
        let long : length def.unique ≡ length (entries_of sets) = length_all_zip (HasEntry def it) def.unique (entries_of sets) has in
        let inside : any.0 < length sets = omega (arith, any.2, long, length-entries sets) in
        let here : HasEntry def it columns (keys_of (get_or sets any.0 empty).pairs) =
        subst (λ c. HasEntry def it c (keys_of (get_or sets any.0 empty).pairs)) any.3
        (subst (λ es. HasEntry def it (get_or def.unique any.0 columns) es) (get-entries sets any.0 empty [] inside)
        (all_zip-at (HasEntry def it) def.unique (entries_of sets) any.0 columns [] has (omega (arith, inside, length-entries sets)))) in
        let parts = equal_parts (values_at columns it) (values_at columns row) any.4 in
        let null : has_null (values_at (get_or def.unique any.0 columns) row) ≡ false = ap (λ c. has_null (values_at c row)) any.3 ∙ parts.1 in
        let fine : All (Harmless columns pairs) (get_or sets any.0 empty).pairs =
        subst (λ c. All (Harmless c pairs) (get_or sets any.0 empty).pairs) any.3 (harmless any.0 columns empty inside null) in
        no_rival_in columns (get_or sets any.0 empty).pairs here fine any.4)

    -- its entry is kept where those go that are of no row
    current-entry : (columns : List ℕ) (e : List Datum) → has_null (values_at columns it) ≡ false → is_eq (key_order e (entry_of def columns it)) ≡ true
        → is_current def.key columns e (row_of (drop (length columns) e) pairs) ≡ true
    current-entry columns e null h =
        let back = leads_back columns e (equal_is (key_order e (entry_of def columns it)) h) in
        ap (is_current def.key columns e) back.1 ∙ ap (λ b. not b && is_eq (key_order e (entry_of def columns it))) null ∙ h

    pub survives : (columns : List ℕ) (entries : List Entry) → HasEntry def it columns (keys_of entries)
        → HasEntry def it columns (keys_of (filter (λ p. is_current def.key columns p.key (row_of (drop (length columns) p.key) pairs)) entries))
    survives columns entries has null =
        has-filter (λ (p : Entry). is_current def.key columns p.key (row_of (drop (length columns) p.key) pairs)) (entry_of def columns it)
        (λ p e. current-entry columns p.key null e) entries (has null)

    -- and so its entries are kept in all sets
    pub survives-set : (lists : List (List ℕ)) (sets : Sets) (n : ℕ) (columns : List ℕ) (m new : Mapped (Unit {0})) → n < length sets → m ≡ get_or sets n m → columns ≡ get_or lists n columns
        → new.pairs ≡ filter (λ p. is_current def.key columns p.key (row_of (drop (length columns) p.key) pairs)) m.pairs → IsEntered def lists (entries_of sets) it → IsEntered def lists (entries_of (set sets n new)) it
    survives-set lists sets n columns m new inside at list e h =
        let long : length lists ≡ length (entries_of sets) = length_all_zip (HasEntry def it) lists (entries_of sets) h in
        all_zip-from (HasEntry def it) lists (entries_of (set sets n new)) (omega (arith, long, length-entries sets, length-entries (set sets n new), length-set sets n new))
        (λ k d x l.
        let within : k < length sets = omega (arith, l, length-entries (set sets n new), length-set sets n new) in
        let before = all_zip-at (HasEntry def it) lists (entries_of sets) k d x h (omega (arith, within, length-entries sets)) in
        elim (cases_eq k n) [
          | inl is ↦
              let same : get_or lists k d ≡ columns = ap (λ j. get_or lists j d) is ∙ get_or_default lists n d columns (omega (arith, inside, long, length-entries sets)) ∙ sym list in
              let old : get_or (entries_of sets) k x ≡ keys_of m.pairs = ap (λ j. get_or (entries_of sets) j x) is ∙ get-entries sets n m x inside ∙ ap (λ (y : Mapped (Unit {0})). keys_of y.pairs) (sym at) in
              let now : get_or (entries_of (set sets n new)) k x ≡ keys_of new.pairs =
              ap (λ j. get_or (entries_of (set sets n new)) j x) is ∙ get-entries (set sets n new) n m x (omega (arith, inside, length-set sets n new)) ∙ ap (λ (y : Mapped (Unit {0})). keys_of y.pairs) (get-set sets n new m inside) in
              let here : HasEntry def it columns (keys_of m.pairs) = subst (λ c. HasEntry def it c (keys_of m.pairs)) same (subst (λ es. HasEntry def it (get_or lists k d) es) old before) in
              let kept : HasEntry def it columns (keys_of new.pairs) = subst (λ (ps : List Entry). HasEntry def it columns (keys_of ps)) (sym e) (survives columns m.pairs here) in
              subst (λ es. HasEntry def it (get_or lists k d) es) (sym now) (subst (λ c. HasEntry def it c (keys_of new.pairs)) (sym same) kept)
          | inr other ↦
              let unmoved : get_or (entries_of (set sets n new)) k x ≡ get_or (entries_of sets) k x =
              get-entries (set sets n new) k m x (omega (arith, within, length-set sets n new)) ∙ ap (λ (y : Mapped (Unit {0})). keys_of y.pairs) (get-set_other sets n k new m (λ f. other (sym f))) ∙ sym (get-entries sets k m x within) in
              subst (λ es. HasEntry def it (get_or lists k d) es) (sym unmoved) before
        ])
