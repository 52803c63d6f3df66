-- What the calls of a table leave of it: a row taken out, put in, or put in the place of another.
use Rattle.std.proofs.Common.{◌≡◌, Bor, ℕ, suc, ◌+◌, ◌-◌, ◌*◌, ◌<◌, ◌≤◌, List, [], ◌∷◌, ◌++◌, length, length-append, take, true, refl, ap, sym, subst, ◌∙◌, arith, Some, None}
use Rattle.std.specs.Prelude.{All, cond, filter, is_some, IfNone, IfSome, IsSome, slice_get, Option, option_map, if◌then◌else◌}
use Rattle.std.specs.List.{cons_option, insert}
use Rattle.std.specs.Option.{option_copied}
use Rattle.std.proofs.lemmas.Option.{get_or_from_slice_get, slice_get_within}
use Rattle.std.proofs.lemmas.List.Elements.{All-filter, All-nil, filter_map-append}
use Rattle.std.proofs.lemmas.List.{get_or_default, take_all}
use Rattle.std.specs.declared.cmp.Ordering.{Ordering}
use Rattle.std.specs.declared.cmp.Ordering.TheVariants.{Less, Equal, Greater}
use Rattle.std.specs.Ordering.{is_eq}
use Rattle.psm_value.specs.declared.datum.Datum.{Datum}
use Rattle.psm_table.specs.declared.definition.TableDef.{TableDef}
use Rattle.psm_table.specs.Definition.{IsDefinition, IsRow}
use Rattle.psm_table.specs.Held.{contents_of, entries_of, full_count, live_rows, row_of, state_of, the_row, AreCounted, HasItsKey, IsEntered, IsHeld}
use Rattle.psm_table.specs.Index.{AreEntered, Grow, GrowByOne}
use Rattle.psm_table.specs.Key.{key_order, row_order, values_at}
use Rattle.psm_table.specs.Mapped.{Mapped}
use Rattle.psm_table.specs.Map.{AreAscending, keys_of, pair_with, pairs_above, pairs_below, value_of, with_pair, with_value}
use Rattle.psm_table.specs.Rows.{put, without}
use Rattle.psm_table.specs.State.{few_left, has_key, IsTidy, KeepsAtMost, KeepsRow, State, StillKeeps}
use Rattle.psm_table.specs.Table.{IsTable, most_rows, with_row, without_row}
use Rattle.psm_table.proofs.Counts.{counted-grown, counted-kept, few-pushed, keeps-more, settled-within, tidy-grown}
use Rattle.psm_table.proofs.Entered.{entered-grow, length-entries, take-longer, take-within}
use Rattle.psm_table.proofs.Filters.{AllPairs-rest}
use Rattle.psm_table.proofs.Keys.{has-grown, keys-longer}
use Rattle.psm_table.proofs.Lives.{keyed-with_pair, keyed-with_value, live-hidden, live-inserted, live-replaced}
use Rattle.psm_table.proofs.Pairs.{Rises, after_equal, keys-with_value, with_value-greater}
use Rattle.psm_table.proofs.Tables.{found-all, have_slots, held-find, held-put, held-without, keeps-grow, length-around, length-hidden, length-over, length-put, row_kept, Sets, Slot, Slots}

some_row : (o : Option (Option (List Datum))) (row : List Datum) → the_row o ≡ Some row → o ≡ Some (Some row)
some_row None row e = cc
some_row (Some None) row e = cc
some_row (Some (Some r)) row e = ap (λ (x : Option (List Datum)). Some x) e

some_slot : (o : Option (Option (List Datum))) (row : List Datum) → o ≡ Some (Some row) → the_row o ≡ Some row
some_slot o row e = ap the_row e

pub has_slot : (o : Option (Option (List Datum))) (row : List Datum) → the_row o ≡ Some row → IsSome o
has_slot None row e = cc
has_slot (Some x) row e = refl

some_back : (o : Option Slot) → IsSome (option_map (λ (p : Slot). p.value) o) → IsSome o
some_back None s = s
some_back (Some p) s = refl

pair_some : (key : List Datum) (pairs : List Slot) → IsSome (value_of key pairs) → IsSome (pair_with key pairs)
pair_some key pairs s = some_back (pair_with key pairs) s

no_value : (v : Option (List Datum)) → the_row (Some v) ≡ None → v ≡ None
no_value None e = refl
no_value (Some row) e = e

pub no_row_there : (o : Option (Option (List Datum))) → IsSome o → the_row o ≡ None → o ≡ Some None
no_row_there None s e = cc
no_row_there (Some v) s e = ap (λ (x : Option (List Datum)). Some x) (no_value v e)

-- where the key has no row, taking it out changes nothing
no_row : (p : Slot) (o : Option Slot) → the_row (option_map (λ (q : Slot). q.value) (Some p)) ≡ None → p.value ≡ None
no_row p o e = no_value p.value e

none-step : (key : List Datum) (p : Slot) (ps : List Slot) (c : Ordering) → AreAscending (p ∷ ps) → key_order p.key key ≡ c → (row_of key ps ≡ None → with_value key None ps ≡ ps)
    → the_row (option_map (λ (q : Slot). q.value) (cond (is_eq c) (Some p) (pair_with key ps))) ≡ None
    → (if is_eq c then record { key = p.key; value = None } else p) ∷ with_value key None ps ≡ p ∷ ps
none-step key p ps Less up e h s = ap (λ l. p ∷ l) (h s)
none-step key p ps Greater up e h s = ap (λ l. p ∷ l) (h s)
none-step key p ps Equal up e h s =
    let v : p.value ≡ None = no_row p None s in
    ap (λ l. record { key = p.key; value = None } ∷ l) (with_value-greater key None ps (after_equal key p ps up e)) ∙ ap (λ o. record { key = p.key; value = o } ∷ ps) (sym v)

pub with_value-none : (key : List Datum) (pairs : List Slot) → AreAscending pairs → row_of key pairs ≡ None → with_value key None pairs ≡ pairs
with_value-none key [] up s = refl
with_value-none key (p ∷ ps) up s = none-step key p ps (key_order p.key key) up refl (with_value-none key ps (AllPairs-rest Rises p ps up)) s

-- a table whose map has the same pairs
pub held-same : (def : TableDef) (lists : List (List ℕ)) (rows new : Slots) (live : ℕ) (sets more : Sets) → new.pairs ≡ rows.pairs → entries_of more ≡ entries_of sets → length more ≡ length sets → IsHeld def lists rows live sets → IsHeld def lists new live more
held-same def lists rows new live sets more e f long h = record {
  order = subst AreAscending (sym e) h.order;
  table = subst (λ ps. IsTable (record { def = def; rows = live_rows ps })) (sym e) h.table;
  count = subst (λ ps. live ≡ length (live_rows ps)) (sym e) h.count;
  keyed = subst (λ ps. All (HasItsKey def.key) ps) (sym e) h.keyed;
  unique = h.unique;
  sets = long ∙ h.sets;
  entered = subst (λ es. All (IsEntered def lists es) (live_rows new.pairs)) (sym f) (subst (λ ps. All (IsEntered def lists (entries_of sets)) (live_rows ps)) (sym e) h.entered);
}

pub state-same : (def : TableDef) (lists : List (List ℕ)) (rows new : Slots) (sets more : Sets) → new.pairs ≡ rows.pairs → entries_of more ≡ entries_of sets → state_of def lists new more ≡ state_of def lists rows sets
state-same def lists rows new sets more e f =
    ap (λ (ps : List Slot). record { contents = record { def = def; rows = live_rows ps }; slots = keys_of ps; lists = lists; entries = entries_of more }) e
    ∙ ap (λ es. record { contents = contents_of def rows; slots = keys_of rows.pairs; lists = lists; entries = es }) f

length-with_pair : (key row : List Datum) (pairs : List Slot) → value_of key pairs ≡ None → length (live_rows (with_pair (record { key = key; value = Some row }) pairs)) ≡ suc (length (live_rows pairs))
length-with_pair key row pairs absent =
    let split = filter_map-append (λ (p : Slot). p.value) (pairs_below key pairs) (record { key = key; value = Some row } ∷ pairs_above key pairs) in
    omega (arith, ap length split, length-append (live_rows (pairs_below key pairs)) (row ∷ live_rows (pairs_above key pairs)), length-around key pairs absent)

-- a row that the table has
module _ (def : TableDef) (lists : List (List ℕ)) (rows : Slots) (live : ℕ) (sets : Sets) (h : IsHeld def lists rows live sets) where
  up : AreAscending rows.pairs
  up = h.order

  pub its_row : (key row : List Datum) → row_of key rows.pairs ≡ Some row → IsRow def row
  its_row key row s = found-all (λ r. is_eq (row_order def.key key r)) (IsRow def) (live_rows rows.pairs) row (sym (held-find def lists rows live sets h key) ∙ s) h.table.fit

  its_slot : (key row : List Datum) → row_of key rows.pairs ≡ Some row → has_key (keys_of rows.pairs) (values_at def.key row) ≡ true
  its_slot key row s =
      found-all (λ r. is_eq (row_order def.key key r)) (λ r. has_key (keys_of rows.pairs) (values_at def.key r) ≡ true) (live_rows rows.pairs) row
      (sym (held-find def lists rows live sets h key) ∙ s) (have_slots def.key rows.pairs h.keyed)

  its_entries : (key row : List Datum) → row_of key rows.pairs ≡ Some row → IsEntered def lists (entries_of sets) row
  its_entries key row s =
      found-all (λ r. is_eq (row_order def.key key r)) (IsEntered def lists (entries_of sets)) (live_rows rows.pairs) row (sym (held-find def lists rows live sets h key) ∙ s) h.entered

  -- it is taken out
  module _ (key row : List Datum) (new : Slots) (s : row_of key rows.pairs ≡ Some row) (e : new.pairs ≡ with_value key None rows.pairs) (order : AreAscending new.pairs) where
    fewer : suc (length (live_rows new.pairs)) ≡ length (live_rows rows.pairs)
    fewer = ap (λ ps. suc (length (live_rows ps))) e ∙ length-hidden key rows.pairs row up (some_row (value_of key rows.pairs) row s)

    pub some_live : 0 < live
    some_live = omega (arith, h.count, fewer)

    rows_hidden : live_rows new.pairs ≡ without def.key key (live_rows rows.pairs)
    rows_hidden = ap live_rows e ∙ live-hidden def.key key rows.pairs up h.keyed

    pub held-hidden : IsHeld def lists new (live - 1) sets
    held-hidden = held-without def lists rows live sets h key new (live - 1) rows_hidden (subst (All (HasItsKey def.key)) (sym e) (keyed-with_value def.key key None rows.pairs tt h.keyed))
        (omega (arith, h.count, fewer)) (omega (arith, fewer)) order

    pub contents-hidden : contents_of def new ≡ without_row key (contents_of def rows)
    contents-hidden = ap (λ r. record { def = def; rows = r }) rows_hidden

    same_keys : keys_of new.pairs ≡ keys_of rows.pairs
    same_keys = ap keys_of e ∙ keys-with_value key None rows.pairs

    pub kept-hidden : KeepsRow (state_of def lists new sets) row
    kept-hidden = row_kept def lists new sets row (ap (λ ks. has_key ks (values_at def.key row)) same_keys ∙ its_slot key row s) (its_entries key row s)

    pub keeps-hidden : StillKeeps (state_of def lists rows sets) (state_of def lists new sets)
    keeps-hidden = keeps-grow def lists rows new sets sets (λ k f. ap (λ ks. has_key ks k) same_keys ∙ f) refl (λ k d e key l f. ap (λ (x : List (List Datum)). has_key x key) (get_or_default (entries_of sets) k e d l) ∙ f)

    pub counted-hidden : (left now : ℕ) → (now < full_count → now ≡ left + 1) → AreCounted (state_of def lists rows sets) left → AreCounted (state_of def lists new sets) now
    counted-hidden left now step h =
        counted-kept (state_of def lists rows sets) (state_of def lists new sets) left now (λ l. (omega (arith, l, step l), omega (arith, step l, fewer))) same_keys refl h

  -- a row is put where its key has a slot
  module _ (row : List Datum) (new : Slots) (more : Sets) (fits : IsRow def row) (slot : IsSome (value_of (values_at def.key row) rows.pairs))
      (e : new.pairs ≡ with_value (values_at def.key row) (Some row) rows.pairs) (long : length more ≡ length sets) (grow : Grow (entries_of sets) (entries_of more)) (entered : IsEntered def lists (entries_of more) row) (order : AreAscending new.pairs) where
    rows_put : live_rows new.pairs ≡ put def.key row (live_rows rows.pairs)
    rows_put = ap live_rows e ∙ live-replaced def.key row rows.pairs up h.keyed (pair_some (values_at def.key row) rows.pairs slot)

    pub contents-put : contents_of def new ≡ with_row (contents_of def rows) row
    contents-put = ap (λ r. record { def = def; rows = r }) rows_put

    same_slots : keys_of new.pairs ≡ keys_of rows.pairs
    same_slots = ap keys_of e ∙ keys-with_value (values_at def.key row) (Some row) rows.pairs

    pub keeps-put : StillKeeps (state_of def lists rows sets) (state_of def lists new more)
    keeps-put = keeps-grow def lists rows new sets more (λ k f. ap (λ ks. has_key ks k) same_slots ∙ f) long grow

    keyed_put : All (HasItsKey def.key) new.pairs
    keyed_put = subst (All (HasItsKey def.key)) (sym e) (keyed-with_value def.key (values_at def.key row) (Some row) rows.pairs refl h.keyed)

    -- over a row
    pub held-over : (was : List Datum) → row_of (values_at def.key row) rows.pairs ≡ Some was → IsHeld def lists new live more
    held-over was s =
        let same : length (live_rows new.pairs) ≡ length (live_rows rows.pairs) =
        ap (λ ps. length (live_rows ps)) e ∙ length-over (values_at def.key row) rows.pairs row was up (some_row (value_of (values_at def.key row) rows.pairs) was s) in
        held-put def lists rows live sets h row new live more fits rows_put keyed_put (h.count ∙ sym same) (omega (arith, same, h.table.bound)) long grow entered order

    pub kept-over : (was : List Datum) → row_of (values_at def.key row) rows.pairs ≡ Some was → KeepsRow (state_of def lists new more) was
    kept-over was s =
        row_kept def lists new more was (ap (λ ks. has_key ks (values_at def.key was)) same_slots ∙ its_slot (values_at def.key row) was s)
        (entered-grow def lists was (entries_of sets) (entries_of more) (omega (arith, long, length-entries sets, length-entries more)) grow (its_entries (values_at def.key row) was s))

    same_count : (was : List Datum) → row_of (values_at def.key row) rows.pairs ≡ Some was → length (live_rows new.pairs) ≡ length (live_rows rows.pairs)
    same_count was s =
        ap (λ ps. length (live_rows ps)) e ∙ length-over (values_at def.key row) rows.pairs row was up (some_row (value_of (values_at def.key row) rows.pairs) was s)

    pub counted-over : (was : List Datum) → row_of (values_at def.key row) rows.pairs ≡ Some was → GrowByOne (entries_of sets) (entries_of more) → (left now : ℕ) → (now < full_count → now ≡ left + 1)
        → AreCounted (state_of def lists rows sets) left → AreCounted (state_of def lists new more) now
    counted-over was s one left now step h =
        counted-grown (state_of def lists rows sets) (state_of def lists new more) left now (λ l. (omega (arith, l, step l), omega (arith, step l, same_count was s)))
        (omega (arith, ap length same_slots)) (omega (arith, long, length-entries sets, length-entries more)) one h

    -- a row that was kept
    pub counted-back : (was : List Datum) → row_of (values_at def.key row) rows.pairs ≡ Some was → entries_of more ≡ entries_of sets → (left : ℕ) → AreCounted (state_of def lists rows sets) left → AreCounted (state_of def lists new more) left
    counted-back was s same left h =
        counted-kept (state_of def lists rows sets) (state_of def lists new more) left left (λ l. (l, omega (arith, same_count was s))) same_slots same h

    -- where there was none
    pub counted-again : row_of (values_at def.key row) rows.pairs ≡ None → GrowByOne (entries_of sets) (entries_of more) → (left : ℕ) → AreCounted (state_of def lists rows sets) left → AreCounted (state_of def lists new more) left
    counted-again none growth left h =
        let flagged : value_of (values_at def.key row) rows.pairs ≡ Some None = no_row_there (value_of (values_at def.key row) rows.pairs) slot none in
        let one : length (live_rows new.pairs) ≡ suc (length (live_rows rows.pairs)) = ap (λ ps. length (live_rows ps)) e ∙ length-put (values_at def.key row) rows.pairs row up flagged in
        counted-grown (state_of def lists rows sets) (state_of def lists new more) left left (λ l. (l, omega (arith, one))) (omega (arith, ap length same_slots)) (omega (arith, long, length-entries sets, length-entries more)) growth h

    pub tidy-again : row_of (values_at def.key row) rows.pairs ≡ None → GrowByOne (entries_of sets) (entries_of more) → IsTidy (state_of def lists rows sets) → IsTidy (state_of def lists new more)
    tidy-again none growth h =
        let flagged : value_of (values_at def.key row) rows.pairs ≡ Some None = no_row_there (value_of (values_at def.key row) rows.pairs) slot none in
        let one : length (live_rows new.pairs) ≡ suc (length (live_rows rows.pairs)) = ap (λ ps. length (live_rows ps)) e ∙ length-put (values_at def.key row) rows.pairs row up flagged in
        tidy-grown (state_of def lists rows sets) (state_of def lists new more) (omega (arith, one)) (omega (arith, ap length same_slots)) (omega (arith, long, length-entries sets, length-entries more)) growth h

    pub held-again : row_of (values_at def.key row) rows.pairs ≡ None → length (put def.key row (live_rows rows.pairs)) ≤ most_rows → IsHeld def lists new (live + 1) more
    held-again none bound =
        let flagged : value_of (values_at def.key row) rows.pairs ≡ Some None = no_row_there (value_of (values_at def.key row) rows.pairs) slot none in
        let one : length (live_rows new.pairs) ≡ suc (length (live_rows rows.pairs)) = ap (λ ps. length (live_rows ps)) e ∙ length-put (values_at def.key row) rows.pairs row up flagged in
        held-put def lists rows live sets h row new (live + 1) more fits rows_put keyed_put (omega (arith, h.count, one)) (subst (λ r. length r ≤ most_rows) (sym rows_put) bound) long grow entered order

    pub room-again : row_of (values_at def.key row) rows.pairs ≡ None → length (live_rows rows.pairs) < most_rows → length (put def.key row (live_rows rows.pairs)) ≤ most_rows
    room-again none room =
        let flagged : value_of (values_at def.key row) rows.pairs ≡ Some None = no_row_there (value_of (values_at def.key row) rows.pairs) slot none in
        let one : length (live_rows new.pairs) ≡ suc (length (live_rows rows.pairs)) = ap (λ ps. length (live_rows ps)) e ∙ length-put (values_at def.key row) rows.pairs row up flagged in
        omega (arith, room, one, ap length rows_put)

  -- a row is put in whose key has no slot
  module _ (row : List Datum) (new : Slots) (more : Sets) (fits : IsRow def row) (absent : value_of (values_at def.key row) rows.pairs ≡ None)
      (e : new.pairs ≡ with_pair (record { key = values_at def.key row; value = Some row }) rows.pairs) (long : length more ≡ length sets) (grow : Grow (entries_of sets) (entries_of more)) (entered : IsEntered def lists (entries_of more) row) (order : AreAscending new.pairs) where
    rows_first : live_rows new.pairs ≡ put def.key row (live_rows rows.pairs)
    rows_first = ap live_rows e ∙ live-inserted def.key row rows.pairs h.keyed

    pub contents-first : contents_of def new ≡ with_row (contents_of def rows) row
    contents-first = ap (λ r. record { def = def; rows = r }) rows_first

    pub keeps-first : StillKeeps (state_of def lists rows sets) (state_of def lists new more)
    keeps-first = keeps-grow def lists rows new sets more
        (λ k f. ap (λ ps. has_key (keys_of ps) k) e ∙ has-grown (record { key = values_at def.key row; value = Some row }) k rows.pairs f) long grow

    pub held-first : length (live_rows rows.pairs) < most_rows → IsHeld def lists new (live + 1) more
    held-first room =
        let key = values_at def.key row in
        let one : length (live_rows new.pairs) ≡ suc (length (live_rows rows.pairs)) = ap (λ ps. length (live_rows ps)) e ∙ length-with_pair key row rows.pairs absent in
        held-put def lists rows live sets h row new (live + 1) more fits rows_first
        (subst (All (HasItsKey def.key)) (sym e) (keyed-with_pair def.key row rows.pairs h.keyed)) (omega (arith, h.count, one)) (omega (arith, one, room)) long grow entered order

    pub counted-first : GrowByOne (entries_of sets) (entries_of more) → (left : ℕ) → AreCounted (state_of def lists rows sets) left → AreCounted (state_of def lists new more) left
    counted-first growth left h =
        let key = values_at def.key row in
        let one : length (live_rows new.pairs) ≡ suc (length (live_rows rows.pairs)) = ap (λ ps. length (live_rows ps)) e ∙ length-with_pair key row rows.pairs absent in
        counted-grown (state_of def lists rows sets) (state_of def lists new more) left left (λ l. (l, omega (arith, one)))
        (omega (arith, ap (λ (ps : List Slot). length (keys_of ps)) e, keys-longer (record { key = key; value = Some row }) rows.pairs)) (omega (arith, long, length-entries sets, length-entries more)) growth h

    pub tidy-first : GrowByOne (entries_of sets) (entries_of more) → IsTidy (state_of def lists rows sets) → IsTidy (state_of def lists new more)
    tidy-first growth h =
        let key = values_at def.key row in
        let one : length (live_rows new.pairs) ≡ suc (length (live_rows rows.pairs)) = ap (λ ps. length (live_rows ps)) e ∙ length-with_pair key row rows.pairs absent in
        tidy-grown (state_of def lists rows sets) (state_of def lists new more) (omega (arith, one))
        (omega (arith, ap (λ (ps : List Slot). length (keys_of ps)) e, keys-longer (record { key = key; value = Some row }) rows.pairs)) (omega (arith, long, length-entries sets, length-entries more)) growth h

-- the rows are those of the keys that have one
settled-first : (p : Slot) (o : Option (List Datum)) (ps : List Slot) → p.value ≡ o → live_rows (cond (is_some o) (p ∷ ps) ps) ≡ cons_option o (live_rows ps)
settled-first p None ps e = refl
settled-first p (Some row) ps e = ap (λ v. cons_option v (live_rows ps)) e

live-settled : (pairs : List Slot) → live_rows (filter (λ p. is_some p.value) pairs) ≡ live_rows pairs
live-settled [] = refl
live-settled (p ∷ ps) =
    settled-first p p.value (filter (λ q. is_some q.value) ps) refl ∙ ap (cons_option p.value) (live-settled ps)

pub contents-settled : (def : TableDef) (rows new : Slots) → new.pairs ≡ filter (λ p. is_some p.value) rows.pairs → contents_of def new ≡ contents_of def rows
contents-settled def rows new e = ap (λ r. record { def = def; rows = r }) (ap live_rows e ∙ live-settled rows.pairs)

pub held-settled : (def : TableDef) (lists : List (List ℕ)) (rows new : Slots) (live : ℕ) (sets more : Sets) → IsHeld def lists rows live sets → new.pairs ≡ filter (λ p. is_some p.value) rows.pairs
    → length more ≡ length sets → AreEntered def lists (live_rows rows.pairs) (entries_of more) → AreAscending new.pairs → IsHeld def lists new live more
held-settled def lists rows new live sets more h e long entered order =
    let same : live_rows new.pairs ≡ live_rows rows.pairs = ap live_rows e ∙ live-settled rows.pairs in
    record {
      order = order;
      table = subst (λ r. IsTable (record { def = def; rows = r })) (sym same) h.table;
      count = h.count ∙ ap length (sym same);
      keyed = subst (All (HasItsKey def.key)) (sym e) (All-filter (λ (p : Slot). is_some p.value) (HasItsKey def.key) rows.pairs h.keyed);
      unique = h.unique;
      sets = long ∙ h.sets;
      entered = subst (λ r. AreEntered def lists r (entries_of more)) (sym same) entered;
    }

pub counted-settled : (def : TableDef) (lists : List (List ℕ)) (rows new : Slots) (more : Sets) → new.pairs ≡ filter (λ p. is_some p.value) rows.pairs → All (λ es. length es ≤ length (live_rows rows.pairs)) (entries_of more)
    → (n : ℕ) → length (live_rows new.pairs) ≤ n → KeepsAtMost n (state_of def lists new more)
counted-settled def lists rows new more e few n l =
    keeps-more (state_of def lists new more) (length (live_rows rows.pairs)) n (omega (arith, l, ap (λ ps. length (live_rows ps)) e, ap length (live-settled rows.pairs))) (settled-within def lists rows new more e few)

pub held-new : (def : TableDef) (lists : List (List ℕ)) (rows : Slots) (sets : Sets) → IsDefinition def → rows.pairs ≡ [] → lists ≡ def.unique → length sets ≡ length def.unique → IsHeld def lists rows 0 sets
held-new def lists rows sets defined e same long = record {
  order = subst AreAscending (sym e) (λ i j d l m. absurd (omega arith));
  table = subst (λ ps. IsTable (record { def = def; rows = live_rows ps })) (sym e)
      (record { defined = defined; fit = All-nil (IsRow def); ascend = λ i j d l m. absurd (omega arith); bound = omega arith });
  count = subst (λ ps. 0 ≡ length (live_rows ps)) (sym e) refl;
  keyed = subst (All (HasItsKey def.key)) (sym e) (All-nil (HasItsKey def.key));
  unique = ap (take (length def.unique)) same ∙ take_all (length def.unique) def.unique (omega arith);
  sets = long ∙ ap length (sym same);
  entered = subst (λ ps. AreEntered def lists (live_rows ps) (entries_of sets)) (sym e) (All-nil (IsEntered def lists (entries_of sets)));
}

-- what a read lends fits
pub found_fits : (def : TableDef) (lists : List (List ℕ)) (rows : Slots) (live : ℕ) (sets : Sets) → IsHeld def lists rows live sets → (key : List Datum) (r : Option (Bor (List Datum))) → option_copied r ≡ row_of key rows.pairs → IfSome r (λ x. IsRow def x.now)
found_fits def lists rows live sets h key None e = tt
found_fits def lists rows live sets h key (Some x) e = its_row def lists rows live sets h key x.now (sym e)

pub listed_fits : (P : List Datum → Type 0) (xs : List (List Datum)) (i : ℕ) (r : Option (Bor (List Datum))) → All P xs → option_copied r ≡ slice_get xs i → IfSome r (λ x. P x.now)
listed_fits P xs i None a e = tt
listed_fits P xs i (Some x) a e = subst P (get_or_from_slice_get xs i x.now [] (sym e)) (a i [] (slice_get_within xs i x.now (sym e)))

pub if_none : {X : Type 0} (r : Option X) (P : Type 0) → P → IfNone r P
if_none None P p = p
if_none (Some x) P p = tt

pub some_from : {X : Type 0} (o : Option X) → is_some o ≡ true → IsSome o
some_from None e = cc
some_from (Some x) e = refl

pub contents-taken : (def : TableDef) (lists : List (List ℕ)) (rows new : Slots) (live : ℕ) (sets : Sets) → IsHeld def lists rows live sets → (key : List Datum) → new.pairs ≡ with_value key None rows.pairs → contents_of def new ≡ without_row key (contents_of def rows)
contents-taken def lists rows new live sets h key e = ap (λ r. record { def = def; rows = r }) (ap live_rows e ∙ live-hidden def.key key rows.pairs h.order h.keyed)

pub keeps-same : (old new : State) → new ≡ old → StillKeeps old new
keeps-same old new e row k = subst (λ s. KeepsRow s row) (sym e) k

pub some_is : {X : Type 0} (o : Option X) → is_some o ≡ true → (x : X) × (o ≡ Some x)
some_is None e = cc
some_is (Some x) e = (x, refl)

-- a copy of a table
pub held-copy : (def other : TableDef) (lists copied : List (List ℕ)) (rows new : Slots) (live : ℕ) (sets more : Sets) → other ≡ def → copied ≡ lists → new.pairs ≡ rows.pairs → entries_of more ≡ entries_of sets → IsHeld def lists rows live sets → IsHeld other copied new live more
held-copy def other lists copied rows new live sets more d l e f h =
    subst (λ x. IsHeld x copied new live more) (sym d) (subst (λ ls. IsHeld def ls new live more) (sym l) (held-same def lists rows new live sets more e f (omega (arith, ap length f, length-entries sets, length-entries more)) h))

pub counted-same : (old new : State) (left : ℕ) → new ≡ old → AreCounted old left → AreCounted new left
counted-same old new left e h = subst (λ s. AreCounted s left) (sym e) h

pub state-copy : (def other : TableDef) (lists copied : List (List ℕ)) (rows new : Slots) (sets more : Sets) → other ≡ def → copied ≡ lists → new.pairs ≡ rows.pairs → entries_of more ≡ entries_of sets → state_of other copied new more ≡ state_of def lists rows sets
state-copy def other lists copied rows new sets more d l e f =
    ap (λ (x : TableDef). state_of x copied new more) d ∙ ap (λ (ls : List (List ℕ)). state_of def ls new more) l ∙ state-same def lists rows new sets more e f

-- ---- an index

inserted_last : {X : Type 0} (xs : List X) (x : X) → insert xs (length xs) x ≡ xs ++ x ∷ []
inserted_last [] x = refl
inserted_last (y ∷ ys) x = ap (λ zs. y ∷ zs) (inserted_last ys x)

-- what is put in after all others
pub inserted-last : {X : Type 0} (xs ys : List X) (n : ℕ) (x : X) → xs ≡ ys → n ≡ length xs → insert xs n x ≡ ys ++ x ∷ []
inserted-last xs ys n x e l = ap (λ k. insert xs k x) l ∙ inserted_last xs x ∙ ap (λ zs. zs ++ x ∷ []) e

-- where the table has no rows, one list more is kept, and a set for it that is empty
module _ (def : TableDef) (lists : List (List ℕ)) (rows : Slots) (live : ℕ) (sets : Sets) (h : IsHeld def lists rows live sets) (columns : List ℕ) (set : Mapped (Unit {0})) where
  abbrev one_list : List (List ℕ)
  one_list = lists ++ columns ∷ []

  abbrev one_set : Sets
  one_set = sets ++ set ∷ []

  pub held-indexed : live_rows rows.pairs ≡ [] → IsHeld def one_list rows live one_set
  held-indexed none = record {
    order = h.order;
    table = h.table;
    count = h.count;
    keyed = h.keyed;
    unique = take-longer (length def.unique) lists (columns ∷ []) (take-within (length def.unique) lists def.unique h.unique) ∙ h.unique;
    sets = omega (arith, h.sets, length-append lists (columns ∷ []), length-append sets (set ∷ []));
    entered = subst (λ rs. AreEntered def one_list rs (entries_of one_set)) (sym none) (All-nil (IsEntered def one_list (entries_of one_set)));
  }

  pub keeps-indexed : set.pairs ≡ [] → (most : ℕ) → KeepsAtMost most (state_of def lists rows sets) → KeepsAtMost most (state_of def one_list rows one_set)
  keeps-indexed empty most k = record { slots = k.slots; entries = few-pushed most sets set empty k.entries }

  pub counted-indexed : set.pairs ≡ [] → (left : ℕ) → AreCounted (state_of def lists rows sets) left → AreCounted (state_of def one_list rows one_set) left
  counted-indexed empty left k l = keeps-indexed empty (length (live_rows rows.pairs) + left) (k l)

  pub tidy-indexed : set.pairs ≡ [] → IsTidy (state_of def lists rows sets) → IsTidy (state_of def one_list rows one_set)
  tidy-indexed empty k = keeps-indexed empty (2 * length (live_rows rows.pairs) + few_left) k
