-- UPDATE that sets no column of the key, and none of a UNIQUE list.
use Rattle.std.proofs.Common.{◌≡◌, ℕ, zero, suc, List, [], ◌∷◌, ◌++◌, Bool, true, false, ◌&&◌, ◌||◌, refl, ap, sym, subst, ◌∙◌, Option, Some, None, Result, Ok, Err}
use Rattle.std.specs.Prelude.{◌≢◌, All, IsSome, map, nat_eq, not, slice_index_or, slice_set, if◌then◌else◌}
use Rattle.std.specs.List.{cons_option, list_all, list_any}
use Rattle.std.specs.Ordering.{is_eq}
use Rattle.std.specs.declared.cmp.Ordering.TheVariants.{Less, Equal}
use Rattle.std.proofs.lemmas.Bool.{eq-eqb}
use Rattle.std.proofs.lemmas.List.Elements.{All-cons, All-head, All-nil, All-tail}
use Rattle.std.proofs.lemmas.List.Kept.{AllPairs-cons}
use Rattle.psm_sqlstate.specs.declared.state.SqlState.{SqlState}
use Rattle.psm_value.specs.Stored.{stored}
use Rattle.psm_value.specs.declared.datum.Datum.{Datum}
use Rattle.psm_value.specs.declared.datum.Datum.TheVariants.{Null}
use Rattle.psm_value.specs.declared.truth.Truth.{Truth}
use Rattle.psm_exprcode.specs.declared.set_item.SetItem as set_code
use Rattle.psm_table.specs.declared.definition.TableDef.{TableDef}
use Rattle.psm_table.specs.Changing.{all_apart, are_apart, divided, kind_of, new_values, with_made, with_values, Division}
use Rattle.psm_table.specs.Definition.{IsRow}
use Rattle.psm_table.specs.Evaluator.{and_then, mapped, Evaluator}
use Rattle.psm_table.specs.Key.{key_order, row_order, values_at}
use Rattle.psm_table.specs.Queries.{is_met, walked}
use Rattle.psm_table.specs.Rows.{row_with, IsAscending}
use Rattle.psm_table.specs.Unique.{agree, conflict, equal_values}
use Rattle.psm_table.proofs.Filters.{AllPairs-first, AllPairs-rest}
use Rattle.psm_table.proofs.KeyLaws.{key_order-refl}
use Rattle.psm_table.proofs.Legal.{by_division}
use Rattle.psm_table.proofs.Rules.{apart-turned, apart_from, both, first_true, second_true}
use Rattle.psm_tablecode.specs.Codes.{over}
use Rattle.psm_dml.specs.Changes.{changing, keep_places, row_set, set_of, sets_none}
use Rattle.psm_dml.specs.declared.planning.Change.{Change}
use Rattle.psm_dml.proofs.Assigned.{set_whole}
use Rattle.psm_row_changes.proofs.Places.{found_cons}
use Rattle.psm_dml.proofs.Walked.{walked-map}

abbrev Row : Type 0
Row = List Datum

-- ---- columns that are not set

or_first : (a b : Bool) → (a || b) ≡ false → a ≡ false
or_first true b e = cc
or_first false b e = refl

or_second : (a b : Bool) → (a || b) ≡ false → b ≡ false
or_second true b e = cc
or_second false b e = e

not_true : (b : Bool) → not b ≡ true → b ≡ false
not_true true e = cc
not_true false e = refl

set_other : (row : Row) (i c : ℕ) (d : Datum) → (c ≡ i → ⊥) → slice_index_or (slice_set row i d) c Null ≡ slice_index_or row c Null
set_other [] zero c d h = refl
set_other [] (suc i) c d h = refl
set_other (x ∷ xs) zero zero d h = absurd (h refl)
set_other (x ∷ xs) zero (suc c) d h = refl
set_other (x ∷ xs) (suc i) zero d h = refl
set_other (x ∷ xs) (suc i) (suc c) d h = set_other xs i c d (λ e. h (ap suc e))

differ : (c i : ℕ) → nat_eq c i ≡ false → c ≡ i → ⊥
differ c i e same = let bad : true ≡ false = sym (eq-eqb c i same) ∙ e in cc

set_others : (columns : List ℕ) (row : Row) (i : ℕ) (d : Datum) → list_any (λ c. nat_eq c i) columns ≡ false → values_at columns (slice_set row i d) ≡ values_at columns row
set_others [] row i d h = refl
set_others (c ∷ cs) row i d h =
    ap (λ v. v ∷ values_at cs (slice_set row i d)) (set_other row i c d (differ c i (or_first (nat_eq c i) (list_any (λ x. nat_eq x i) cs) h)))
    ∙ ap (λ vs. slice_index_or row c Null ∷ vs) (set_others cs row i d (or_second (nat_eq c i) (list_any (λ x. nat_eq x i) cs) h))

module _ (def : TableDef) (columns : List ℕ) where
  abbrev is_other : set_code.SetItem → Bool
  is_other s = not (list_any (λ c. nat_eq c s.column) columns)

  values_step : (s : set_code.SetItem) (sets : List set_code.SetItem) (vs row new : Row) (d : Result Datum SqlState) → is_other s ≡ true
      → ((q : Row) → with_values def (map set_of sets) vs q ≡ Ok new → values_at columns new ≡ values_at columns q)
      → and_then d (λ e. with_values def (map set_of sets) vs (slice_set row s.column e)) ≡ Ok new → values_at columns new ≡ values_at columns row
  values_step s sets vs row new (Ok e) f go g = go (slice_set row s.column e) g ∙ set_others columns row s.column e (not_true (list_any (λ c. nat_eq c s.column) columns) f)
  values_step s sets vs row new (Err u) f go g = cc

  values_stay : (sets : List set_code.SetItem) (vs row new : Row) → sets_none sets columns ≡ true → with_values def (map set_of sets) vs row ≡ Ok new → values_at columns new ≡ values_at columns row
  values_stay [] vs row new f e = let same : row ≡ new = cc in ap (values_at columns) (sym same)
  values_stay (s ∷ sets) [] row new f e = let same : row ≡ new = cc in ap (values_at columns) (sym same)
  values_stay (s ∷ sets) (v ∷ vs) row new f e =
      values_step s sets vs row new (stored (kind_of def s.column) v) (first_true (is_other s) (sets_none sets columns) f)
      (λ q g. values_stay sets vs q new (second_true (is_other s) (sets_none sets columns) f) g) e

  -- the values of a row in these columns stay
  pub set_stays : (vars : List Datum) (sets : List set_code.SetItem) (row new : Row) → sets_none sets columns ≡ true → row_set vars def sets row ≡ Ok new → values_at columns new ≡ values_at columns row
  set_stays vars sets row new f e = step (new_values (over vars) (map set_of sets) row) e where
    step : (n : Result Row SqlState) → and_then n (λ vs. with_values def (map set_of sets) vs row) ≡ Ok new → values_at columns new ≡ values_at columns row
    step (Ok vs) g = values_stay sets vs row new f g
    step (Err s) g = cc

-- the new row has the key of the old one, and conflicts with the same rows
pub record Stays (def : TableDef) (row new : Row) : Type 0 where
  pub key : values_at def.key new ≡ values_at def.key row
  pub conflicts : (other : Row) → conflict def other new ≡ conflict def other row

pub row_stays : (def : TableDef) (vars : List Datum) (sets : List set_code.SetItem) → keep_places def sets ≡ true → (row new : Row) → row_set vars def sets row ≡ Ok new → Stays def row new
row_stays def vars sets f row new e = record {
  key = set_stays def def.key vars sets row new (first_true (sets_none sets def.key) (list_all (sets_none sets) def.unique) f) e;
  conflicts = λ other. agree_same other def.unique (second_true (sets_none sets def.key) (list_all (sets_none sets) def.unique) f);
} where
  agree_same : (other : Row) (lists : List (List ℕ)) → list_all (sets_none sets) lists ≡ true → list_any (agree other new) lists ≡ list_any (agree other row) lists
  agree_same other [] g = refl
  agree_same other (columns ∷ lists) g =
      ap (λ vs. equal_values (values_at columns other) vs || list_any (agree other new) lists) (set_stays def columns vars sets row new (first_true (sets_none sets columns) (list_all (sets_none sets) lists) g) e)
      ∙ ap (λ b. agree other row columns || b) (agree_same other lists (second_true (sets_none sets columns) (list_all (sets_none sets) lists) g))

-- ---- the rows apart

module _ (def : TableDef) where
  apart_same : (row new other : Row) → Stays def row new → are_apart def other new ≡ are_apart def other row
  apart_same row new other h =
      ap (λ k. not (is_eq (key_order (values_at def.key other) k)) && not (conflict def other new)) h.key
      ∙ ap (λ b. not (is_eq (key_order (values_at def.key other) (values_at def.key row))) && not b) (h.conflicts other)

  from_same : (row new : Row) → Stays def row new → (rows : List Row) → apart_from def new rows ≡ apart_from def row rows
  from_same row new h [] = refl
  from_same row new h (x ∷ xs) = ap (λ b. b && apart_from def new xs) (apart_same row new x h) ∙ ap (λ b. are_apart def x row && b) (from_same row new h xs)

  turned-all : (row : Row) (rows : List Row) → list_all (are_apart def row) rows ≡ apart_from def row rows
  turned-all row [] = refl
  turned-all row (x ∷ xs) = ap (λ b. b && list_all (are_apart def row) xs) (apart-turned def row x) ∙ ap (λ b. are_apart def x row && b) (turned-all row xs)

  -- a row between others
  between_all : (p : Row → Bool) (row : Row) (xs ys : List Row) → p row ≡ true → list_all p (xs ++ ys) ≡ true → list_all p (xs ++ row ∷ ys) ≡ true
  between_all p row [] ys e h = both (p row) (list_all p ys) e h
  between_all p row (x ∷ xs) ys e h =
      both (p x) (list_all p (xs ++ row ∷ ys)) (first_true (p x) (list_all p (xs ++ ys)) h) (between_all p row xs ys e (second_true (p x) (list_all p (xs ++ ys)) h))

  between_apart : (row : Row) (xs ys : List Row) → apart_from def row (xs ++ ys) ≡ true → all_apart def (xs ++ ys) ≡ true → all_apart def (xs ++ row ∷ ys) ≡ true
  between_apart row [] ys e h = both (list_all (are_apart def row) ys) (all_apart def ys) (turned-all row ys ∙ e) h
  between_apart row (x ∷ xs) ys e h =
      both (list_all (are_apart def x) (xs ++ row ∷ ys)) (all_apart def (xs ++ row ∷ ys))
      (between_all (are_apart def x) row xs ys (first_true (are_apart def x row) (apart_from def row (xs ++ ys)) e) (first_true (list_all (are_apart def x) (xs ++ ys)) (all_apart def (xs ++ ys)) h))
      (between_apart row xs ys (second_true (are_apart def x row) (apart_from def row (xs ++ ys)) e) (second_true (list_all (are_apart def x) (xs ++ ys)) (all_apart def (xs ++ ys)) h))

-- ---- the rows that are made

module _ {E : Type 0} (ev : Evaluator E) (test : Option E) (def : TableDef) (make : Row → Result Row SqlState) (stays : (row new : Row) → make row ≡ Ok new → Stays def row new) where
  abbrev Apart : List Row → Division → Type 0
  Apart rows p = ((t : Row) → apart_from def t rows ≡ true → apart_from def t (p.left ++ p.made) ≡ true) × (all_apart def rows ≡ true → all_apart def (p.left ++ p.made) ≡ true)

  apart_made : (row new : Row) (rows : List Row) (p : Division) → Stays def row new → Apart rows p → Apart (row ∷ rows) (with_made new p)
  apart_made row new rows p h q = (
    λ t e. between_all def (λ other. are_apart def other t) new p.left p.made
        (apart-turned def new t ∙ apart_same def row new t h ∙ apart-turned def t row ∙ first_true (are_apart def row t) (apart_from def t rows) e)
        (q.0 t (second_true (are_apart def row t) (apart_from def t rows) e)),
    λ e. between_apart def new p.left p.made
        (q.0 new (from_same def row new h rows ∙ sym (turned-all def row rows) ∙ first_true (list_all (are_apart def row) rows) (all_apart def rows) e))
        (q.1 (second_true (list_all (are_apart def row) rows) (all_apart def rows) e)),
  )

  -- with the rows that are left they are apart as the old rows are
  pub stay_apart : (rows : List Row) (p : Division) → divided ev test make rows ≡ Ok p → Apart rows p
  stay_apart = by_division ev test make Apart (λ t e. e, λ e. e)
      (λ row rows p q. (
        λ t e. both (are_apart def row t) (apart_from def t (p.left ++ p.made)) (first_true (are_apart def row t) (apart_from def t rows) e) (q.0 t (second_true (are_apart def row t) (apart_from def t rows) e)),
        λ e. both (list_all (are_apart def row) (p.left ++ p.made)) (all_apart def (p.left ++ p.made))
            (turned-all def row (p.left ++ p.made) ∙ q.0 row (sym (turned-all def row rows) ∙ first_true (list_all (are_apart def row) rows) (all_apart def rows) e))
            (q.1 (second_true (list_all (are_apart def row) rows) (all_apart def rows) e)),
      ))
      (λ row new rows p e q. apart_made row new rows p (stays row new e) q)

  abbrev Rises : Row → Row → Type 0
  Rises a b = key_order (values_at def.key a) (values_at def.key b) ≡ Less

  abbrev Ascends : List Row → Division → Type 0
  Ascends rows p = IsAscending def.key rows → IsAscending def.key p.made × ((row : Row) → All (Rises row) rows → All (Rises row) p.made)

  ascends_made : (row new : Row) (rows : List Row) (p : Division) → Stays def row new → Ascends rows p → Ascends (row ∷ rows) (with_made new p)
  ascends_made row new rows p h q up =
      let rest = q (AllPairs-rest Rises row rows up) in
      let after : All (Rises new) p.made = subst (λ (k : List Datum). All (λ b. key_order k (values_at def.key b) ≡ Less) p.made) (sym h.key) (rest.1 row (AllPairs-first Rises row rows up)) in (
        AllPairs-cons Rises new p.made after rest.0,
        λ other g. All-cons (Rises other) new p.made
            (subst (λ (k : List Datum). key_order (values_at def.key other) k ≡ Less) (sym h.key) (All-head (Rises other) row rows g)) (rest.1 other (All-tail (Rises other) row rows g)),
      )

  -- they ascend
  pub stay_ascending : (rows : List Row) (p : Division) → divided ev test make rows ≡ Ok p → Ascends rows p
  stay_ascending = by_division ev test make Ascends (λ up. (up, λ row g. g))
      (λ row rows p q up. let rest = q (AllPairs-rest Rises row rows up) in (rest.0, λ other g. rest.1 other (All-tail (Rises other) row rows g)))
      (λ row new rows p e q. ascends_made row new rows p (stays row new e) q)

  abbrev has_key : List Row → Row → Type 0
  has_key rows new = IsSome (row_with def.key (values_at def.key new) rows)

  abbrev Named : List Row → Division → Type 0
  Named rows p = All (has_key rows) p.made

  named_more : (row : Row) (rows news : List Row) → All (has_key rows) news → All (has_key (row ∷ rows)) news
  named_more row rows [] h = All-nil (has_key (row ∷ rows))
  named_more row rows (new ∷ news) h =
      All-cons (has_key (row ∷ rows)) new news (found_cons (λ r. is_eq (row_order def.key (values_at def.key new) r)) row rows (All-head (has_key rows) new news h))
      (named_more row rows news (All-tail (has_key rows) new news h))

  -- each has the key of an old row
  pub stay_named : (rows : List Row) (p : Division) → divided ev test make rows ≡ Ok p → Named rows p
  stay_named = by_division ev test make Named (All-nil (has_key []))
      (λ row rows p q. named_more row rows p.made q)
      (λ row new rows p e q.
      let h : Stays def row new = stays row new e in
      let same : row_order def.key (values_at def.key new) row ≡ Equal = ap (λ k. key_order (values_at def.key row) k) h.key ∙ key_order-refl (values_at def.key row) in
      let here : has_key (row ∷ rows) new = rw same refl in
      All-cons (has_key (row ∷ rows)) new p.made here (named_more row rows p.made q))

  -- they fit the table
  pub stay_fitting : ((row new : Row) → IsRow def row → make row ≡ Ok new → IsRow def new) → (rows : List Row) (p : Division) → divided ev test make rows ≡ Ok p → All (IsRow def) rows → All (IsRow def) p.made
  stay_fitting fits = by_division ev test make (λ rows p. All (IsRow def) rows → All (IsRow def) p.made) (λ h. h)
      (λ row rows p q h. q (All-tail (IsRow def) row rows h))
      (λ row new rows p e q h. All-cons (IsRow def) new p.made (fits row new (All-head (IsRow def) row rows h) e) (q (All-tail (IsRow def) row rows h)))

pub row_fits : (def : TableDef) (vars : List Datum) (sets : List set_code.SetItem) → keep_places def sets ≡ true → (row new : Row) → IsRow def row → row_set vars def sets row ≡ Ok new → IsRow def new
row_fits def vars sets f row new fit e =
    let whole = set_whole def (over vars) (map set_of sets) row new (record { long = fit.long; families = fit.families }) e in
    let h : Stays def row new = row_stays def vars sets f row new e in
    record {
      long = whole.long;
      families = whole.families;
      filled = subst (λ (k : List Datum). All (λ d. d ≢ Null) k) (sym h.key) fit.filled;
    }

-- ---- the rows as changes

module _ (def : TableDef) (test : Row → Result Truth SqlState) (make : Row → Result Row SqlState) (stays : (row new : Row) → make row ≡ Ok new → values_at def.key new ≡ values_at def.key row) where
  abbrev pub as_change : Row → Change
  as_change new = record { key = values_at def.key new; made = new }

  change_is : (row : Row) (m : Result Row SqlState) → make row ≡ m → mapped (λ new. record { key = values_at def.key row; made = new }) m ≡ mapped as_change m
  change_is row (Ok new) e = ap (λ (k : List Datum). let one : Change = record { key = k; made = new } in Ok one) (sym (stays row new e))
  change_is row (Err s) e = refl

  walk_is : (rows : List Row) → walked test (changing def.key make) rows ≡ walked test (λ row. mapped as_change (make row)) rows
  walk_is [] = refl
  walk_is (row ∷ rows) =
      ap (λ c. and_then (and_then (test row) (λ met. if is_met met then mapped (λ a. Some a) c else Ok None)) (λ a. mapped (λ more. cons_option a more) (walked test (changing def.key make) rows))) (change_is row (make row) refl)
      ∙ ap (λ w. and_then (and_then (test row) (λ met. if is_met met then mapped (λ a. Some a) (mapped as_change (make row)) else Ok None)) (λ a. mapped (λ more. cons_option a more) w)) (walk_is rows)

  -- the changes that a walk makes, by what it makes of the rows
  pub walk_as : (rows : List Row) → walked test (changing def.key make) rows ≡ mapped (λ l. map as_change l) (walked test make rows)
  walk_as rows = walk_is rows ∙ walked-map test make as_change rows
