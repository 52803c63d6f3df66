-- A walk over the row that a UNIQUE list finds takes what a walk over all rows takes.
use Rattle.std.proofs.Common.{◌≡◌, ℕ, suc, Bool, true, false, ◌&&◌, ◌||◌, not, List, [], ◌∷◌, get_or, refl, ap, sym, ◌∙◌, arith, Some, Result, Ok}
use Rattle.std.specs.Prelude.{cond, filter}
use Rattle.std.specs.Ordering.{is_eq, ordering_then}
use Rattle.std.specs.declared.cmp.Ordering.{Ordering}
use Rattle.std.specs.declared.cmp.Ordering.TheVariants.{Less, Equal, Greater}
use Rattle.psm_sqlstate.specs.declared.state.SqlState.{SqlState}
use Rattle.psm_value.specs.Order.{data_order}
use Rattle.psm_value.specs.declared.datum.Datum.{Datum}
use Rattle.psm_value.specs.declared.datum.Datum.TheVariants.{Null, Num, Text}
use Rattle.psm_value.specs.declared.truth.Truth.{Truth}
use Rattle.psm_value.specs.declared.truth.Truth.TheVariants.{True}
use Rattle.psm_exprcode.specs.declared.op.Line.{Line}
use Rattle.psm_exprcode.specs.Evaluated.{evaluated}
use Rattle.psm_table.specs.Evaluator.{test_of}
use Rattle.psm_table.specs.Key.{key_order, values_at}
use Rattle.psm_table.specs.Matching.{at_most_one, rows_with}
use Rattle.psm_table.specs.Queries.{in_walk, walked}
use Rattle.psm_table.specs.Table.{Contents}
use Rattle.psm_table.specs.Unique.{agree, equal_values, has_null, is_null, AreUnique, IsUnique}
use Rattle.psm_table.proofs.Filters.{AllPairs-rest, filter-empty}
use Rattle.psm_table.proofs.Rivals.{equal_parts, equal_sym, equal_trans}
use Rattle.psm_tablecode.specs.declared.walking.Unique.{Unique}
use Rattle.psm_tablecode.specs.Asked.{columns_in, rows_at, rows_or, unique_asked, unique_from, IsLookUp}
use Rattle.psm_tablecode.specs.Codes.{over}
use Rattle.psm_tablecode.specs.Tests.{are_quiet}
use Rattle.psm_tablecode.proofs.Conjunctions.{raises_nothing}
use Rattle.psm_tablecode.proofs.LookUps.{asked_from, each_known, values_found}
use Rattle.psm_tablecode.proofs.Ranges.{walked-where}
use Rattle.psm_tablecode.proofs.Sought.{each_equal, met_truth, quiet_truth}
use Rattle.psm_tablecode.proofs.Stepped.{filter-reverse}

-- ---- equal values

then_equal : (o r : Ordering) → ordering_then o r ≡ Equal → (o ≡ Equal) × (r ≡ Equal)
then_equal Less r e = absurd (cc)
then_equal Equal r e = (refl, e)
then_equal Greater r e = absurd (cc)

-- nothing else is equal to null
not_null : (a b : Datum) → data_order a b ≡ Equal → is_null b ≡ false → is_null a ≡ false
not_null Null Null e f = f
not_null Null (Num b) e f = absurd (cc)
not_null Null (Text b) e f = absurd (cc)
not_null (Num a) b e f = refl
not_null (Text a) b e f = refl

both_false : (a b c : Bool) → (a || b) ≡ false → c ≡ false → (a ≡ false) × (b ≡ false)
both_false true b c e f = absurd (cc)
both_false false b c e f = (refl, e)

equal_filled : (xs ys : List Datum) → key_order xs ys ≡ Equal → has_null ys ≡ false → has_null xs ≡ false
equal_filled [] ys e f = refl
equal_filled (a ∷ xs) [] e f = absurd (cc)
equal_filled (a ∷ xs) (b ∷ ys) e f =
    let o = then_equal (data_order a b) (key_order xs ys) e in
    let n = both_false (is_null b) (has_null ys) false f refl in
    ap (λ x. x || has_null xs) (not_null a b o.0 n.0) ∙ equal_filled xs ys o.1 n.1

are_equal : (xs ys : List Datum) → has_null xs ≡ false → has_null ys ≡ false → key_order xs ys ≡ Equal → equal_values xs ys ≡ true
are_equal xs ys m n e =
    ap (λ x. not x && (not (has_null ys) && is_eq (key_order xs ys))) m ∙ ap (λ x. not x && is_eq (key_order xs ys)) n ∙ ap is_eq e

-- values that are equal to the same values are equal
alike : (values xs ys : List Datum) → equal_values values xs ≡ true → equal_values values ys ≡ true → equal_values xs ys ≡ true
alike values xs ys e f =
    let p = equal_parts values xs e in
    let q = equal_parts values ys f in
    are_equal xs ys p.1 q.1 (equal_trans xs values ys (equal_sym values xs p.2) q.2)

-- ---- tests

module _ (lists : List (List ℕ)) (vars : List Datum) (lines : List Line) (unique : Unique) (asks : unique_asked lists vars (Some lines) ≡ Some unique) where
  asked : (are_quiet lines ≡ true) × (unique_from 0 lists vars lines ≡ Some unique)
  asked = asked_from lists vars lines unique asks

  pub unique_quiet : (row : List Datum) → (t : Truth) × (test_of (over vars) (Some lines) row ≡ Ok t)
  unique_quiet row = quiet_truth row vars (evaluated lines row vars) (λ s e. raises_nothing row vars 0 lines [] s asked.0 e)

  pub unique_only : (row : List Datum) → test_of (over vars) (Some lines) row ≡ Ok True → equal_values unique.values (values_at (columns_in lists unique.list) row) ≡ true
  unique_only row e =
      let columns : List ℕ = columns_in lists unique.list in
      let known = each_known columns vars lines unique.values (values_found vars lines lists unique asked.1) in
      let same : key_order (values_at columns row) unique.values ≡ Equal = each_equal row vars columns lines unique.values asked.0 (met_truth row vars (evaluated lines row vars) e) known.0 in
      are_equal unique.values (values_at columns row) known.1 (equal_filled (values_at columns row) unique.values same known.1) (equal_sym (values_at columns row) unique.values same)

-- ---- walks

one_way : (downward : Bool) (row : List Datum) → in_walk downward (row ∷ []) ≡ row ∷ []
one_way true row = refl
one_way false row = refl

no_way : (downward : Bool) → in_walk downward [] ≡ []
no_way true = refl
no_way false = refl

module _ {A : Type 0} (P : List Datum → Bool) (test : List Datum → Result Truth SqlState) (take : List Datum → Result A SqlState)
    (quiet : (row : List Datum) → (t : Truth) × (test row ≡ Ok t)) (only : (row : List Datum) → test row ≡ Ok True → P row ≡ true) (downward : Bool) (rows : List (List Datum)) where
  filter-walk : (b : Bool) → filter P (in_walk b rows) ≡ in_walk b (filter P rows)
  filter-walk true = sym (filter-reverse P rows)
  filter-walk false = refl

  kept : (xs : List (List Datum)) → filter P rows ≡ xs → in_walk downward xs ≡ xs → walked test take xs ≡ walked test take (in_walk downward rows)
  kept xs e w = sym (walked-where P test take quiet only (in_walk downward rows) ∙ ap (walked test take) (filter-walk downward ∙ ap (in_walk downward) e ∙ w))

  walked_or : (xs : List (List Datum)) → filter P rows ≡ xs → walked test take (rows_or (at_most_one xs) (in_walk downward rows)) ≡ walked test take (in_walk downward rows)
  walked_or [] e = kept [] e (no_way downward)
  walked_or (row ∷ []) e = kept (row ∷ []) e (one_way downward row)
  walked_or (row ∷ other ∷ xs) e = refl

pub walked_at : {A : Type 0} (t : Contents) (vars : List Datum) (lines : List Line) (take : List Datum → Result A SqlState) (downward : Bool) (unique : Unique) → unique_asked t.def.unique vars (Some lines) ≡ Some unique
    → walked (test_of (over vars) (Some lines)) take (rows_at t downward unique) ≡ walked (test_of (over vars) (Some lines)) take (in_walk downward t.rows)
walked_at t vars lines take downward unique e =
    let columns : List ℕ = columns_in t.def.unique unique.list in
    walked_or (λ row. equal_values unique.values (values_at columns row)) (test_of (over vars) (Some lines)) take (unique_quiet t.def.unique vars lines unique e) (unique_only t.def.unique vars lines unique e) downward t.rows
    (rows_with columns unique.values t.rows) refl

-- ---- a list that holds

module _ (columns : List ℕ) (values : List Datum) where
  abbrev Has : List Datum → Bool
  Has row = equal_values values (values_at columns row)

  apart : (row other : List Datum) (b : Bool) → Has row ≡ true → agree row other columns ≡ false → Has other ≡ b → b ≡ false
  apart row other true h n e = let same : agree row other columns ≡ true = alike values (values_at columns row) (values_at columns other) h e in cc
  apart row other false h n e = refl

  one_by : (row : List Datum) (rows : List (List Datum)) (b : Bool) → IsUnique (row ∷ rows) columns → Has row ≡ b → at_most_one (filter Has rows) ≡ Some (filter Has rows)
      → at_most_one (cond b (row ∷ filter Has rows) (filter Has rows)) ≡ Some (cond b (row ∷ filter Has rows) (filter Has rows))
  one_by row rows true u e h =
      let none : filter Has rows ≡ [] = filter-empty Has rows (λ k d l. apart row (get_or rows k d) (Has (get_or rows k d)) e (u 0 (suc k) d (omega arith) (omega (arith, l))) refl) in
      ap (λ xs. at_most_one (row ∷ xs)) none ∙ sym (ap (λ xs. Some (row ∷ xs)) none)
  one_by row rows false u e h = h

  one_by_unique : (rows : List (List Datum)) → IsUnique rows columns → at_most_one (filter Has rows) ≡ Some (filter Has rows)
  one_by_unique [] u = refl
  one_by_unique (row ∷ rows) u = one_by row rows (Has row) u refl (one_by_unique rows (AllPairs-rest (λ a b. agree a b columns ≡ false) row rows u))

pub only_one : (t : Contents) (downward : Bool) (unique : Unique) → AreUnique t.def t.rows → IsLookUp t.def.unique unique → rows_at t downward unique ≡ rows_with (columns_in t.def.unique unique.list) unique.values t.rows
only_one t downward unique u h =
    ap (λ o. rows_or o (in_walk downward t.rows)) (one_by_unique (columns_in t.def.unique unique.list) unique.values t.rows (u unique.list [] h.there))
