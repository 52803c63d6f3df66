-- Walks over rows, one after another.
use Rattle.std.proofs.Common.{◌≡◌, ℕ, ◌+◌, ◌≤◌, List, [], ◌∷◌, ◌++◌, length, drop, append_assoc, length-append, refl, ap, sym, subst, ◌∙◌, arith, Option, Some, None, Result, Ok, Err}
use Rattle.std.specs.Prelude.{All, IfSome, map, slice_get, if◌then◌else◌}
use Rattle.std.specs.List.{cons_option}
use Rattle.std.proofs.lemmas.List.{append-nil}
use Rattle.std.proofs.lemmas.List.Elements.{All-append, All-cons, All-head, All-nil, All-tail}
use Rattle.psm_sqlstate.specs.declared.state.SqlState.{SqlState}
use Rattle.psm_value.specs.Answer.{Gives}
use Rattle.psm_value.specs.declared.datum.Datum.{Datum}
use Rattle.psm_value.specs.declared.fault.ValueFault.{ValueFault}
use Rattle.psm_value.specs.declared.truth.Truth.{Truth}
use Rattle.psm_value.specs.declared.truth.Truth.TheVariants.{True, False, Unknown}
use Rattle.psm_table.specs.Evaluator.{and_then, mapped}
use Rattle.psm_table.specs.Queries.{is_met, taken, walked}
use Rattle.psm_tablecode.proofs.Results.{mapped-same}
use Rattle.psm_tablecode.proofs.WalkLaws as walk
use Rattle.psm_dml.specs.Collected.{with_option}

module _ {A : Type 0} (test : List Datum → Result Truth SqlState) (take : List Datum → Result A SqlState) (order : List (List Datum)) where
  -- with what is done, the rest evaluates to what all rows evaluate to
  abbrev pub Walks : ℕ → List A → Type 0
  Walks at done = mapped (λ more. done ++ more) (walked test take (drop at order)) ≡ walked test take order

  pub walks_first : (done : List A) → done ≡ [] → Walks 0 done
  walks_first done e = subst (λ d. Walks 0 d) (sym e) (mapped-same (walked test take order))

  all_after : (done : List A) (o : Option A) (more : List A) → done ++ cons_option o more ≡ with_option done o ++ more
  all_after done None more = refl
  all_after done (Some a) more = sym (append_assoc done (a ∷ []) more)

  pub walks_next : (at : ℕ) (row : List Datum) (o : Option A) (done more : List A) → slice_get order at ≡ Some row → taken test take row ≡ Ok o → more ≡ with_option done o → Walks at done → Walks (at + 1) more
  walks_next = walk.goes_next (λ done more. done ++ more) with_option all_after test take order (walked test take order)

  pub walks_fault : (at : ℕ) (row : List Datum) (fault : ValueFault) (done : List A) → slice_get order at ≡ Some row → Gives (taken test take row) (Err fault) → Walks at done → Gives (walked test take order) (Err fault)
  walks_fault = walk.goes_fault (λ done more. done ++ more) with_option all_after test take order (walked test take order)

  pub walks_end : (at : ℕ) (done : List A) → slice_get order at ≡ None → Walks at done → walked test take order ≡ Ok done
  walks_end at done e h = walk.goes_end (λ done more. done ++ more) with_option all_after test take order (walked test take order) at done e h ∙ ap Ok (append-nil done)

-- ---- what is said of each that is taken

pub option_all : {A : Type 0} (P : A → Type 0) (done more : List A) (o : Option A) → more ≡ with_option done o → IfSome o P → All P done → All P more
option_all P done more None e h a = subst (All P) (sym e) a
option_all P done more (Some x) e h a = subst (All P) (sym e) (All-append P done (x ∷ []) a (All-cons P x [] h (All-nil P)))

pub option_bound : {A : Type 0} (n : ℕ) (done more : List A) (o : Option A) → more ≡ with_option done o → length done ≤ n → length more ≤ n + 1
option_bound n done more None e h = omega (arith, ap length e)
option_bound n done more (Some x) e h = omega (arith, ap length e, length-append done (x ∷ []))

-- what holds of what is taken of a row with a property
module _ {A : Type 0} (test : List Datum → Result Truth SqlState) (take : List Datum → Result A SqlState) (P : List Datum → Type 0) (Q : A → Type 0)
    (each : (row : List Datum) (a : A) → take row ≡ Ok a → P row → Q a) where
  all_step : (row : List Datum) (more : List A) (t : Result Truth SqlState) (m : Result A SqlState) (w : Result (List A) SqlState) → take row ≡ m → P row
      → ((found : List A) → w ≡ Ok found → All Q found)
      → and_then (and_then t (λ met. if is_met met then mapped (λ a. Some a) m else Ok None)) (λ a. mapped (λ found. cons_option a found) w) ≡ Ok more → All Q more
  all_step row more (Ok True) (Ok a) (Ok found) e p h f = let same : a ∷ found ≡ more = cc in subst (All Q) same (All-cons Q a found (each row a e p) (h found refl))
  all_step row more (Ok True) (Ok a) (Err s) e p h f = cc
  all_step row more (Ok True) (Err s) w e p h f = cc
  all_step row more (Ok False) m (Ok found) e p h f = let same : found ≡ more = cc in subst (All Q) same (h found refl)
  all_step row more (Ok False) m (Err s) e p h f = cc
  all_step row more (Ok Unknown) m (Ok found) e p h f = let same : found ≡ more = cc in subst (All Q) same (h found refl)
  all_step row more (Ok Unknown) m (Err s) e p h f = cc
  all_step row more (Err s) m w e p h f = cc

  pub walked-all : (rows : List (List Datum)) (found : List A) → walked test take rows ≡ Ok found → All P rows → All Q found
  walked-all [] found e h = let same : [] ≡ found = cc in subst (All Q) same (All-nil Q)
  walked-all (row ∷ rows) found e h =
      all_step row found (test row) (take row) (walked test take rows) refl (All-head P row rows h) (λ more w. walked-all rows more w (All-tail P row rows h)) e

-- what is made of all that is taken
module _ {A B : Type 0} (test : List Datum → Result Truth SqlState) (take : List Datum → Result A SqlState) (f : A → B) where
  map_step : (row : List Datum) (t : Result Truth SqlState) (m : Result A SqlState) (w : Result (List A) SqlState) (v : Result (List B) SqlState) → v ≡ mapped (λ l. map f l) w
      → and_then (and_then t (λ met. if is_met met then mapped (λ b. Some b) (mapped f m) else Ok None)) (λ b. mapped (λ found. cons_option b found) v)
      ≡ mapped (λ l. map f l) (and_then (and_then t (λ met. if is_met met then mapped (λ a. Some a) m else Ok None)) (λ a. mapped (λ found. cons_option a found) w))
  map_step row (Ok True) (Ok a) (Ok found) v e = ap (mapped (λ found. f a ∷ found)) e
  map_step row (Ok True) (Ok a) (Err s) v e = ap (mapped (λ found. f a ∷ found)) e
  map_step row (Ok True) (Err s) w v e = refl
  map_step row (Ok False) m (Ok found) v e = ap (mapped (λ found. found)) e
  map_step row (Ok False) m (Err s) v e = ap (mapped (λ found. found)) e
  map_step row (Ok Unknown) m (Ok found) v e = ap (mapped (λ found. found)) e
  map_step row (Ok Unknown) m (Err s) v e = ap (mapped (λ found. found)) e
  map_step row (Err s) m w v e = refl

  pub walked-map : (rows : List (List Datum)) → walked test (λ row. mapped f (take row)) rows ≡ mapped (λ l. map f l) (walked test take rows)
  walked-map [] = refl
  walked-map (row ∷ rows) = map_step row (test row) (take row) (walked test take rows) (walked test (λ row. mapped f (take row)) rows) (walked-map rows)
