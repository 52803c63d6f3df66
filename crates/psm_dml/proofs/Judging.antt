-- The row whose condition counts.
use Rattle.std.proofs.Common.{◌≡◌, ℕ, suc, ◌+◌, ◌<◌, List, [], ◌∷◌, ◌++◌, length, get_or, take, Bool, true, false, ◌&&◌, refl, ap, sym, subst, ◌∙◌, arith, inl, inr, Result, Ok, Err}
use Rattle.std.specs.Prelude.{All, IfOk, ◌⊎◌, if◌then◌else◌}
use Rattle.std.proofs.lemmas.List.Elements.{All-head, All-tail}
use Rattle.std.proofs.Math.Seq.{take-suc}
use Rattle.psm_sqlstate.specs.declared.state.SqlState.{SqlState}
use Rattle.psm_value.specs.declared.datum.Datum.{Datum}
use Rattle.psm_table.specs.Changing.{in_order, is_before, row_passes, rows_pass}
use Rattle.psm_table.specs.Evaluator.{Evaluator, and_then, mapped}
use Rattle.psm_table.proofs.Filters.{AllPairs-first, AllPairs-rest}
use Rattle.psm_table.proofs.Ordered.{before_chained, in_order-last, in_order-ordered, placed_after, AreOrdered}
use Rattle.psm_dml.specs.declared.checking.Verdict.{Verdict}
use Rattle.psm_dml.specs.declared.checking.Verdict.TheVariants.{Kept, Raised}
use Rattle.std.specs.declared.alloc.AllocError.{AllocError}
use Rattle.psm_value.specs.Answer.{Gives}
use Rattle.psm_value.specs.declared.fault.ValueFault.{ValueFault}
use Rattle.psm_value.specs.declared.fault.ValueFault.TheVariants as value_fault
use Rattle.psm_dml.specs.declared.checking.Passed.{Passed}
use Rattle.psm_dml.specs.Judged.{result_of, verdict_with, IsRefused, IsWithin}

abbrev Row : Type 0
Row = List Datum

pub and_true : (b : Bool) → (b && true) ≡ b
and_true true = refl
and_true false = refl

pub and_moved : (a b c : Bool) → (a && (b && c)) ≡ ((a && b) && c)
and_moved true b c = refl
and_moved false b c = refl

and_turned : (a b : Bool) → (a && b) ≡ (b && a)
and_turned true b = sym (and_true b)
and_turned false true = refl
and_turned false false = refl

module _ {E : Type 0} (ev : Evaluator E) (checks : List E) (key : List ℕ) where
  abbrev passes : Row → Result Bool SqlState
  passes row = row_passes ev checks row

  abbrev further : Result Bool SqlState → Result Bool SqlState → Result Bool SqlState
  further r rest = and_then r (λ ok. mapped (λ more. ok && more) rest)

  -- on this row a condition is raised, and on none before it
  abbrev pub IsFirst : Row → SqlState → List Row → Type 0
  IsFirst row state [] = ⊥
  IsFirst row state (y ∷ ys) = ((y ≡ row) × (row_passes ev checks y ≡ Err state)) ⊎ ((b : Bool) × (row_passes ev checks y ≡ Ok b) × IsFirst row state ys)

  pub first_counts : (row : Row) (state : SqlState) (rows : List Row) → IsFirst row state rows → rows_pass ev checks rows ≡ Err state
  first_counts row state [] h = absurd h
  first_counts row state (y ∷ ys) (inl p) = ap (λ r. further r (rows_pass ev checks ys)) p.1
  first_counts row state (y ∷ ys) (inr p) = ap (λ r. further r (rows_pass ev checks ys)) p.1 ∙ ap (mapped (λ more. p.0 && more)) (first_counts row state ys p.2)

  first_has : (P : Row → Type 0) (row : Row) (state : SqlState) (rows : List Row) → All P rows → IsFirst row state rows → P row
  first_has P row state [] a h = absurd h
  first_has P row state (y ∷ ys) a (inl p) = subst P p.0 (All-head P y ys a)
  first_has P row state (y ∷ ys) a (inr p) = first_has P row state ys (All-tail P y ys a) p.2

  abbrev Before : Row → Row → Type 0
  Before a b = is_before key a b ≡ true

  -- a row after the first stays after it
  after_step : (q r y : Row) (s : SqlState) (ys : List Row) (b : Bool) → is_before key y r ≡ b → is_before key q r ≡ true → All (Before y) ys
      → (IsFirst q s ys → IsFirst q s (placed_after key r ys)) → IsFirst q s (y ∷ ys) → IsFirst q s (placed_after key r (y ∷ ys))
  after_step q r y s ys true e f a h (inl p) = rw e (inl p)
  after_step q r y s ys true e f a h (inr p) = rw e (inr (p.0, p.1, h p.2))
  after_step q r y s ys false e f a h (inl p) = absurd (let bad : true ≡ false = sym f ∙ ap (λ z. is_before key z r) (sym p.0) ∙ e in cc)
  after_step q r y s ys false e f a h (inr p) =
      let first : is_before key y q ≡ true = first_has (Before y) q s ys a p.2 in
      absurd (let bad : true ≡ false = sym (before_chained key y q r first f) ∙ e in cc)

  following : (q r : Row) (s : SqlState) (ys : List Row) → AreOrdered key ys → is_before key q r ≡ true → IsFirst q s ys → IsFirst q s (placed_after key r ys)
  following q r s [] o f h = absurd h
  following q r s (y ∷ ys) o f h = after_step q r y s ys (is_before key y r) refl f (AllPairs-first Before y ys o) (following q r s ys (AllPairs-rest Before y ys o) f) h

  -- a row before the first is the first now
  ahead_step : (q r y : Row) (s t : SqlState) (ys : List Row) (b : Bool) → is_before key y r ≡ b → is_before key q r ≡ false → passes r ≡ Err t
      → (IsFirst q s ys → IsFirst r t (placed_after key r ys)) → IsFirst q s (y ∷ ys) → IsFirst r t (placed_after key r (y ∷ ys))
  ahead_step q r y s t ys true e f g h (inl p) = absurd (let bad : true ≡ false = sym e ∙ ap (λ z. is_before key z r) p.0 ∙ f in cc)
  ahead_step q r y s t ys true e f g h (inr p) = rw e (inr (p.0, p.1, h p.2))
  ahead_step q r y s t ys false e f g h p = rw e (inl (refl, g))

  ahead : (q r : Row) (s t : SqlState) (ys : List Row) → is_before key q r ≡ false → passes r ≡ Err t → IsFirst q s ys → IsFirst r t (placed_after key r ys)
  ahead q r s t [] f g h = absurd h
  ahead q r s t (y ∷ ys) f g h = ahead_step q r y s t ys (is_before key y r) refl f g (ahead q r s t ys f g) h

  -- a row that raises none changes nothing
  quiet_step : (q r y : Row) (s : SqlState) (ys : List Row) (b c : Bool) → is_before key y r ≡ b → passes r ≡ Ok c
      → (IsFirst q s ys → IsFirst q s (placed_after key r ys)) → IsFirst q s (y ∷ ys) → IsFirst q s (placed_after key r (y ∷ ys))
  quiet_step q r y s ys true c e g h (inl p) = rw e (inl p)
  quiet_step q r y s ys true c e g h (inr p) = rw e (inr (p.0, p.1, h p.2))
  quiet_step q r y s ys false c e g h p = rw e (inr (c, g, p))

  quiet : (q r : Row) (s : SqlState) (ys : List Row) (c : Bool) → passes r ≡ Ok c → IsFirst q s ys → IsFirst q s (placed_after key r ys)
  quiet q r s [] c g h = absurd h
  quiet q r s (y ∷ ys) c g h = quiet_step q r y s ys (is_before key y r) c refl g (quiet q r s ys c g) h

  -- rows on which none is raised, and one more
  pass_step : (r y : Row) (ys : List Row) (b c d : Bool) (p rest : Result Bool SqlState) → is_before key y r ≡ d → passes r ≡ Ok c → passes y ≡ p → rows_pass ev checks ys ≡ rest
      → ((e : Bool) → rest ≡ Ok e → rows_pass ev checks (placed_after key r ys) ≡ Ok (e && c)) → further p rest ≡ Ok b → rows_pass ev checks (placed_after key r (y ∷ ys)) ≡ Ok (b && c)
  pass_step r y ys b c true (Ok a) (Ok e) f g i j h k =
      let same : (a && e) ≡ b = cc in
      rw f (ap (λ x. further x (rows_pass ev checks (placed_after key r ys))) i ∙ ap (mapped (λ more. a && more)) (h e refl) ∙ ap Ok (and_moved a e c ∙ ap (λ x. x && c) same))
  pass_step r y ys b c false (Ok a) (Ok e) f g i j h k =
      let same : (a && e) ≡ b = cc in
      rw f (ap (λ x. further x (further (passes y) (rows_pass ev checks ys))) g ∙ ap (λ x. mapped (λ more. c && more) (further x (rows_pass ev checks ys))) i
      ∙ ap (λ x. mapped (λ more. c && more) (mapped (λ more. a && more) x)) j ∙ ap Ok (ap (λ x. c && x) same ∙ and_turned c b))
  pass_step r y ys b c d (Ok a) (Err t) f g i j h k = cc
  pass_step r y ys b c d (Err t) rest f g i j h k = cc

  one_more : (r : Row) (ys : List Row) (b c : Bool) → passes r ≡ Ok c → rows_pass ev checks ys ≡ Ok b → rows_pass ev checks (placed_after key r ys) ≡ Ok (b && c)
  one_more r [] b c g h =
      let same : true ≡ b = cc in
      ap (λ x. further x (Ok true)) g ∙ ap Ok (and_true c) ∙ ap (λ x. Ok (x && c)) same
  one_more r (y ∷ ys) b c g h = pass_step r y ys b c (is_before key y r) (passes y) (rows_pass ev checks ys) refl g refl refl (λ e k. one_more r ys e c g k) h

  -- and one on which one is raised
  raise_step : (r y : Row) (ys : List Row) (b d : Bool) (t : SqlState) (p rest : Result Bool SqlState) → is_before key y r ≡ d → passes r ≡ Err t → passes y ≡ p → rows_pass ev checks ys ≡ rest
      → ((e : Bool) → rest ≡ Ok e → IsFirst r t (placed_after key r ys)) → further p rest ≡ Ok b → IsFirst r t (placed_after key r (y ∷ ys))
  raise_step r y ys b true t (Ok a) (Ok e) f g i j h k = rw f (inr (a, i, h e refl))
  raise_step r y ys b false t (Ok a) (Ok e) f g i j h k = rw f (inl (refl, g))
  raise_step r y ys b d t (Ok a) (Err u) f g i j h k = cc
  raise_step r y ys b d t (Err u) rest f g i j h k = cc

  one_raises : (r : Row) (ys : List Row) (b : Bool) (t : SqlState) → passes r ≡ Err t → rows_pass ev checks ys ≡ Ok b → IsFirst r t (placed_after key r ys)
  one_raises r [] b t g h = inl (refl, g)
  one_raises r (y ∷ ys) b t g h = raise_step r y ys b (is_before key y r) t (passes y) (rows_pass ev checks ys) refl g refl refl (λ e k. one_raises r ys e t g k) h

  -- ---- what a verdict says of some rows

  abbrev pub Stands : List Row → List Row → Verdict → Type 0
  Stands rows seen (Kept b) = rows_pass ev checks (in_order key seen) ≡ Ok b
  Stands rows seen (Raised index state) = (index < length rows) × IsFirst (get_or rows index []) state (in_order key seen)

  index_step : (rows seen : List Row) (index at : ℕ) (row : Row) (s t : SqlState) (b : Bool) → index < length rows → at < length rows → get_or rows at [] ≡ row → passes row ≡ Err t
      → is_before key (get_or rows index []) (get_or rows at []) ≡ b → IsFirst (get_or rows index []) s (in_order key seen)
      → Stands rows (seen ++ row ∷ []) (if b then Raised index s else Raised at t)
  index_step rows seen index at row s t true l m e g f h =
      let before : is_before key (get_or rows index []) row ≡ true = ap (is_before key (get_or rows index [])) (sym e) ∙ f in
      (l, subst (IsFirst (get_or rows index []) s) (sym (in_order-last key seen row)) (following (get_or rows index []) row s (in_order key seen) (in_order-ordered key seen) before h))
  index_step rows seen index at row s t false l m e g f h =
      let after : is_before key (get_or rows index []) row ≡ false = ap (is_before key (get_or rows index [])) (sym e) ∙ f in
      (m, subst (λ z. IsFirst z t (in_order key (seen ++ row ∷ []))) (sym e) (subst (IsFirst row t) (sym (in_order-last key seen row)) (ahead (get_or rows index []) row s t (in_order key seen) after g h)))

  pub stands_next : (rows seen : List Row) (v : Verdict) (at : ℕ) (row : Row) (r : Result Bool SqlState) → at < length rows → get_or rows at [] ≡ row → passes row ≡ r
      → Stands rows seen v → Stands rows (seen ++ row ∷ []) (verdict_with key rows v at r)
  stands_next rows seen (Kept b) at row (Ok c) l e g h = ap (rows_pass ev checks) (in_order-last key seen row) ∙ one_more row (in_order key seen) b c g h
  stands_next rows seen (Kept b) at row (Err t) l e g h =
      (l, subst (λ z. IsFirst z t (in_order key (seen ++ row ∷ []))) (sym e) (subst (IsFirst row t) (sym (in_order-last key seen row)) (one_raises row (in_order key seen) b t g h)))
  stands_next rows seen (Raised index s) at row (Ok c) l e g h =
      (h.0, subst (IsFirst (get_or rows index []) s) (sym (in_order-last key seen row)) (quiet (get_or rows index []) row s (in_order key seen) c g h.1))
  stands_next rows seen (Raised index s) at row (Err t) l e g h =
      index_step rows seen index at row s t (is_before key (get_or rows index []) (get_or rows at [])) h.0 l e g refl h.1

-- the rows seen so far, and the next
pub seen_next : (rows : List Row) (at : ℕ) (row : Row) → at < length rows → row ≡ get_or rows at row → take (at + 1) rows ≡ take at rows ++ row ∷ []
seen_next rows at row l e =
    let n : at + 1 ≡ suc at = omega arith in
    ap (λ k. take k rows) n ∙ take-suc rows at row l ∙ ap (λ r. take at rows ++ r ∷ []) (sym e)

pub within_next : (n : ℕ) (key : List ℕ) (rows : List Row) (v : Verdict) (at : ℕ) (r : Result Bool SqlState) → at < n → IsWithin n v → IsWithin n (verdict_with key rows v at r)
within_next n key rows (Kept b) at (Ok c) l h = tt
within_next n key rows (Kept b) at (Err t) l h = l
within_next n key rows (Raised index s) at (Ok c) l h = h
within_next n key rows (Raised index s) at (Err t) l h = within_step n index at s t (is_before key (get_or rows index []) (get_or rows at [])) l h where
  within_step : (n index at : ℕ) (s t : SqlState) (b : Bool) → at < n → index < n → IsWithin n (if b then Raised index s else Raised at t)
  within_step n index at s t true l h = h
  within_step n index at s t false l h = l

pub refused_is : (expected : Result Bool SqlState) (fault : ValueFault) (result : Result Passed AllocError) → Gives expected (Err fault) → IsRefused fault result → IfOk result (λ p. result_of p ≡ expected)
refused_is expected (value_fault.Condition s) (Ok p) g h = ap result_of h ∙ sym g
refused_is expected (value_fault.Condition s) (Err e) g h = tt
refused_is expected value_fault.Memory (Ok p) g h = absurd h
refused_is expected value_fault.Memory (Err e) g h = tt
