-- Values that are added to tallies, the last one first.
use Rattle.std.proofs.Common.{◌≡◌, ℕ, zero, suc, ◌+◌, ◌<◌, ◌≤◌, List, [], ◌∷◌, ◌++◌, length, length-append, get_or, refl, ap, sym, subst, ◌∙◌, arith}
use Rattle.std.specs.Prelude.{All, slice_set}
use Rattle.psm_value.specs.declared.datum.Datum.{Datum}
use Rattle.psm_table.specs.Table.{most_rows}
use Rattle.psm_query.specs.Tallies.{added, count_of, with_value}
use Rattle.psm_query.specs.declared.tally.Tally.{Tally}

pub added_none : (ts : List Tally) → added ts [] ≡ ts
added_none [] = refl
added_none (t ∷ ts) = refl

-- the last value goes to the tally of its index
pub added_last : (ts : List Tally) (vs : List Datum) (v : Datum) (d : Tally) → length vs < length ts
    → added (slice_set ts (length vs) (with_value (get_or ts (length vs) d) v)) vs ≡ added ts (vs ++ v ∷ [])
added_last [] vs v d l = absurd (omega (arith, l))
added_last (t ∷ ts) [] v d l = ap (λ l. with_value t v ∷ l) (sym (added_none ts))
added_last (t ∷ ts) (w ∷ vs) v d l = ap (λ l. with_value t w ∷ l) (added_last ts vs v d (omega (arith, l)))

-- or to none
pub added_past : (ts : List Tally) (vs : List Datum) (v : Datum) → length ts ≤ length vs → added ts vs ≡ added ts (vs ++ v ∷ [])
added_past [] vs v l = refl
added_past (t ∷ ts) [] v l = absurd (omega (arith, l))
added_past (t ∷ ts) (w ∷ vs) v l = ap (λ l. with_value t w ∷ l) (added_past ts vs v (omega (arith, l)))

-- the tallies of n first indexes have room for one value more
abbrev pub HaveRoom : ℕ → List Tally → Type 0
HaveRoom n ts = (k : ℕ) (d : Tally) → k < n → k < length ts → count_of (get_or ts k d) < most_rows

pub room_first : (n : ℕ) (ts : List Tally) → All (λ t. count_of t < most_rows) ts → HaveRoom n ts
room_first n ts h k d l m = h k d m

set_before : (ts : List Tally) (i k : ℕ) (t d : Tally) → k < i → get_or (slice_set ts i t) k d ≡ get_or ts k d
set_before [] i k t d l = refl
set_before (s ∷ ts) zero k t d l = absurd (omega (arith, l))
set_before (s ∷ ts) (suc i) zero t d l = refl
set_before (s ∷ ts) (suc i) (suc k) t d l = set_before ts i k t d (omega (arith, l))

length_set : (ts : List Tally) (i : ℕ) (t : Tally) → length (slice_set ts i t) ≡ length ts
length_set [] i t = refl
length_set (s ∷ ts) zero t = refl
length_set (s ∷ ts) (suc i) t = ap suc (length_set ts i t)

pub room_set : (n : ℕ) (ts : List Tally) (t : Tally) → HaveRoom (n + 1) ts → HaveRoom n (slice_set ts n t)
room_set n ts t h k d l m =
    let inside : k < length ts = omega (arith, m, length_set ts n t) in
    let room : count_of (get_or ts k d) < most_rows = h k d (omega (arith, l)) inside in
    subst (λ s. count_of s < most_rows) (sym (set_before ts n k t d l)) room

pub room_fewer : (n : ℕ) (ts : List Tally) → HaveRoom (n + 1) ts → HaveRoom n ts
room_fewer n ts h k d l m = h k d (omega (arith, l)) m

-- ---- a step

pub none_left : (vs : List Datum) → length vs ≡ 0 → vs ≡ []
none_left [] e = refl
none_left (v ∷ vs) e = absurd (omega (arith, e))

module _ (ts : List Tally) (vs left : List Datum) (v : Datum) (at : ℕ) (position : at ≡ length vs) (is : left ≡ vs ++ v ∷ []) where
  one_less : length left ≡ length vs + 1
  one_less = ap length is ∙ length-append vs (v ∷ [])

  pub put_last : (t d : Tally) → at < length ts → d ≡ get_or ts at d → t ≡ with_value d v → added (slice_set ts at t) vs ≡ added ts left
  put_last t d inside read put =
      let here : length vs < length ts = omega (arith, inside, position) in
      ap (λ s. added (slice_set ts at s) vs) (put ∙ ap (λ s. with_value s v) read) ∙ ap (λ i. added (slice_set ts i (with_value (get_or ts i d) v)) vs) position
      ∙ added_last ts vs v d here ∙ ap (added ts) (sym is)

  pub put_room : (t : Tally) → HaveRoom (length left) ts → HaveRoom (length vs) (slice_set ts at t)
  put_room t h =
      let some : HaveRoom (length vs + 1) ts = subst (λ n. HaveRoom n ts) one_less h in
      subst (λ i. HaveRoom (length vs) (slice_set ts i t)) (sym position) (room_set (length vs) ts t some)

  pub pass_last : length ts ≤ at → added ts vs ≡ added ts left
  pass_last past = added_past ts vs v (omega (arith, past, position)) ∙ ap (added ts) (sym is)

  pub pass_room : HaveRoom (length left) ts → HaveRoom (length vs) ts
  pass_room h = room_fewer (length vs) ts (subst (λ n. HaveRoom n ts) one_less h)
