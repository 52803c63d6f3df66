-- Each property of an answer allows one answer, and that is the value of a function.
use Rattle.std.proofs.Common.{◌≡◌, ◌≢◌, ℕ, zero, suc, ◌+◌, ◌-◌, ◌<◌, List, [], ◌∷◌, ◌++◌, length, drop, reverse, refl, ap, sym, ◌∙◌, arith, Bool, true, false, cond, ◌||◌, nat_eq, inl, inr, Option, Some, Result, Ok, Err}
use Rattle.std.specs.Prelude.{◌↔◌, slice_get, replicate, IsTrue}
use Rattle.std.specs.List.{starts_with}
use Rattle.std.specs.Cmp.{both_ways}
use Rattle.std.proofs.lemmas.List.{reverse-append, reverse-reverse, replicate_more, length_push}
use Rattle.std.proofs.lemmas.Bool.{cases_Bool, ne_eqb, eq-eqb, eqb-true, true≢false, or_cases, or_left, or_right, and_parts, and_from}
use Rattle.psm_text.specs.declared.parts.Side.{Side}
use Rattle.psm_text.specs.declared.parts.Side.TheVariants.{Leading, Trailing, Both}
use Rattle.psm_text.specs.Order.{blank}
use Rattle.psm_text.specs.Parts.{IsPosition, stands_at, one_on, position_of, TrimmedFront, TrimmedEnd, Trimmed, after_blanks, before_blanks, trimmed_of}
use Rattle.psm_text.specs.declared.fault.TextFault.{TextFault}
use Rattle.psm_text.specs.declared.fault.TextFault.TheVariants.{EscapePair}
use Rattle.psm_text.specs.Like.{Item, Literal, One, Any, Matches, some_end, is_like, items_of, well_formed, like_answer}

-- ---- positions

stands_on : (part t : List ℕ) (c other : ℕ) → 0 < other → stands_at part (c ∷ t) (suc other) ≡ stands_at part t other
stands_on part t c other h =
    let e : suc other - 1 ≡ suc (other - 1) = omega (arith, h) in
    ap (λ n. starts_with nat_eq (drop n (c ∷ t)) part) e

stands_past : (part : List ℕ) (other : ℕ) → stands_at part [] other ≡ starts_with nat_eq [] part
stands_past part other = past (other - 1)
  where
    past : (n : ℕ) → starts_with nat_eq (drop n []) part ≡ starts_with nat_eq [] part
    past zero = refl
    past (suc n) = refl

-- the part stands at once
at_once : (part t : List ℕ) (position : ℕ) → starts_with nat_eq t part ≡ true → IsPosition part t position → position ≡ 1
at_once part t zero h p = absurd (true≢false (sym h ∙ p.none refl 1 (omega arith)))
at_once part t (suc zero) h p = refl
at_once part t (suc (suc position)) h p = absurd (true≢false (sym h ∙ p.first 1 (omega arith) (omega arith)))

never : (part : List ℕ) (position : ℕ) → starts_with nat_eq [] part ≡ false → IsPosition part [] position → position ≡ 0
never part zero h p = refl
never part (suc position) h p = absurd (true≢false (sym (p.found (omega arith)) ∙ stands_past part (suc position) ∙ h))

later : (part t : List ℕ) (c position : ℕ) → starts_with nat_eq (c ∷ t) part ≡ false → IsPosition part (c ∷ t) position → (other : ℕ) × IsPosition part t other × (position ≡ one_on other)
later part t c zero h p = (
  0,
  record {
    found = λ l. absurd (omega (arith, l));
    first = λ k l m. absurd (omega (arith, m));
    none = λ z k l. sym (stands_on part t c k l) ∙ p.none refl (suc k) (omega arith);
  },
  refl,
)
later part t c (suc zero) h p = absurd (true≢false (sym (p.found (omega arith)) ∙ h))
later part t c (suc (suc position)) h p = (
  suc position,
  record {
    found = λ l. sym (stands_on part t c (suc position) l) ∙ p.found (omega arith);
    first = λ k l m. sym (stands_on part t c k l) ∙ p.first (suc k) (omega arith) (omega (arith, m));
    none = λ z. absurd (omega (arith, z));
  },
  refl,
)

pub position_is : (part t : List ℕ) (position : ℕ) → IsPosition part t position → position ≡ position_of part t
position_is part [] position p = elim (cases_Bool (starts_with nat_eq [] part)) as (λ _. position ≡ position_of part []) [
  | inl h ↦ at_once part [] position h p ∙ sym (ap (λ b. cond b 1 0) h)
  | inr h ↦ never part position h p ∙ sym (ap (λ b. cond b 1 0) h)
]
position_is part (c ∷ t) position p = elim (cases_Bool (starts_with nat_eq (c ∷ t) part)) as (λ _. position ≡ position_of part (c ∷ t)) [
  | inl h ↦ at_once part (c ∷ t) position h p ∙ sym (ap (λ b. cond b 1 (one_on (position_of part t))) h)
  | inr h ↦
      let o = later part t c position h p in
      o.2 ∙ ap one_on (position_is part t o.0 o.1) ∙ sym (ap (λ b. cond b 1 (one_on (position_of part t))) h)
]

-- ---- trimming

after_all : (n : ℕ) (r : List ℕ) → slice_get r 0 ≢ Some blank → after_blanks (replicate n blank ++ r) ≡ r
after_all zero [] h = refl
after_all zero (c ∷ r) h = ap (λ b. cond b (after_blanks r) (c ∷ r)) (ne_eqb c 32 (λ e. h (ap Some e)))
after_all (suc n) r h = after_all n r h

front_is : (t r : List ℕ) → TrimmedFront t r → r ≡ after_blanks t
front_is t r f = sym (after_all f.blanks r f.begins) ∙ ap after_blanks (sym f.parts)

reverse_cons : (c : ℕ) (t : List ℕ) → reverse (c ∷ t) ≡ reverse t ++ c ∷ []
reverse_cons c t = reverse-append (c ∷ []) t

reverse_blanks : (n : ℕ) → reverse (replicate n blank) ≡ replicate n blank
reverse_blanks zero = refl
reverse_blanks (suc n) =
    let e : n + 1 ≡ suc n = omega arith in
    reverse_cons 32 (replicate n 32) ∙ ap (λ t. t ++ 32 ∷ []) (reverse_blanks n) ∙ replicate_more n 32 ∙ ap (λ k. replicate k 32) e

last_pushed : (t : List ℕ) (c : ℕ) → slice_get (t ++ c ∷ []) (length t) ≡ Some c
last_pushed [] c = refl
last_pushed (d ∷ t) c = last_pushed t c

-- the first of the other way round is the last
first_is_last : (r s : List ℕ) → s ≡ reverse r → slice_get s 0 ≡ Some blank → slice_get r (length r - 1) ≡ Some blank
first_is_last r [] e h = absurd (cc)
first_is_last r (c ∷ s) e h =
    let c_is : c ≡ 32 = cc in
    let r_is : r ≡ reverse s ++ c ∷ [] = sym (reverse-reverse r) ∙ ap reverse (sym e) ∙ reverse_cons c s in
    let l : length (reverse s ++ c ∷ []) - 1 ≡ length (reverse s) = omega (arith, length_push (reverse s) c) in
    ap (λ t. slice_get t (length t - 1)) r_is ∙ ap (λ n. slice_get (reverse s ++ c ∷ []) n) l ∙ last_pushed (reverse s) c ∙ ap Some c_is

end_is : (t r : List ℕ) → TrimmedEnd t r → r ≡ before_blanks t
end_is t r f =
    sym (reverse-reverse r)
    ∙ ap reverse (sym (after_all f.blanks (reverse r) (λ h. f.ends (first_is_last r (reverse r) refl h))))
    ∙ ap (λ s. reverse (after_blanks (s ++ reverse r))) (sym (reverse_blanks f.blanks))
    ∙ ap (λ s. reverse (after_blanks s)) (sym (ap reverse f.parts ∙ reverse-append r (replicate f.blanks blank)))

pub trimmed_is : (side : Side) (t r : List ℕ) → Trimmed side t r → r ≡ trimmed_of side t
trimmed_is Leading t r f = front_is t r f
trimmed_is Trailing t r f = end_is t r f
trimmed_is Both t r f = end_is f.0 r f.2 ∙ ap before_blanks (front_is t f.0 f.1)

-- ---- LIKE

abbrev pub IsExact : List Item → Type 0
IsExact p = (t : List ℕ) → IsTrue (is_like p t) ↔ Matches p t

drop_none : (p : List Item) (k : ℕ) → Matches p (drop k []) → Matches p []
drop_none p zero m = m
drop_none p (suc k) m = m

some_more : (p : List Item) → IsExact p → (c : ℕ) (t : List ℕ) → (IsTrue (some_end (is_like p) t) ↔ Matches (Any ∷ p) t)
    → IsTrue (some_end (is_like p) (c ∷ t)) ↔ Matches (Any ∷ p) (c ∷ t)
some_more p ih c t rec = (forth, back)
  where
    forth : (is_like p (c ∷ t) || some_end (is_like p) t) ≡ true → Matches (Any ∷ p) (c ∷ t)
    forth h = elim (or_cases (is_like p (c ∷ t)) (some_end (is_like p) t) h) as (λ _. Matches (Any ∷ p) (c ∷ t)) [
      | inl g ↦ (0, (ih (c ∷ t)).0 g)
      | inr g ↦ (suc (rec.0 g).0, (rec.0 g).1)
    ]

    back : Matches (Any ∷ p) (c ∷ t) → (is_like p (c ∷ t) || some_end (is_like p) t) ≡ true
    back (zero, m) = or_left (is_like p (c ∷ t)) (some_end (is_like p) t) ((ih (c ∷ t)).1 m)
    back (suc k, m) = or_right (is_like p (c ∷ t)) (some_end (is_like p) t) (rec.1 (k, m))

some_exact : (p : List Item) → IsExact p → (t : List ℕ) → IsTrue (some_end (is_like p) t) ↔ Matches (Any ∷ p) t
some_exact p ih [] = ((λ h. (0, (ih []).0 h)), (λ m. (ih []).1 (drop_none p m.0 m.1)))
some_exact p ih (c ∷ t) = some_more p ih c t (some_exact p ih t)

is_exact : (p : List Item) → IsExact p
is_exact [] [] = ((λ h. tt), (λ m. refl))
is_exact [] (c ∷ t) = ((λ h. true≢false (sym h)), (λ m. absurd m))
is_exact (Any ∷ p) t = some_exact p (is_exact p) t
is_exact (One ∷ p) [] = ((λ h. true≢false (sym h)), (λ m. absurd m))
is_exact (One ∷ p) (c ∷ t) = is_exact p t
is_exact (Literal d ∷ p) [] = ((λ h. true≢false (sym h)), (λ m. absurd m))
is_exact (Literal d ∷ p) (c ∷ t) = (
  (λ h. let parts = and_parts (nat_eq c d) (is_like p t) h in (eqb-true c d parts.0, (is_exact p t).0 parts.1)),
  (λ m. and_from (nat_eq c d) (is_like p t) (eq-eqb c d m.0) ((is_exact p t).1 m.1)),
)

pub like_is : (p : List Item) (t : List ℕ) (b : Bool) → (IsTrue b ↔ Matches p t) → b ≡ is_like p t
like_is p t b h = both_ways b (is_like p t) (λ g. (is_exact p t).1 (h.0 g)) (λ g. h.1 ((is_exact p t).0 g))

-- the answer of LIKE where neither the escape text nor the pattern is at fault
pub like_answers : (given : Result (Option ℕ) TextFault) (e : Option ℕ) (pattern text p t : List ℕ) (w b : Bool)
    → given ≡ Ok e → p ≡ pattern → t ≡ text → w ≡ well_formed e p → w ≡ true → (IsTrue b ↔ Matches (items_of e p) t) → Ok b ≡ like_answer given pattern text
like_answers given e pattern text p t w b g q s f h m =
    ap Ok (like_is (items_of e p) t b m)
    ∙ sym (ap (λ v. cond v (Ok (is_like (items_of e p) t)) (Err EscapePair)) (sym f ∙ h))
    ∙ ap (λ v. like_answer v p t) (sym g)
    ∙ ap (λ v. like_answer given v t) q
    ∙ ap (λ v. like_answer given pattern v) s
