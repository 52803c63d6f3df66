-- The characters at an interval of positions, as a piece of the list; and the first position of a part.
use Rattle.std.proofs.Common.{◌≡◌, ℕ, zero, suc, ◌+◌, ◌-◌, ◌<◌, ◌≤◌, max, List, [], ◌∷◌, length, take, drop, map, refl, ap, sym, ◌∙◌, arith, Bool, true, false, cond, ◌&&◌, inl, inr, Option}
use Rattle.std.specs.Prelude.{ℤ, pos, int_le, nat_lt, nat_le, nat_eq}
use Rattle.std.specs.List.{filter, enumerate_from, starts_with}
use Rattle.std.specs.Cmp.Lexicographic.{unequal}
use Rattle.std.proofs.lemmas.List.{length-take, length-drop, drop-drop}
use Rattle.std.proofs.lemmas.Bool.{cases_lt, lt-ltb, le-ltb, le-leb, lt-leb, true≢false}
use Rattle.psm_text.specs.Parts.{is_asked, is_before_end, asked_part, stands_at, IsPosition}

abbrev pub kept : (ℕ → Bool) → ℕ → List ℕ → List ℕ
kept test n t = map (λ (c : ℕ × ℕ). c.1) (filter (λ (c : ℕ × ℕ). test c.0) (enumerate_from n t))

take_nil : (n m : ℕ) → let none : List ℕ = [] in none ≡ take n (drop m none)
take_nil zero zero = refl
take_nil zero (suc m) = refl
take_nil (suc n) zero = refl
take_nil (suc n) (suc m) = refl

-- the test at the first position, where it is among the positions from f up to e
now_in : (f e n : ℕ) → f ≤ n → n < e → (nat_lt f (n + 1) && nat_le (n + 1) e) ≡ true
now_in f e n h g = ap (λ b. b && nat_le (n + 1) e) (lt-ltb f (n + 1) (omega (arith, h))) ∙ le-leb (n + 1) e (omega (arith, g))

now_before : (f e n : ℕ) → n < f → (nat_lt f (n + 1) && nat_le (n + 1) e) ≡ false
now_before f e n h = ap (λ b. b && nat_le (n + 1) e) (le-ltb f (n + 1) (omega (arith, h)))

now_after : (f e n : ℕ) → f ≤ n → e ≤ n → (nat_lt f (n + 1) && nat_le (n + 1) e) ≡ false
now_after f e n h g = ap (λ b. b && nat_le (n + 1) e) (lt-ltb f (n + 1) (omega (arith, h))) ∙ lt-leb (n + 1) e (omega (arith, g))

pub kept_is : (test : ℕ → Bool) (f e n : ℕ) (t : List ℕ)
    → ((p : ℕ) → n < p → p ≤ n + length t → test p ≡ (nat_lt f p && nat_le p e))
    → kept test (n + 1) t ≡ take (e - max f n) (drop (f - n) t)
kept_is test f e n [] h = take_nil (e - max f n) (f - n)
kept_is test f e n (x ∷ t) h =
    let later : kept test (n + 1 + 1) t ≡ take (e - max f (n + 1)) (drop (f - (n + 1)) t) = kept_is test f e (n + 1) t (λ p g k. h p (omega (arith, g)) (omega (arith, k))) in
    let here : test (n + 1) ≡ (nat_lt f (n + 1) && nat_le (n + 1) e) = h (n + 1) (omega arith) (omega arith) in
    let split : (b : Bool) → test (n + 1) ≡ b → kept test (n + 1) (x ∷ t) ≡ cond b (x ∷ kept test (n + 1 + 1) t) (kept test (n + 1 + 1) t) = λ b q. split_at b q in
    elim (cases_lt n f) as (λ _. kept test (n + 1) (x ∷ t) ≡ take (e - max f n) (drop (f - n) (x ∷ t))) [
      | inl before ↦ split false (here ∙ now_before f e n before) ∙ later ∙ before_is before
      | inr since ↦ elim (cases_lt n e) as (λ _. kept test (n + 1) (x ∷ t) ≡ take (e - max f n) (drop (f - n) (x ∷ t))) [
        | inl within ↦ split true (here ∙ now_in f e n since within) ∙ ap (λ r. x ∷ r) later ∙ within_is since within
        | inr after ↦ split false (here ∙ now_after f e n since after) ∙ later ∙ after_is since after
      ]
    ]
  where
    split_at : (b : Bool) → test (n + 1) ≡ b → kept test (n + 1) (x ∷ t) ≡ cond b (x ∷ kept test (n + 1 + 1) t) (kept test (n + 1 + 1) t)
    split_at true q = ap (λ b. map (λ (c : ℕ × ℕ). c.1) (cond b ((n + 1, x) ∷ filter (λ (c : ℕ × ℕ). test c.0) (enumerate_from (n + 1 + 1) t)) (filter (λ (c : ℕ × ℕ). test c.0) (enumerate_from (n + 1 + 1) t)))) q
    split_at false q = ap (λ b. map (λ (c : ℕ × ℕ). c.1) (cond b ((n + 1, x) ∷ filter (λ (c : ℕ × ℕ). test c.0) (enumerate_from (n + 1 + 1) t)) (filter (λ (c : ℕ × ℕ). test c.0) (enumerate_from (n + 1 + 1) t)))) q

    before_is : n < f → take (e - max f (n + 1)) (drop (f - (n + 1)) t) ≡ take (e - max f n) (drop (f - n) (x ∷ t))
    before_is k =
        let p : f - n ≡ suc (f - (n + 1)) = omega arith in
        let q : e - max f (n + 1) ≡ e - max f n = omega arith in
        ap (λ m. take m (drop (f - (n + 1)) t)) q ∙ ap (λ m. take (e - max f n) (drop m (x ∷ t))) (sym p)

    within_is : f ≤ n → n < e → x ∷ take (e - max f (n + 1)) (drop (f - (n + 1)) t) ≡ take (e - max f n) (drop (f - n) (x ∷ t))
    within_is k g =
        let p : f - n ≡ 0 = omega arith in
        let r : f - (n + 1) ≡ 0 = omega arith in
        let q : e - max f n ≡ suc (e - max f (n + 1)) = omega arith in
        ap (λ m. x ∷ take (e - max f (n + 1)) (drop m t)) r ∙ ap (λ m. take m (x ∷ t)) (sym q) ∙ ap (λ m. take (e - max f n) (drop m (x ∷ t))) (sym p)

    after_is : f ≤ n → e ≤ n → take (e - max f (n + 1)) (drop (f - (n + 1)) t) ≡ take (e - max f n) (drop (f - n) (x ∷ t))
    after_is k g =
        let p : e - max f (n + 1) ≡ 0 = omega arith in
        let q : e - max f n ≡ 0 = omega arith in
        ap (λ m. take m (drop (f - (n + 1)) t)) p ∙ ap (λ m. take m (drop (f - n) (x ∷ t))) (sym q)

-- the characters that are asked for, where f positions come before them and e before their end
pub asked_is : (from wide same : ℤ) (count : Option ℤ) (t : List ℕ) (f e : ℕ) → wide ≡ from → same ≡ from
    → ((p : ℕ) → 0 < p → p ≤ length t → int_le wide (pos p) ≡ nat_lt f p)
    → ((p : ℕ) → 0 < p → p ≤ length t → is_before_end same count p ≡ nat_le p e)
    → asked_part from count t ≡ take (e - f) (drop f t)
asked_is from wide same count t f e w v h g =
    let p : max f 0 ≡ f = omega arith in
    let q : f - 0 ≡ f = omega arith in
    kept_is (is_asked from count) f e 0 t (λ p k l. ap (λ b. b && is_before_end from count p) (ap (λ z. int_le z (pos p)) (sym w) ∙ h p k (omega (arith, l))) ∙ ap (λ b. nat_lt f p && b) (ap (λ z. is_before_end z count p) (sym v) ∙ g p k (omega (arith, l))))
    ∙ ap (λ m. take (e - m) (drop (f - 0) t)) p ∙ ap (λ m. take (e - f) (drop m t)) q

-- ---- the first position of a part

-- no position up to before has the part
abbrev pub Passed : List ℕ → List ℕ → ℕ → Type 0
Passed part t before = (k : ℕ) → 0 < k → k ≤ before → stands_at part t k ≡ false

stands_here : (part t left : List ℕ) (before : ℕ) → left ≡ drop before t → starts_with nat_eq left part ≡ stands_at part t (before + 1)
stands_here part t left before e =
    let p : before ≡ before + 1 - 1 = omega arith in
    ap (λ xs. starts_with nat_eq xs part) e ∙ ap (λ n. starts_with nat_eq (drop n t) part) p

too_short : (part xs : List ℕ) → length xs < length part → starts_with nat_eq xs part ≡ false
too_short part xs h = unequal nat_eq part (take (length part) xs) (λ e. omega (arith, h, e, length-take (length part) xs))

pub position_found : (part t left wanted : List ℕ) (before : ℕ) (b : Bool) → wanted ≡ part → left ≡ drop before t → Passed part t before → b ≡ starts_with nat_eq left wanted → b ≡ true
    → IsPosition part t (before + 1)
position_found part t left wanted before b w e passed q h = record {
  found = λ _. sym (ap (λ p. starts_with nat_eq left p) w ∙ stands_here part t left before e) ∙ sym q ∙ h;
  first = λ k p l. passed k p (omega (arith, l));
  none = λ z. absurd (omega (arith, z));
}

pub position_none : (part t left wanted : List ℕ) (before : ℕ) → wanted ≡ part → left ≡ drop before t → Passed part t before → length left < length wanted → IsPosition part t 0
position_none part t left wanted before w e passed h = record {
  found = λ p. absurd (omega (arith, p));
  first = λ k p l. absurd (omega (arith, l));
  none = λ z k p. elim (cases_lt before k) as (λ _. stands_at part t k ≡ false) [
    | inl after ↦ too_short part (drop (k - 1) t) (omega (arith, h, after, ap length e, ap length w, length-drop before t, length-drop (k - 1) t))
    | inr within ↦ passed k p within
  ];
}

nonempty : (left wanted : List ℕ) → starts_with nat_eq left wanted ≡ false → length wanted ≤ length left → 0 < length left
nonempty [] [] h g = absurd (true≢false h)
nonempty [] (x ∷ xs) h g = absurd (omega (arith, g))
nonempty (y ∷ ys) wanted h g = omega arith

-- one turn of the search's loop
pub record Searching (part t left : List ℕ) (before : ℕ) : Type 0 where
  pub here : left ≡ drop before t
  pub within : before ≤ length t
  pub passed : Passed part t before

pub left_nonempty : (left wanted : List ℕ) (b : Bool) → b ≡ starts_with nat_eq left wanted → b ≡ false → length wanted ≤ length left → 0 < length left
left_nonempty left wanted b q h g = nonempty left wanted (sym q ∙ h) g

pub searching_on : (part t left wanted next : List ℕ) (before : ℕ) (b : Bool) → wanted ≡ part → Searching part t left before → b ≡ starts_with nat_eq left wanted → b ≡ false
    → length wanted ≤ length left → next ≡ drop 1 left → Searching part t next (before + 1)
searching_on part t left wanted next before b w s q h g n = record {
  here = n ∙ ap (λ xs. drop 1 xs) s.here ∙ drop-drop 1 before t;
  within = omega (arith, left_nonempty left wanted b q h g, ap length s.here, length-drop before t);
  passed = λ k p l. elim (cases_lt before k) as (λ _. stands_at part t k ≡ false) [
    | inl after ↦
        let e : k ≡ before + 1 = omega (arith, after, l) in
        ap (λ m. stands_at part t m) e ∙ sym (ap (λ p. starts_with nat_eq left p) w ∙ stands_here part t left before s.here) ∙ sym q ∙ h
    | inr within ↦ s.passed k p within
  ];
}
