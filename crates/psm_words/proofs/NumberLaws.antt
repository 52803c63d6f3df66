-- A number that is written is read again, and a number that is read was written so.
use Rattle.std.proofs.Common.{◌≡◌, ℕ, ◌+◌, ◌-◌, ◌*◌, ◌/◌, ◌%◌, ◌^◌, ◌<◌, ◌≤◌, Bool, true, false, ◌&&◌, nat_lt, nat_le, List, [], ◌∷◌, ◌++◌, Option, Some, None, refl, sym, ap, subst, ◌∙◌, append_assoc, arith}
use Rattle.std.specs.Prelude.{decimal, if◌then◌else◌}
use Rattle.std.specs.Char.{is_ascii_digit}
use Rattle.std.proofs.lemmas.Bool.{le-leb, lt-ltb, leb-true, ltb-true}
use Rattle.std.proofs.lemmas.Fmt.{decimal_digit, decimal_step, decimal_by_steps}
use Rattle.psm_words.specs.Reading.{begins_with_digit, longer, number_on, number_at}

pub digit_is : (d : ℕ) → d < 10 → is_ascii_digit (48 + d) ≡ true
digit_is d h = grind arith

pub digit_bounds : (c : ℕ) → is_ascii_digit c ≡ true → (48 ≤ c) × (c ≤ 57)
digit_bounds c h = (grind arith, grind arith)

-- ---- what is written is read

first_digit : (most d : ℕ) (s : List ℕ) → d < 10 → d ≤ most → number_at most ((48 + d) ∷ s) ≡ number_on most d s
first_digit most d s h le =
    let same : 48 + d - 48 ≡ d = omega arith in
    let fits : nat_le d most ≡ true = le-leb d most le in
    rw (digit_is d h, same, fits)

next_digit : (most n d : ℕ) (s : List ℕ) → d < 10 → 0 < n → n * 10 + d ≤ most → number_on most n ((48 + d) ∷ s) ≡ number_on most (n * 10 + d) s
next_digit most n d s h pos le =
    let same : 48 + d - 48 ≡ d = omega arith in
    let some : nat_lt 0 n ≡ true = lt-ltb 0 n pos in
    let fits : nat_le (n * 10 + d) most ≡ true = le-leb (n * 10 + d) most le in
    rw (digit_is d h, same, some, fits)

pub number_at-decimal : (most n : ℕ) (s : List ℕ) → n < 2 ^ 64 → n ≤ most → number_at most (decimal n ++ s) ≡ number_on most n s
number_at-decimal most n s small = decimal_by_steps (λ m ds. (s : List ℕ) → m ≤ most → number_at most (ds ++ s) ≡ number_on most m s) one more n small s
  where
    one : (m : ℕ) → m < 10 → (s : List ℕ) → m ≤ most → number_at most (((48 + m) ∷ []) ++ s) ≡ number_on most m s
    one m h s le = first_digit most m s h le

    more : (m : ℕ) (ds : List ℕ) → 10 ≤ m → ((s : List ℕ) → m / 10 ≤ most → number_at most (ds ++ s) ≡ number_on most (m / 10) s)
        → (s : List ℕ) → m ≤ most → number_at most ((ds ++ ((48 + m % 10) ∷ [])) ++ s) ≡ number_on most m s
    more m ds h p s le =
        let whole : m / 10 * 10 + m % 10 ≡ m = omega arith in
        ap (number_at most) (append_assoc ds ((48 + m % 10) ∷ []) s)
        ∙ p ((48 + m % 10) ∷ s) (omega arith)
        ∙ next_digit most (m / 10) (m % 10) s (omega arith) (omega arith) (omega arith)
        ∙ ap (λ k. number_on most k s) whole

number_on-end : (most n : ℕ) (s : List ℕ) → begins_with_digit s ≡ false → number_on most n s ≡ Some (n, s)
number_on-end most n [] h = refl
number_on-end most n (c ∷ s) h = rw h refl

pub number_again : (most n : ℕ) (rest : List ℕ) → most < 10 ^ 18 → n ≤ most → begins_with_digit rest ≡ false → number_at most (decimal n ++ rest) ≡ Some (n, rest)
number_again most n rest small le h = number_at-decimal most n rest (omega arith) le ∙ number_on-end most n rest h

-- ---- what is read is written so

-- what a number that is read on from n says of the text
pub record Took (most n : ℕ) (s : List ℕ) (m : ℕ) (rest : List ℕ) : Type 0 where
  pub spelled : decimal n ++ s ≡ decimal m ++ rest
  pub bound : m ≤ most
  pub ended : begins_with_digit rest ≡ false

one_more : (n c : ℕ) (s : List ℕ) → 0 < n → n < 10 ^ 18 → 48 ≤ c → c ≤ 57 → decimal n ++ (c ∷ s) ≡ decimal (longer n c) ++ s
one_more n c s pos small low high =
    let front : longer n c / 10 ≡ n = omega arith in
    let last : 48 + longer n c % 10 ≡ c = omega arith in
    let step : decimal (longer n c) ≡ decimal (longer n c / 10) ++ ((48 + longer n c % 10) ∷ []) = decimal_step (longer n c) (omega arith) (omega arith) in
    let same : decimal (longer n c) ≡ decimal n ++ (c ∷ []) = step ∙ ap (λ k. decimal k ++ ((48 + longer n c % 10) ∷ [])) front ∙ ap (λ k. decimal n ++ (k ∷ [])) last in
    sym (append_assoc (decimal n) (c ∷ []) s) ∙ ap (λ t. t ++ s) (sym same)

some_is : (x y : ℕ × List ℕ) → ◌≡◌ {A = Option (ℕ × List ℕ)} (Some x) (Some y) → x ≡ y
some_is x y e = cc

pub both_true : (a b : Bool) → (a && b) ≡ true → (a ≡ true) × (b ≡ true)
both_true true b h = (refl, h)
both_true false b h = absurd cc

pub number_on-takes : (most n : ℕ) (s : List ℕ) (m : ℕ) (rest : List ℕ) → most < 10 ^ 18 → n ≤ most → number_on most n s ≡ Some (m, rest) → Took most n s m rest
number_on-takes most n [] m rest small le e = ended_at most n [] m rest le refl (some_is (n, []) (m, rest) e)
  where
    ended_at : (most n : ℕ) (s : List ℕ) (m : ℕ) (rest : List ℕ) → n ≤ most → begins_with_digit s ≡ false → ◌≡◌ {A = ℕ × List ℕ} (n, s) (m, rest) → Took most n s m rest
    ended_at most n s m rest le h e = subst (λ (x : ℕ × List ℕ). Took most n s x.0 x.1) e (record { spelled = refl; bound = le; ended = h })
number_on-takes most n (c ∷ s) m rest small le e = by (is_ascii_digit c) (nat_lt 0 n) (nat_le (longer n c) most) (λ fits f. number_on-takes most (longer n c) s m rest small fits f) refl refl refl e
  where
    by : (a b d : Bool) → (longer n c ≤ most → number_on most (longer n c) s ≡ Some (m, rest) → Took most (longer n c) s m rest) → is_ascii_digit c ≡ a → nat_lt 0 n ≡ b → nat_le (longer n c) most ≡ d
        → (if a then (if b && d then number_on most (longer n c) s else None) else Some (n, c ∷ s)) ≡ Some (m, rest) → Took most n (c ∷ s) m rest
    by false b d more h f g e = subst (λ (x : ℕ × List ℕ). Took most n (c ∷ s) x.0 x.1) (some_is (n, c ∷ s) (m, rest) e) (record { spelled = refl; bound = le; ended = h })
    by true false d more h f g e = absurd cc
    by true true false more h f g e = absurd cc
    by true true true more h f g e =
        let fits : longer n c ≤ most = leb-true (longer n c) most g in
        let pos : 0 < n = ltb-true 0 n f in
        let digit : (48 ≤ c) × (c ≤ 57) = digit_bounds c h in
        let t : Took most (longer n c) s m rest = more fits e in
        record { spelled = one_more n c s pos (omega arith) digit.0 digit.1 ∙ t.spelled; bound = t.bound; ended = t.ended }

first_one : (c : ℕ) (s : List ℕ) → 48 ≤ c → c ≤ 57 → c ∷ s ≡ decimal (c - 48) ++ s
first_one c s low high =
    let same : 48 + (c - 48) ≡ c = omega arith in
    ap (λ k. k ∷ s) (sym same) ∙ ap (λ t. t ++ s) (sym (decimal_digit (c - 48) (omega arith)))

pub number_takes : (most n : ℕ) (s rest : List ℕ) → most < 10 ^ 18 → number_at most s ≡ Some (n, rest) → (s ≡ decimal n ++ rest) × (n ≤ most) × (begins_with_digit rest ≡ false)
number_takes most n [] rest small e = absurd cc
number_takes most n (c ∷ s) rest small e = by (is_ascii_digit c) (nat_le (c - 48) most) refl refl e
  where
    by : (a b : Bool) → is_ascii_digit c ≡ a → nat_le (c - 48) most ≡ b → (if a && b then number_on most (c - 48) s else None) ≡ Some (n, rest)
        → (c ∷ s ≡ decimal n ++ rest) × (n ≤ most) × (begins_with_digit rest ≡ false)
    by false b h f e = absurd cc
    by true false h f e = absurd cc
    by true true h f e =
        let digit : (48 ≤ c) × (c ≤ 57) = digit_bounds c h in
        let t : Took most (c - 48) s n rest = number_on-takes most (c - 48) s n rest small (leb-true (c - 48) most f) e in
        (first_one c s digit.0 digit.1 ∙ t.spelled, t.bound, t.ended)
