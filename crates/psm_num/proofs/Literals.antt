-- A text is at most one literal: its parts spell it again, and a literal's text has its parts.
use Rattle.std.proofs.Common.{◌≡◌, ℕ, suc, ◌+◌, ◌<◌, ◌≤◌, Bool, true, false, cond, not, ◌&&◌, ◌||◌, ◌==◌, nat_lt, nat_le, List, [], ◌∷◌, ◌++◌, take, drop, Option, Some, None, Ok, Err, refl, sym, ap, ◌∙◌, append_assoc, arith, eqb-true, ltb-true, lt-ltb}
use Rattle.std.specs.Prelude.{is_some, IfOk, if◌then◌else◌}
use Rattle.std.specs.Char.{is_ascii_digit}
use Rattle.std.specs.List.{list_all, list_any, position_or_len, before_first, after_first}
use Rattle.std.proofs.lemmas.Bool.{leb-true, leb-false}
use Rattle.psm_num.specs.declared.fault.NumFault.TheVariants.{Range, NotNumber}
use Rattle.psm_num.specs.Literal.{Literal, IsLiteral, Spells, Sign, Plus, Minus, sign_text, point_text, literal_text, literal_digits, literal_value, literal_number}
use Rattle.psm_num.specs.Split.{sign_of, after_sign, is_point, literal_of, has_digits, number_of}

-- ---- the parts of a text spell it

rejoined_by : (b : Bool) (c n : ℕ) (u : List ℕ) → (c == 46) ≡ b → take n u ++ (point_text (list_any is_point u) ++ drop (n + 1) u) ≡ u
    → take (cond (not b) (1 + n) 0) (c ∷ u) ++ (point_text (b || list_any is_point u) ++ drop (cond (not b) (1 + n) 0 + 1) (c ∷ u)) ≡ c ∷ u
rejoined_by true c n u e h = ap (λ d. d ∷ u) (sym (eqb-true c 46 e))
rejoined_by false c n u e h =
    let more : 1 + n + 1 ≡ suc (n + 1) = omega arith in
    let one : 1 + n ≡ suc n = omega arith in
    rw (more, one) (ap (λ t. c ∷ t) h)

rejoined : (u : List ℕ) → before_first is_point u ++ (point_text (list_any is_point u) ++ after_first is_point u) ≡ u
rejoined [] = refl
rejoined (c ∷ u) = rejoined_by (c == 46) c (position_or_len is_point u) u refl (rejoined u)

signed_by : (p m : Bool) (c : ℕ) (u : List ℕ) → (c == 43) ≡ p → (c == 45) ≡ m
    → sign_text (cond p (Some Plus) (cond m (Some Minus) None)) ++ cond (is_some (cond p (Some Plus) (cond m (Some Minus) None))) (drop 1 (c ∷ u)) (c ∷ u) ≡ c ∷ u
signed_by true m c u e f = ap (λ d. d ∷ u) (sym (eqb-true c 43 e))
signed_by false true c u e f = ap (λ d. d ∷ u) (sym (eqb-true c 45 f))
signed_by false false c u e f = refl

resigned : (t : List ℕ) → sign_text (sign_of t) ++ after_sign t ≡ t
resigned [] = refl
resigned (c ∷ u) = signed_by (c == 43) (c == 45) c u refl refl

-- whichever the grouping of the four parts
flat : (a b c d : List ℕ) → a ++ b ++ c ++ d ≡ a ++ (b ++ (c ++ d))
flat a b c d = simp append_assoc

pub literal_text-literal_of : (t : List ℕ) → literal_text (literal_of t) ≡ t
literal_text-literal_of t =
    flat (sign_text (sign_of t)) (before_first is_point (after_sign t)) (point_text (list_any is_point (after_sign t))) (after_first is_point (after_sign t))
    ∙ ap (λ u. sign_text (sign_of t) ++ u) (rejoined (after_sign t))
    ∙ resigned t

-- ---- a literal's text has its parts

-- a digit is no sign and no point
digit_alone : (c : ℕ) → is_ascii_digit c ≡ true → ((c == 43) ≡ false) × ((c == 45) ≡ false) × ((c == 46) ≡ false)
digit_alone c h = (grind (arith, h), grind (arith, h), grind (arith, h))

pub and_first : (a b : Bool) → (a && b) ≡ true → a ≡ true
and_first true b h = refl
and_first false b h = h

pub and_second : (a b : Bool) → (a && b) ≡ true → b ≡ true
and_second true b h = h
and_second false b h = cc

-- the digits before the point, whether there is one, and the digits after it
record IsSplit (t before : List ℕ) (pointed : Bool) (following : List ℕ) : Type 0 where
  before_is : before_first is_point t ≡ before
  after_is : after_first is_point t ≡ following
  pointed_is : list_any is_point t ≡ pointed

split_more_by : (b : Bool) (c n : ℕ) (t ds fs : List ℕ) (p q : Bool) → b ≡ false → take n t ≡ ds → drop (n + 1) t ≡ fs → p ≡ q
    → (take (cond (not b) (1 + n) 0) (c ∷ t) ≡ c ∷ ds) × (drop (cond (not b) (1 + n) 0 + 1) (c ∷ t) ≡ fs) × ((b || p) ≡ q)
split_more_by true c n t ds fs p q e f g h = absurd (cc)
split_more_by false c n t ds fs p q e f g h =
    let more : 1 + n + 1 ≡ suc (n + 1) = omega arith in
    let one : 1 + n ≡ suc n = omega arith in
    (rw one (ap (λ z. c ∷ z) f), rw more g, h)

split_more : (c : ℕ) (t ds fs : List ℕ) (p : Bool) → (c == 46) ≡ false → IsSplit t ds p fs → IsSplit (c ∷ t) (c ∷ ds) p fs
split_more c t ds fs p e s =
    let r : (take (cond (not (c == 46)) (1 + position_or_len is_point t) 0) (c ∷ t) ≡ c ∷ ds) × (drop (cond (not (c == 46)) (1 + position_or_len is_point t) 0 + 1) (c ∷ t) ≡ fs) × (((c == 46) || list_any is_point t) ≡ p)
    = split_more_by (c == 46) c (position_or_len is_point t) t ds fs (list_any is_point t) p e s.before_is s.after_is s.pointed_is in
    record { before_is = r.0; after_is = r.1; pointed_is = r.2 }

split_at_point : (ds fs : List ℕ) (b : Bool) → list_all is_ascii_digit ds ≡ true → (b ≡ false → fs ≡ []) → IsSplit (ds ++ (point_text b ++ fs)) ds b fs
split_at_point [] fs true h none = record { before_is = refl; after_is = refl; pointed_is = refl }
split_at_point [] [] false h none = record { before_is = refl; after_is = refl; pointed_is = refl }
split_at_point [] (c ∷ fs) false h none = let e : c ∷ fs ≡ [] = none refl in absurd (cc)
split_at_point (c ∷ ds) fs b h none =
    split_more c (ds ++ (point_text b ++ fs)) ds fs b (digit_alone c (and_first (is_ascii_digit c) (list_all is_ascii_digit ds) h)).2
    (split_at_point ds fs b (and_second (is_ascii_digit c) (list_all is_ascii_digit ds) h) none)

unsigned_by : (p m : Bool) (c : ℕ) (u : List ℕ) → p ≡ false → m ≡ false
    → (cond p (Some Plus) (cond m (Some Minus) None) ≡ None) × (cond (is_some (cond p (Some Plus) (cond m (Some Minus) None))) (drop 1 (c ∷ u)) (c ∷ u) ≡ c ∷ u)
unsigned_by true m c u e f = absurd (cc)
unsigned_by false true c u e f = absurd (cc)
unsigned_by false false c u e f = (refl, refl)

-- no sign stands before digits and a point
unsigned : (ds fs : List ℕ) (b : Bool) → list_all is_ascii_digit ds ≡ true → (b ≡ false → fs ≡ [])
    → (sign_of (ds ++ (point_text b ++ fs)) ≡ None) × (after_sign (ds ++ (point_text b ++ fs)) ≡ ds ++ (point_text b ++ fs))
unsigned [] fs true h none = (refl, refl)
unsigned [] [] false h none = (refl, refl)
unsigned [] (c ∷ fs) false h none = let e : c ∷ fs ≡ [] = none refl in absurd (cc)
unsigned (c ∷ ds) fs b h none =
    let d : ((c == 43) ≡ false) × ((c == 45) ≡ false) × ((c == 46) ≡ false) = digit_alone c (and_first (is_ascii_digit c) (list_all is_ascii_digit ds) h) in
    unsigned_by (c == 43) (c == 45) c (ds ++ (point_text b ++ fs)) d.0 d.1

-- the sign of a signed text, and what stands after it
sign_found : (s : Option Sign) (u : List ℕ) → (sign_of u ≡ None) → after_sign u ≡ u → (sign_of (sign_text s ++ u) ≡ s) × (after_sign (sign_text s ++ u) ≡ u)
sign_found None u e f = (e, f)
sign_found (Some Plus) u e f = (refl, refl)
sign_found (Some Minus) u e f = (refl, refl)

same_literal : (s : Option Sign) (ds fs : List ℕ) (b : Bool) (r : Option Sign) (es gs : List ℕ) (a : Bool) → s ≡ r → ds ≡ es → fs ≡ gs → b ≡ a
    → ◌≡◌ {A = Literal} (record { sign = s; whole = ds; fraction = fs; pointed = b }) (record { sign = r; whole = es; fraction = gs; pointed = a })
same_literal s ds fs b r es gs a e f g h = rw (e, f, g, h)

pub literal_of-literal_text : (l : Literal) → IsLiteral l → literal_of (literal_text l) ≡ l
literal_of-literal_text l good =
    let rest : List ℕ = l.whole ++ (point_text l.pointed ++ l.fraction) in
    let bare : (sign_of rest ≡ None) × (after_sign rest ≡ rest) = unsigned l.whole l.fraction l.pointed good.whole_digits good.no_fraction in
    let found : (sign_of (sign_text l.sign ++ rest) ≡ l.sign) × (after_sign (sign_text l.sign ++ rest) ≡ rest) = sign_found l.sign rest bare.0 bare.1 in
    let parts : IsSplit rest l.whole l.pointed l.fraction = split_at_point l.whole l.fraction l.pointed good.whole_digits good.no_fraction in
    ap literal_of (flat (sign_text l.sign) l.whole (point_text l.pointed) l.fraction)
    ∙ same_literal (sign_of (sign_text l.sign ++ rest)) (before_first is_point (after_sign (sign_text l.sign ++ rest))) (after_first is_point (after_sign (sign_text l.sign ++ rest))) (list_any is_point (after_sign (sign_text l.sign ++ rest)))
    l.sign l.whole l.fraction l.pointed
    found.0
    (ap (before_first is_point) found.1 ∙ parts.before_is)
    (ap (after_first is_point) found.1 ∙ parts.after_is)
    (ap (list_any is_point) found.1 ∙ parts.pointed_is)

-- ---- the form of a literal, and the test of it

has_digits-literal : (l : Literal) → IsLiteral l → has_digits l ≡ true
has_digits-literal l good =
    let some : nat_lt 0 (literal_digits l) ≡ true = lt-ltb 0 (literal_digits l) good.some_digit in
    let whole : list_all is_ascii_digit l.whole ≡ true = good.whole_digits in
    let fraction : list_all is_ascii_digit l.fraction ≡ true = good.fraction_digits in
    rw (whole, fraction, some)

none_after : (t : List ℕ) → list_any is_point t ≡ false → after_first is_point t ≡ []
none_after [] h = refl
none_after (c ∷ t) h = none_by (c == 46) c (position_or_len is_point t) t (list_any is_point t) h (λ e. none_after t e)
  where
    none_by : (b : Bool) (c n : ℕ) (t : List ℕ) (a : Bool) → (b || a) ≡ false → (a ≡ false → drop (n + 1) t ≡ []) → drop (cond (not b) (1 + n) 0 + 1) (c ∷ t) ≡ []
    none_by true c n t a h k = absurd (cc)
    none_by false c n t a h k =
        let more : 1 + n + 1 ≡ suc (n + 1) = omega arith in
        rw more (k h)

is_literal : (t : List ℕ) → has_digits (literal_of t) ≡ true → IsLiteral (literal_of t)
is_literal t h =
    let l : Literal = literal_of t in
    let both : (list_all is_ascii_digit l.whole && list_all is_ascii_digit l.fraction) ≡ true = and_first (list_all is_ascii_digit l.whole && list_all is_ascii_digit l.fraction) (nat_lt 0 (literal_digits l)) h in
    record {
      whole_digits = and_first (list_all is_ascii_digit l.whole) (list_all is_ascii_digit l.fraction) both;
      fraction_digits = and_second (list_all is_ascii_digit l.whole) (list_all is_ascii_digit l.fraction) both;
      some_digit = ltb-true 0 (literal_digits l) (and_second (list_all is_ascii_digit l.whole && list_all is_ascii_digit l.fraction) (nat_lt 0 (literal_digits l)) h);
      no_fraction = none_after (after_sign t);
    }

-- ---- what a text's number says of its literals

pub number_of-spelled : (t : List ℕ) (l : Literal) → Spells t l → number_of t ≡ literal_number l
number_of-spelled t l s =
    let same : literal_of t ≡ l = ap literal_of (sym s.spelling) ∙ literal_of-literal_text l s.form in
    let digits : has_digits l ≡ true = has_digits-literal l s.form in
    ap (λ m. if has_digits m then literal_number m else Err NotNumber) same
    ∙ ap (λ b. if b then literal_number l else Err NotNumber) digits

-- a text's number, by whether the text is a literal and whether that has at most 18 digits
module _ (t : List ℕ) where
  spelled : has_digits (literal_of t) ≡ true → Spells t (literal_of t)
  spelled h = record { form = is_literal t h; spelling = literal_text-literal_of t }

  value_by : (a b : Bool) → has_digits (literal_of t) ≡ a → nat_le (literal_digits (literal_of t)) 18 ≡ b
      → IfOk (if a then (if b then Ok (literal_value (literal_of t)) else Err Range) else Err NotNumber)
      (λ d. (l : Literal) × Spells t l × (literal_digits l ≤ 18) × (d ≡ literal_value l))
  value_by true true e f = (literal_of t, spelled e, leb-true (literal_digits (literal_of t)) 18 f, refl)
  value_by true false e f = tt
  value_by false b e f = tt

  pub number_of-ok : IfOk (number_of t) (λ d. (l : Literal) × Spells t l × (literal_digits l ≤ 18) × (d ≡ literal_value l))
  number_of-ok = value_by (has_digits (literal_of t)) (nat_le (literal_digits (literal_of t)) 18) refl refl

  range_by : (a b : Bool) → has_digits (literal_of t) ≡ a → nat_le (literal_digits (literal_of t)) 18 ≡ b
      → (if a then (if b then Ok (literal_value (literal_of t)) else Err Range) else Err NotNumber) ≡ Err Range
      → (l : Literal) × Spells t l × (18 < literal_digits l)
  range_by true true e f g = absurd (cc)
  range_by true false e f g = (literal_of t, spelled e, leb-false (literal_digits (literal_of t)) 18 f)
  range_by false b e f g = absurd (cc)

  pub number_of-range : number_of t ≡ Err Range → (l : Literal) × Spells t l × (18 < literal_digits l)
  number_of-range = range_by (has_digits (literal_of t)) (nat_le (literal_digits (literal_of t)) 18) refl refl

  other_by : (l : Literal) (b : Bool) → ((if b then Ok (literal_value l) else Err Range) ≡ Err NotNumber) → ⊥
  other_by l true e = cc
  other_by l false e = cc

  pub number_of-none : number_of t ≡ Err NotNumber → (l : Literal) → Spells t l → ⊥
  number_of-none e l s = other_by l (nat_le (literal_digits l) 18) (sym (number_of-spelled t l s) ∙ e)
