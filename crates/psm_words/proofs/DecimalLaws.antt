-- A number that is printed is read again, and a number that is read was printed so.
use Rattle.std.proofs.Common.{◌≡◌, ℕ, zero, suc, ◌+◌, ◌-◌, ◌*◌, ◌/◌, ◌%◌, ◌^◌, ◌<◌, ◌≤◌, ℤ, pos, negsuc, Bool, true, false, ◌&&◌, not, nat_lt, nat_le, List, [], ◌∷◌, ◌++◌, Option, Some, None, unsigned_abs, refl, sym, ap, subst, ◌∙◌, append_assoc, arith, rules}
use Rattle.std.specs.Prelude.{decimal, nat_eq, if◌then◌else◌}
use Rattle.std.specs.Char.{is_ascii_digit}
use Rattle.std.proofs.lemmas.Bool.{le-leb, lt-ltb, leb-true, ltb-true, eqb-true, ne_eqb}
use Rattle.std.proofs.lemmas.Fmt.{decimal_by_steps}
use Rattle.std.proofs.lemmas.List.{append-nil}
use Rattle.psm_num.specs.Num.{Num}
use Rattle.psm_num.specs.Literal.{signed}
use Rattle.psm_num.specs.Printed.{printed, decimals_of}
use Rattle.psm_words.specs.Reading.{◌>>=◌, begins_with_digit, begins_with_point, longer, number_at, most_digits, Unsigned, decimals_on, point_on, unsigned_at, with_sign, decimal_at}
use Rattle.psm_words.proofs.NumberLaws.{digit_is, digit_bounds, number_again, number_takes, both_true}
use Rattle.psm_words.proofs.Several.{bind_some, some_is}
use Rattle.psm_words.proofs.DecimalDigits.{whole, tail, tail_text, unsigned_text, printed_unsigned, whole-more, tail-more}

abbrev pub num : ℤ → ℕ → Num
num z k = record { coef = z; scale = k }

abbrev number_or : Bool → ℤ → ℕ → Option Num
number_or b z k = if b then None else Some (num z k)

-- whether a text can follow a number with that many decimals
abbrev pub ends_decimal : ℕ → List ℕ → Bool
ends_decimal k s = not (begins_with_digit s) && not (nat_eq k 0 && begins_with_point s)

pub not_true : (b : Bool) → not b ≡ true → b ≡ false
not_true true h = absurd cc
not_true false h = refl

-- ---- what is printed is read

next_decimal : (n k d : ℕ) (s : List ℕ) → d < 10 → k < 18 → n * 10 + d ≤ most_digits → decimals_on n k ((48 + d) ∷ s) ≡ decimals_on (n * 10 + d) (k + 1) s
next_decimal n k d s h room le =
    let same : 48 + d - 48 ≡ d = omega arith in
    let some : nat_lt k 18 ≡ true = lt-ltb k 18 room in
    let fits : nat_le (n * 10 + d) most_digits ≡ true = le-leb (n * 10 + d) most_digits le in
    rw (digit_is d h, same, some, fits)

decimals_on-tail : (k n : ℕ) (rest : List ℕ) → k ≤ 18 → n ≤ most_digits → decimals_on (whole k n) 0 (tail k n ++ rest) ≡ decimals_on n k rest
decimals_on-tail zero n rest room le = refl
decimals_on-tail (suc k) n rest room le =
    let same : n / 10 * 10 + n % 10 ≡ n = omega arith in
    let next : k + 1 ≡ suc k = omega arith in
    ap (decimals_on (whole k (n / 10)) 0) (append_assoc (tail k (n / 10)) ((48 + n % 10) ∷ []) rest)
    ∙ decimals_on-tail k (n / 10) ((48 + n % 10) ∷ rest) (omega arith) (omega (arith, le))
    ∙ next_decimal (n / 10) k (n % 10) rest (omega arith) (omega arith) (omega (arith, le))
    ∙ ap (λ m. decimals_on m (k + 1) rest) same
    ∙ ap (λ j. decimals_on n j rest) next

tail_begins : (k n : ℕ) (rest : List ℕ) → begins_with_digit (tail (suc k) n ++ rest) ≡ true
tail_begins zero n rest = digit_is (n % 10) (omega arith)
tail_begins (suc k) n rest = ap begins_with_digit (append_assoc (tail (suc k) (n / 10)) ((48 + n % 10) ∷ []) rest) ∙ tail_begins k (n / 10) ((48 + n % 10) ∷ rest)

decimals_on-end : (n k : ℕ) (s : List ℕ) → begins_with_digit s ≡ false → decimals_on n k s ≡ Some (n, k, s)
decimals_on-end n k [] h = refl
decimals_on-end n k (c ∷ s) h = rw h refl

no_point : (n : ℕ) (s : List ℕ) → begins_with_point s ≡ false → point_on n s ≡ Some (n, 0, s)
no_point n [] h = refl
no_point n (c ∷ s) h = rw h refl

point_again : (k n : ℕ) (rest : List ℕ) → k ≤ 18 → n ≤ most_digits → ends_decimal k rest ≡ true → point_on (whole k n) (tail_text k n ++ rest) ≡ Some (n, k, rest)
point_again zero n rest room le h = no_point n rest (not_true (begins_with_point rest) (both_true (not (begins_with_digit rest)) (not (begins_with_point rest)) h).1)
point_again (suc k) n rest room le h =
    ap (λ b. if b then decimals_on (whole (suc k) n) 0 (tail (suc k) n ++ rest) else None) (tail_begins k n rest)
    ∙ decimals_on-tail (suc k) n rest room le
    ∙ decimals_on-end n (suc k) rest (not_true (begins_with_digit rest) (both_true (not (begins_with_digit rest)) (not (nat_eq (suc k) 0 && begins_with_point rest)) h).0)

whole_bound : (k n : ℕ) → whole k n ≤ n
whole_bound zero n = omega arith
whole_bound (suc k) n = let h : whole k (n / 10) ≤ n / 10 = whole_bound k (n / 10) in omega (arith, h)

tail_text_ends : (k n : ℕ) (rest : List ℕ) → begins_with_digit rest ≡ false → begins_with_digit (tail_text k n ++ rest) ≡ false
tail_text_ends zero n rest h = h
tail_text_ends (suc k) n rest h = refl

unsigned_again : (n k : ℕ) (rest : List ℕ) → k ≤ 18 → n ≤ most_digits → ends_decimal k rest ≡ true → unsigned_at (unsigned_text n k ++ rest) ≡ Some (n, k, rest)
unsigned_again n k rest room le h =
    let open_end : begins_with_digit rest ≡ false = not_true (begins_with_digit rest) (both_true (not (begins_with_digit rest)) (not (nat_eq k 0 && begins_with_point rest)) h).0 in
    let fits : whole k n ≤ most_digits = omega (arith, whole_bound k n, le) in
    ap unsigned_at (append_assoc (decimal (whole k n)) (tail_text k n) rest)
    ∙ ap (λ (o : Option (ℕ × List ℕ)). o >>= λ n. point_on n.0 n.1) (number_again most_digits (whole k n) (tail_text k n ++ rest) (omega arith) fits (tail_text_ends k n rest open_end))
    ∙ point_again k n rest room le h

-- the first byte of a number is a digit
pub record First (text : List ℕ) : Type 0 where
  pub byte : ℕ
  pub others : List ℕ
  pub is : text ≡ byte ∷ others
  pub low : 48 ≤ byte
  pub high : byte ≤ 57

first_of : (n : ℕ) → n < 2 ^ 64 → First (decimal n)
first_of n small = decimal_by_steps (λ m ds. First ds) one more n small
  where
    one : (m : ℕ) → m < 10 → First ((48 + m) ∷ [])
    one m h = record { byte = 48 + m; others = []; is = refl; low = omega arith; high = omega arith }

    more : (m : ℕ) (ds : List ℕ) → 10 ≤ m → First ds → First (ds ++ ((48 + m % 10) ∷ []))
    more m ds h f = record { byte = f.byte; others = f.others ++ ((48 + m % 10) ∷ []); is = ap (λ u. u ++ ((48 + m % 10) ∷ [])) f.is; low = f.low; high = f.high }

pub first_unsigned : (n k : ℕ) (rest : List ℕ) → n ≤ most_digits → First (unsigned_text n k ++ rest)
first_unsigned n k rest le =
    let f : First (decimal (whole k n)) = first_of (whole k n) (omega (arith, whole_bound k n, le)) in
    record {
      byte = f.byte;
      others = (f.others ++ tail_text k n) ++ rest;
      is = ap (λ u. (u ++ tail_text k n) ++ rest) f.is;
      low = f.low;
      high = f.high;
    }

positive_again : (n k : ℕ) (rest : List ℕ) → k ≤ 18 → n ≤ most_digits → ends_decimal k rest ≡ true
    → decimal_at (unsigned_text n k ++ rest) ≡ Some (num (pos n) k, rest)
positive_again n k rest room le h =
    let f : First (unsigned_text n k ++ rest) = first_unsigned n k rest le in
    let low : 48 ≤ f.byte = f.low in
    let digit : nat_eq f.byte 45 ≡ false = ne_eqb f.byte 45 (λ e. omega (arith, low, e)) in
    ap decimal_at f.is
    ∙ ap (λ b. if b then (unsigned_at f.others >>= with_sign true) else (unsigned_at (f.byte ∷ f.others) >>= with_sign false)) digit
    ∙ ap (λ u. unsigned_at u >>= with_sign false) (sym f.is)
    ∙ ap (λ (o : Option Unsigned). o >>= with_sign false) (unsigned_again n k rest room le h)

negative_again : (m k : ℕ) (rest : List ℕ) → k ≤ 18 → suc m ≤ most_digits → ends_decimal k rest ≡ true
    → decimal_at (45 ∷ (unsigned_text (suc m) k ++ rest)) ≡ Some (num (negsuc m) k, rest)
negative_again m k rest room le h =
    let other : nat_eq (suc m) 0 ≡ false = ne_eqb (suc m) 0 (λ e. omega (arith, e)) in
    ap (λ (o : Option Unsigned). o >>= with_sign true) (unsigned_again (suc m) k rest room le h)
    ∙ ap (λ b. number_or b (signed true (suc m)) k >>= λ v. Some (v, rest)) other

printed_positive : (n k : ℕ) → n ≤ most_digits → printed (num (pos n) k) ≡ unsigned_text n k
printed_positive n k le =
    let none : nat_lt n 0 ≡ false = search rules in
    ap (λ b. (if b then 45 ∷ [] else []) ++ decimal (n / 10 ^ k) ++ decimals_of k (n % 10 ^ k)) none ∙ printed_unsigned n k (omega (arith, le))

printed_negative : (m k : ℕ) → suc m ≤ most_digits → printed (num (negsuc m) k) ≡ 45 ∷ unsigned_text (suc m) k
printed_negative m k le = ap (λ u. 45 ∷ u) (printed_unsigned (suc m) k (omega (arith, le)))

decimal_by : (z : ℤ) (k : ℕ) (rest : List ℕ) → k ≤ 18 → unsigned_abs z ≤ most_digits → ends_decimal k rest ≡ true
    → decimal_at (printed (num z k) ++ rest) ≡ Some (num z k, rest)
decimal_by (pos n) k rest room le h = ap (λ u. decimal_at (u ++ rest)) (printed_positive n k le) ∙ positive_again n k rest room le h
decimal_by (negsuc m) k rest room le h = ap (λ u. decimal_at (u ++ rest)) (printed_negative m k le) ∙ negative_again m k rest room le h

pub decimal_again : (n : Num) (rest : List ℕ) → n.scale ≤ 18 → unsigned_abs n.coef < 10 ^ 18 → ends_decimal n.scale rest ≡ true → decimal_at (printed n ++ rest) ≡ Some (n, rest)
decimal_again n rest room small h = decimal_by n.coef n.scale rest room (omega (arith, small)) h

-- the first byte of what is printed
pub first_printed : (z : ℤ) (k : ℕ) (rest : List ℕ) → unsigned_abs z ≤ most_digits → (c : ℕ) × (s : List ℕ) × (printed (num z k) ++ rest ≡ c ∷ s) × (45 ≤ c) × (c ≤ 57)
first_printed (pos n) k rest le =
    let f : First (unsigned_text n k ++ rest) = first_unsigned n k rest le in
    (f.byte, f.others, ap (λ u. u ++ rest) (printed_positive n k le) ∙ f.is, omega (arith, f.low), f.high)
first_printed (negsuc m) k rest le = (45, unsigned_text (suc m) k ++ rest, ap (λ u. u ++ rest) (printed_negative m k le), omega arith, omega arith)

-- ---- what is read is printed so

abbrev some_of_unsigned : Unsigned → Option Unsigned
some_of_unsigned x = Some x

unsigned_is : (x y : Unsigned) → some_of_unsigned x ≡ Some y → x ≡ y
unsigned_is x y e = cc

-- what a number that is read on says of the text
record TookOn (n k : ℕ) (s : List ℕ) (x : Unsigned) : Type 0 where
  spelled : decimal (whole k n) ++ (46 ∷ (tail k n ++ s)) ≡ decimal (whole x.1 x.0) ++ (46 ∷ (tail x.1 x.0 ++ x.2))
  digits : x.0 ≤ most_digits
  room : x.1 ≤ 18
  grown : k ≤ x.1
  ended : begins_with_digit x.2 ≡ false

took_end : (n k : ℕ) (s : List ℕ) (x : Unsigned) → n ≤ most_digits → k ≤ 18 → begins_with_digit s ≡ false → some_of_unsigned (n, k, s) ≡ Some x → TookOn n k s x
took_end n k s x le room h e = subst (TookOn n k s) (unsigned_is (n, k, s) x e) (record { spelled = refl; digits = le; room = room; grown = omega arith; ended = h })

digit_on : (n k c : ℕ) (s : List ℕ) → 48 ≤ c → c ≤ 57 → decimal (whole k n) ++ (46 ∷ (tail k n ++ (c ∷ s))) ≡ decimal (whole (k + 1) (longer n c)) ++ (46 ∷ (tail (k + 1) (longer n c) ++ s))
digit_on n k c s low high =
    let next : suc k ≡ k + 1 = omega arith in
    let small : c - 48 < 10 = omega arith in
    let same : 48 + (c - 48) ≡ c = omega arith in
    let t : tail (suc k) (longer n c) ≡ tail k n ++ c ∷ [] = tail-more k n (c - 48) small ∙ ap (λ m. tail k n ++ m ∷ []) same in
    ap (λ m. decimal m ++ (46 ∷ (tail k n ++ (c ∷ s)))) (sym (whole-more k n (c - 48) small))
    ∙ ap (λ u. decimal (whole (suc k) (longer n c)) ++ (46 ∷ u)) (sym (append_assoc (tail k n) (c ∷ []) s) ∙ ap (λ u. u ++ s) (sym t))
    ∙ ap (λ j. decimal (whole j (longer n c)) ++ (46 ∷ (tail j (longer n c) ++ s))) next

took_by : (a b d : Bool) (n k c : ℕ) (s : List ℕ) (x : Unsigned) → is_ascii_digit c ≡ a → nat_lt k 18 ≡ b → nat_le (longer n c) most_digits ≡ d → n ≤ most_digits → k ≤ 18
    → (longer n c ≤ most_digits → k + 1 ≤ 18 → decimals_on (longer n c) (k + 1) s ≡ Some x → TookOn (longer n c) (k + 1) s x)
    → (if a then (if b && d then decimals_on (longer n c) (k + 1) s else None) else Some (n, k, c ∷ s)) ≡ Some x → TookOn n k (c ∷ s) x
took_by false b d n k c s x f g h le room more e = took_end n k (c ∷ s) x le room f e
took_by true false d n k c s x f g h le room more e = absurd cc
took_by true true false n k c s x f g h le room more e = absurd cc
took_by true true true n k c s x f g h le room more e =
    let below : k < 18 = ltb-true k 18 g in
    let digit : (48 ≤ c) × (c ≤ 57) = digit_bounds c f in
    let t : TookOn (longer n c) (k + 1) s x = more (leb-true (longer n c) most_digits h) (omega (arith, below)) e in
    record { spelled = digit_on n k c s digit.0 digit.1 ∙ t.spelled; digits = t.digits; room = t.room; grown = omega (arith, t.grown); ended = t.ended }

decimals_on-takes : (n k : ℕ) (s : List ℕ) (x : Unsigned) → n ≤ most_digits → k ≤ 18 → decimals_on n k s ≡ Some x → TookOn n k s x
decimals_on-takes n k [] x le room e = took_end n k [] x le room refl e
decimals_on-takes n k (c ∷ s) x le room e =
    took_by (is_ascii_digit c) (nat_lt k 18) (nat_le (longer n c) most_digits) n k c s x refl refl refl le room (λ fits more f. decimals_on-takes (longer n c) (k + 1) s x fits more f) e

-- what follows a point has a digit
decimals_some : (n : ℕ) (s : List ℕ) (x : Unsigned) → n ≤ most_digits → begins_with_digit s ≡ true → decimals_on n 0 s ≡ Some x → TookOn n 0 s x × (1 ≤ x.1)
decimals_some n [] x le h e = absurd cc
decimals_some n (c ∷ s) x le h e = (decimals_on-takes n 0 (c ∷ s) x le (omega arith) e, by (nat_le (longer n c) most_digits) refl (ap (λ b. if b then (if nat_lt 0 18 && nat_le (longer n c) most_digits then decimals_on (longer n c) (0 + 1) s else None) else Some (n, 0, c ∷ s)) (sym h) ∙ e))
  where
    by : (a : Bool) → nat_le (longer n c) most_digits ≡ a → (if a then decimals_on (longer n c) 1 s else None) ≡ Some x → 1 ≤ x.1
    by false f e = absurd cc
    by true f e = let t : TookOn (longer n c) 1 s x = decimals_on-takes (longer n c) 1 s x (leb-true (longer n c) most_digits f) (omega arith) e in t.grown

-- what a number that is read says of the text
pub record Took (s : List ℕ) (x : Unsigned) : Type 0 where
  pub spelled : s ≡ unsigned_text x.0 x.1 ++ x.2
  pub digits : x.0 ≤ most_digits
  pub room : x.1 ≤ 18
  pub ended : ends_decimal x.1 x.2 ≡ true

with_decimals : (n : ℕ) (s : List ℕ) (x : Unsigned) → TookOn n 0 s x → 1 ≤ x.1 → Took (decimal n ++ (46 ∷ s)) x
with_decimals n s x t some = by x.1 refl
  where
    by : (j : ℕ) → x.1 ≡ j → Took (decimal n ++ (46 ∷ s)) x
    by zero e = absurd (omega (arith, some, e))
    by (suc j) e =
        let text : tail_text x.1 x.0 ≡ 46 ∷ tail x.1 x.0 = ap (λ i. tail_text i x.0) e ∙ ap (λ i. 46 ∷ tail i x.0) (sym e) in
        let other : nat_eq x.1 0 ≡ false = ne_eqb x.1 0 (λ f. omega (arith, some, f)) in
        record {
          spelled = t.spelled ∙ sym (append_assoc (decimal (whole x.1 x.0)) (46 ∷ tail x.1 x.0) x.2) ∙ ap (λ u. (decimal (whole x.1 x.0) ++ u) ++ x.2) (sym text);
          digits = t.digits;
          room = t.room;
          ended = ap (λ b. not b && not (nat_eq x.1 0 && begins_with_point x.2)) t.ended ∙ ap (λ b. not (b && begins_with_point x.2)) other;
        }

without_decimals : (n : ℕ) (s : List ℕ) (x : Unsigned) → n ≤ most_digits → begins_with_digit s ≡ false → begins_with_point s ≡ false → some_of_unsigned (n, 0, s) ≡ Some x → Took (decimal n ++ s) x
without_decimals n s x le h g e =
    subst (Took (decimal n ++ s)) (unsigned_is (n, 0, s) x e)
    (record { spelled = ap (λ (u : List ℕ). u ++ s) (sym (append-nil (decimal n))); digits = le; room = omega arith; ended = ap (λ b. not b && not (begins_with_point s)) h ∙ ap not g })

point_takes : (n : ℕ) (s : List ℕ) (x : Unsigned) → n ≤ most_digits → begins_with_digit s ≡ false → point_on n s ≡ Some x → Took (decimal n ++ s) x
point_takes n [] x le h e = without_decimals n [] x le refl refl e
point_takes n (c ∷ s) x le h e = by (nat_eq c 46) (begins_with_digit s) refl refl e
  where
    by : (a b : Bool) → nat_eq c 46 ≡ a → begins_with_digit s ≡ b → (if a then (if b then decimals_on n 0 s else None) else Some (n, 0, c ∷ s)) ≡ Some x → Took (decimal n ++ (c ∷ s)) x
    by false b f g e = without_decimals n (c ∷ s) x le h f e
    by true false f g e = absurd cc
    by true true f g e =
        let t : TookOn n 0 s x × (1 ≤ x.1) = decimals_some n s x le g e in
        subst (λ k. Took (decimal n ++ (k ∷ s)) x) (sym (eqb-true c 46 f)) (with_decimals n s x t.0 t.1)

unsigned_takes : (s : List ℕ) (x : Unsigned) → unsigned_at s ≡ Some x → Took s x
unsigned_takes s x e =
    let a = bind_some (number_at most_digits s) (λ n. point_on n.0 n.1) x e in
    let t = number_takes most_digits a.0.0 s a.0.1 (omega arith) a.1 in
    subst (λ (u : List ℕ). Took u x) (sym t.0) (point_takes a.0.0 a.0.1 x t.1 t.2 a.2)

-- what a number with its sign that is read says of the text
abbrev pub TookDecimal : List ℕ → Num × List ℕ → Type 0
TookDecimal s x = (s ≡ printed x.0 ++ x.1) × (x.0.scale ≤ 18) × (unsigned_abs x.0.coef < 10 ^ 18) × (ends_decimal x.0.scale x.1 ≡ true)

positive_takes : (s : List ℕ) (x : Num × List ℕ) → (unsigned_at s >>= with_sign false) ≡ Some x → TookDecimal s x
positive_takes s x e =
    let a = bind_some (unsigned_at s) (with_sign false) x e in
    let t : Took s a.0 = unsigned_takes s a.0 a.1 in
    let made : Num × List ℕ = (num (pos a.0.0) a.0.1, a.0.2) in
    subst (TookDecimal s) (some_is made x a.2) (t.spelled ∙ ap (λ (u : List ℕ). u ++ a.0.2) (sym (printed_positive a.0.0 a.0.1 t.digits)), t.room, omega (arith, t.digits), t.ended)

negative_by : (n k : ℕ) (s rest : List ℕ) (x : Num × List ℕ) → Took s (n, k, rest) → with_sign true (n, k, rest) ≡ Some x → TookDecimal (45 ∷ s) x
negative_by zero k s rest x t e = absurd cc
negative_by (suc m) k s rest x t e =
    let made : Num × List ℕ = (num (negsuc m) k, rest) in
    let other : nat_eq (suc m) 0 ≡ false = ne_eqb (suc m) 0 (λ e. omega (arith, e)) in
    let value : with_sign true (suc m, k, rest) ≡ Some made = ap (λ b. number_or b (signed true (suc m)) k >>= λ v. Some (v, rest)) other in
    subst (TookDecimal (45 ∷ s)) (some_is made x (sym value ∙ e))
    (ap (λ (u : List ℕ). 45 ∷ u) t.spelled ∙ ap (λ (u : List ℕ). u ++ rest) (sym (printed_negative m k t.digits)), t.room, omega (arith, t.digits), t.ended)

pub decimal_takes : (s : List ℕ) (x : Num × List ℕ) → decimal_at s ≡ Some x → TookDecimal s x
decimal_takes [] x e = absurd cc
decimal_takes (c ∷ s) x e = by (nat_eq c 45) refl e
  where
    by : (a : Bool) → nat_eq c 45 ≡ a → (if a then (unsigned_at s >>= with_sign true) else (unsigned_at (c ∷ s) >>= with_sign false)) ≡ Some x → TookDecimal (c ∷ s) x
    by false f e = positive_takes (c ∷ s) x e
    by true f e =
        let a = bind_some (unsigned_at s) (with_sign true) x e in
        subst (λ k. TookDecimal (k ∷ s) x) (sym (eqb-true c 45 f)) (negative_by a.0.0 a.0.1 s a.0.2 x (unsigned_takes s a.0 a.1) a.2)
