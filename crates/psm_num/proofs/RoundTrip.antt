-- What a number prints is a literal of that number.
use Rattle.std.proofs.Common.{◌≡◌, ℕ, zero, suc, ◌+◌, ◌-◌, ◌*◌, ◌/◌, ◌%◌, ◌^◌, ◌<◌, ◌≤◌, ℤ, pos, negsuc, Bool, true, false, ◌&&◌, nat_lt, List, [], ◌∷◌, ◌++◌, length, replicate, Option, Some, None, Ok, Err, unsigned_abs, refl, sym, ap, ◌∙◌, append_assoc, pow-add, arith, rules, ltb-true, ltb-false, int_lt}
use Rattle.std.specs.Prelude.{decimal, if◌then◌else◌}
use Rattle.std.specs.Char.{digit_value, is_ascii_digit}
use Rattle.std.specs.List.{list_all}
use Rattle.std.specs.Str.Parse.{digits_value, digits_value_after}
use Rattle.std.proofs.lemmas.Bool.{le-leb, lt-leb}
use Rattle.std.proofs.lemmas.Fmt.{digits_decimal, digits_value-decimal, length-decimal-le, decimal_nonempty}
use Rattle.std.proofs.lemmas.List.{length-append, length-replicate, append-nil}
use Rattle.std.proofs.lemmas.List.Folds.{list_all-append}
use Rattle.std.proofs.lemmas.Nat.{div_below, mod_below}
use Rattle.psm_num.specs.declared.fault.NumFault.TheVariants.{Range}
use Rattle.psm_num.specs.Num.{Num}
use Rattle.psm_num.specs.Literal.{Literal, Spells, Sign, Minus, sign_text, point_text, literal_text, literal_digits, literal_value, literal_number, signed, is_minus}
use Rattle.psm_num.specs.Printed.{filled, printed}
use Rattle.psm_num.proofs.Digits.{own, digits_value-append}
use Rattle.psm_num.proofs.Powers.{power_pos}

-- ---- filled numbers

zeros_pass : (k : ℕ) → list_all is_ascii_digit (replicate k 48) ≡ true
zeros_pass zero = refl
zeros_pass (suc k) = zeros_pass k

zeros_spell : (k : ℕ) → digits_value_after 10 0 (replicate k 48) ≡ 0
zeros_spell zero = refl
zeros_spell (suc k) = zeros_spell k

filled_digits : (width n : ℕ) → n < 2 ^ 64 → list_all is_ascii_digit (filled width n) ≡ true
filled_digits width n h =
    list_all-append is_ascii_digit (replicate (width - length (decimal n)) 48) (decimal n)
    ∙ ap (λ b. b && list_all is_ascii_digit (decimal n)) (zeros_pass (width - length (decimal n)))
    ∙ digits_decimal own n h

length-filled : (width n : ℕ) → 0 < width → n < 10 ^ width → n < 2 ^ 64 → length (filled width n) ≡ width
length-filled width n w h small =
    let k : length (decimal n) ≤ width = length-decimal-le width n w h small in
    let zeros : List ℕ = replicate (width - length (decimal n)) 48 in
    let e : length (filled width n) ≡ length zeros + length (decimal n) = length-append zeros (decimal n) in
    let f : length zeros ≡ width - length (decimal n) = length-replicate {A = ℕ} (width - length (decimal n)) 48 in
    omega (arith, e, f, k)

digits_value-filled : (width n : ℕ) → n < 2 ^ 64 → digits_value 10 (filled width n) ≡ n
digits_value-filled width n h =
    digits_value-append 0 (replicate (width - length (decimal n)) 48) (decimal n)
    ∙ ap (λ s. digits_value_after 10 s (decimal n)) (zeros_spell (width - length (decimal n)))
    ∙ digits_value-decimal own n h

-- the number so far has the weight of the places that follow
weigh_step : (n v p x : ℕ) → (n * 10 + v) * p + x ≡ n * (10 * p) + ((0 * 10 + v) * p + x)
weigh_step n v p x = grind arith

weighed : (n : ℕ) (ds : List ℕ) → digits_value_after 10 n ds ≡ n * 10 ^ length ds + digits_value_after 10 0 ds
weighed n [] = omega arith
weighed n (c ∷ ds) =
    let e : digits_value_after 10 (n * 10 + digit_value c) ds ≡ (n * 10 + digit_value c) * 10 ^ length ds + digits_value_after 10 0 ds = weighed (n * 10 + digit_value c) ds in
    let f : digits_value_after 10 (0 * 10 + digit_value c) ds ≡ (0 * 10 + digit_value c) * 10 ^ length ds + digits_value_after 10 0 ds = weighed (0 * 10 + digit_value c) ds in
    let g : (n * 10 + digit_value c) * 10 ^ length ds + digits_value_after 10 0 ds ≡ n * (10 * 10 ^ length ds) + ((0 * 10 + digit_value c) * 10 ^ length ds + digits_value_after 10 0 ds) = weigh_step n (digit_value c) (10 ^ length ds) (digits_value_after 10 0 ds) in
    let p : 10 ^ suc (length ds) ≡ 10 * 10 ^ length ds = let b : suc (length ds) ≡ 1 + length ds = omega arith in ap (λ i. 10 ^ i) b ∙ pow-add 10 1 (length ds) in
    e ∙ g ∙ ap (λ y. n * (10 * 10 ^ length ds) + y) (sym f) ∙ ap (λ q. n * q + digits_value_after 10 (0 * 10 + digit_value c) ds) (sym p)

-- ---- the literal that a number prints

abbrev pub sign_for : Bool → Option Sign
sign_for true = Some Minus
sign_for false = None

abbrev pub fraction_for : Bool → ℕ → ℕ → List ℕ
fraction_for true width n = filled width n
fraction_for false width n = []

-- a number by its sign, its size and its scale
abbrev pub literal_for : Num → Literal
literal_for n = record {
  sign = sign_for (int_lt n.coef (pos 0));
  whole = decimal (unsigned_abs n.coef / 10 ^ n.scale);
  fraction = fraction_for (nat_lt 0 n.scale) n.scale (unsigned_abs n.coef % 10 ^ n.scale);
  pointed = nat_lt 0 n.scale;
}

printed_by : (a b : Bool) (w : List ℕ) (s m : ℕ) → sign_text (sign_for a) ++ w ++ point_text b ++ fraction_for b s m ≡ (if a then 45 ∷ [] else []) ++ w ++ (if b then 46 ∷ filled s m else [])
printed_by true true w s m = append_assoc (45 ∷ [] ++ w) (46 ∷ []) (filled s m)
printed_by true false w s m = append-nil (45 ∷ [] ++ w ++ [])
printed_by false true w s m = append_assoc ([] ++ w) (46 ∷ []) (filled s m)
printed_by false false w s m = append-nil ([] ++ w ++ [])

literal_text-for : (n : Num) → literal_text (literal_for n) ≡ printed n
literal_text-for n = printed_by (int_lt n.coef (pos 0)) (nat_lt 0 n.scale) (decimal (unsigned_abs n.coef / 10 ^ n.scale)) n.scale (unsigned_abs n.coef % 10 ^ n.scale)

fraction_passes : (b : Bool) (s m : ℕ) → m < 2 ^ 64 → list_all is_ascii_digit (fraction_for b s m) ≡ true
fraction_passes true s m h = filled_digits s m h
fraction_passes false s m h = refl

no_fraction_for : (b : Bool) (s m : ℕ) → b ≡ false → fraction_for b s m ≡ []
no_fraction_for true s m e = absurd (cc)
no_fraction_for false s m e = refl

length-fraction : (b : Bool) (s m : ℕ) → nat_lt 0 s ≡ b → m < 10 ^ s → m < 2 ^ 64 → length (fraction_for b s m) ≡ s
length-fraction true s m e h small = length-filled s m (ltb-true 0 s e) h small
length-fraction false s m e h small = let f : s ≤ 0 = ltb-false 0 s e in omega arith

digits_value-fraction : (b : Bool) (s m : ℕ) → nat_lt 0 s ≡ b → m < 10 ^ s → m < 2 ^ 64 → digits_value 10 (fraction_for b s m) ≡ m
digits_value-fraction true s m e h small = digits_value-filled s m small
digits_value-fraction false s m e h small =
    let f : s ≡ 0 = let g : s ≤ 0 = ltb-false 0 s e in omega arith in
    let k : 10 ^ s ≡ 1 = ap (λ i. 10 ^ i) f in
    omega (arith, h, k)

-- whole and fraction spell the size
digits_value-parts : (size s : ℕ) → size < 10 ^ 18
    → digits_value 10 (decimal (size / 10 ^ s) ++ fraction_for (nat_lt 0 s) s (size % 10 ^ s)) ≡ size
digits_value-parts size s small =
    let p : 0 < 10 ^ s = power_pos s in
    let q : ℕ = size / 10 ^ s in
    let m : ℕ = size % 10 ^ s in
    let f : List ℕ = fraction_for (nat_lt 0 s) s m in
    let below : m < 10 ^ s = mod_below size (10 ^ s) p in
    let whole : 10 ^ s * q + m ≡ size = omega (arith, p) in
    let m_small : m < 2 ^ 64 = omega (arith, whole, small) in
    let q_small : q < 2 ^ 64 = grind (arith, whole, small, p) in
    let len : length f ≡ s = length-fraction (nat_lt 0 s) s m refl below m_small in
    let spelled : digits_value 10 f ≡ m = digits_value-fraction (nat_lt 0 s) s m refl below m_small in
    digits_value-append 0 (decimal q) f
    ∙ ap (λ v. digits_value_after 10 v f) (digits_value-decimal own q q_small)
    ∙ weighed q f
    ∙ ap (λ i. q * 10 ^ i + digits_value 10 f) len
    ∙ ap (λ v. q * 10 ^ s + v) spelled
    ∙ omega (arith, whole)

signed-abs : (z : ℤ) → signed (is_minus (sign_for (int_lt z (pos 0)))) (unsigned_abs z) ≡ z
signed-abs (pos n) = let e : nat_lt n 0 ≡ false = search rules in rw e
signed-abs (negsuc n) = refl

-- ---- the law

module _ (n : Num) (scale_bound : n.scale ≤ 18) (size_bound : unsigned_abs n.coef < 10 ^ 18) where
  unit_pos : 0 < 10 ^ n.scale
  unit_pos = power_pos n.scale

  fraction_bound : unsigned_abs n.coef % 10 ^ n.scale < 10 ^ n.scale
  fraction_bound = mod_below (unsigned_abs n.coef) (10 ^ n.scale) unit_pos

  parts_is : 10 ^ n.scale * (unsigned_abs n.coef / 10 ^ n.scale) + unsigned_abs n.coef % 10 ^ n.scale ≡ unsigned_abs n.coef
  parts_is = let p : 0 < 10 ^ n.scale = unit_pos in omega (arith, p)

  fraction_small : unsigned_abs n.coef % 10 ^ n.scale < 2 ^ 64
  fraction_small = omega (arith, parts_is, size_bound)

  whole_small : unsigned_abs n.coef / 10 ^ n.scale < 2 ^ 64
  whole_small = grind (arith, parts_is, size_bound, unit_pos)

  whole_written : 0 < length (decimal (unsigned_abs n.coef / 10 ^ n.scale))
  whole_written = decimal_nonempty (unsigned_abs n.coef / 10 ^ n.scale) whole_small

  fraction_written : length (literal_for n).fraction ≡ n.scale
  fraction_written = length-fraction (nat_lt 0 n.scale) n.scale (unsigned_abs n.coef % 10 ^ n.scale) refl fraction_bound fraction_small

  pub spells-printed : Spells (printed n) (literal_for n)
  spells-printed = record {
    form = record {
      whole_digits = digits_decimal own (unsigned_abs n.coef / 10 ^ n.scale) whole_small;
      fraction_digits = fraction_passes (nat_lt 0 n.scale) n.scale (unsigned_abs n.coef % 10 ^ n.scale) fraction_small;
      some_digit = omega (arith, whole_written);
      no_fraction = no_fraction_for (nat_lt 0 n.scale) n.scale (unsigned_abs n.coef % 10 ^ n.scale);
    };
    spelling = literal_text-for n;
  }

  same_num : (c d : ℤ) (s t : ℕ) → c ≡ d → s ≡ t → ◌≡◌ {A = Num} (record { coef = c; scale = s }) (record { coef = d; scale = t })
  same_num c d s t e f = rw (e, f)

  pub literal_value-printed : literal_value (literal_for n) ≡ n
  literal_value-printed =
      same_num (literal_value (literal_for n)).coef n.coef (length (literal_for n).fraction) n.scale
      (ap (signed (is_minus (sign_for (int_lt n.coef (pos 0))))) (digits_value-parts (unsigned_abs n.coef) n.scale size_bound) ∙ signed-abs n.coef)
      fraction_written

  -- the digits before the point fill what the scale leaves
  whole_length : n.scale < 18 → length (decimal (unsigned_abs n.coef / 10 ^ n.scale)) ≤ 18 - n.scale
  whole_length below =
      let p : 10 ^ 18 ≡ 10 ^ (18 - n.scale) * 10 ^ n.scale = let e : 18 ≡ 18 - n.scale + n.scale = omega arith in ap (λ i. 10 ^ i) e ∙ pow-add 10 (18 - n.scale) n.scale in
      let room : unsigned_abs n.coef < 10 ^ (18 - n.scale) * 10 ^ n.scale = omega (arith, p, size_bound) in
      length-decimal-le (18 - n.scale) (unsigned_abs n.coef / 10 ^ n.scale) (omega arith)
      (div_below (unsigned_abs n.coef) (10 ^ n.scale) (10 ^ (18 - n.scale)) unit_pos room) whole_small

  few_digits : n.scale < 18 → literal_digits (literal_for n) ≤ 18
  few_digits below = let k : length (decimal (unsigned_abs n.coef / 10 ^ n.scale)) ≤ 18 - n.scale = whole_length below in omega (arith, k, fraction_written)

  many_digits : n.scale ≡ 18 → 18 < literal_digits (literal_for n)
  many_digits full = omega (arith, whole_written, fraction_written, full)

  pub literal_number-printed : n.scale < 18 → literal_number (literal_for n) ≡ Ok n
  literal_number-printed below =
      ap (λ b. if b then Ok (literal_value (literal_for n)) else Err Range) (le-leb (literal_digits (literal_for n)) 18 (few_digits below))
      ∙ ap (λ v. Ok v) literal_value-printed

  pub literal_number-full : n.scale ≡ 18 → literal_number (literal_for n) ≡ Err Range
  literal_number-full full =
      ap (λ b. if b then Ok (literal_value (literal_for n)) else Err Range) (lt-leb (literal_digits (literal_for n)) 18 (many_digits full))
