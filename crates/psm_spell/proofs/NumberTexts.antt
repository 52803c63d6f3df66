-- What is written of a number that a literal can have is a literal of it with as many digits as a file may have.
use Rattle.std.proofs.Common.{◌≡◌, ℕ, ◌+◌, ◌*◌, ◌<◌, ◌≤◌, ◌/◌, ◌%◌, ◌^◌, pos, Bool, true, false, not, ◌&&◌, cond, nat_lt, List, [], ◌∷◌, ◌++◌, length, Option, None, refl, sym, ap, subst, ◌∙◌, ltb-true, ltb-false, lt-ltb, rules, arith}
use Rattle.std.specs.Prelude.{decimal}
use Rattle.std.specs.Char.{is_ascii_digit}
use Rattle.std.specs.List.{list_all}
use Rattle.std.specs.Str.Parse.{digits_value}
use Rattle.std.proofs.lemmas.Fmt.{decimal-digits_value}
use Rattle.std.proofs.lemmas.List.{length-append}
use Rattle.std.proofs.lemmas.List.Folds.{list_all-append}
use Rattle.std.proofs.lemmas.Nat.{div_below}
use Rattle.std.proofs.lemmas.Str.Parse.{digits_value_short}
use Rattle.psm_num.specs.Literal.{Literal, IsLiteral, Sign, literal_text, literal_value}
use Rattle.psm_num.specs.Num.{Num}
use Rattle.psm_num.specs.Printed.{printed, filled, decimals_of}
use Rattle.psm_num.proofs.Digits.{own}
use Rattle.psm_num.proofs.Literals.{and_first, and_second}
use Rattle.psm_num.proofs.Powers.{power_pos}
use Rattle.psm_num.proofs.RoundTrip.{sign_for, fraction_for, literal_for, spells-printed, literal_value-printed, literal_number-printed}
use Rattle.psm_token.specs.declared.token.Token.TheVariants.{Number}
use Rattle.psm_token.specs.Forms.{IsToken}
use Rattle.psm_token.specs.Fronts.{front_of}
use Rattle.psm_token.proofs.Runs.{number_ok}
use Rattle.psm_spell.specs.Written.{is_fraction, number_text, IsSpellableNumber}
use Rattle.psm_spell.proofs.Numerals.{plain, numeral_stands}
use Rattle.psm_spell.proofs.Stops.{stops}

-- a literal without a sign that is written so
record IsNumeral (text : List ℕ) (d : Num) : Type 0 where
  whole : List ℕ
  fraction : List ℕ
  pointed : Bool
  form : IsLiteral (plain whole fraction pointed)
  limit : length whole + length fraction ≤ 18
  spelled : literal_text (plain whole fraction pointed) ≡ text
  value : literal_value (plain whole fraction pointed) ≡ d

and_true : (a b : Bool) → (a && true && b) ≡ (a && b)
and_true true b = refl
and_true false b = refl

pub decimal_none : decimal 0 ≡ 48 ∷ []
decimal_none = decimal-digits_value own (48 ∷ []) refl (omega arith) (λ e. refl) (omega arith)

-- a number below a power of ten has no whole part there
module _ (v s : ℕ) (small : v < 10 ^ s) where
  pub no_whole : v / 10 ^ s ≡ 0
  no_whole = let below : v / 10 ^ s < 1 = div_below v (10 ^ s) 1 (power_pos s) (omega (arith, small)) in omega (arith, below)

  pub all_rest : v % 10 ^ s ≡ v
  all_rest =
      let p : 0 < 10 ^ s = power_pos s in
      let parts : 10 ^ s * (v / 10 ^ s) + v % 10 ^ s ≡ v = omega (arith, p) in
      omega (arith, parts, ap (λ (q : ℕ). 10 ^ s * q) no_whole)

module _ (v s : ℕ) (scale_bound : s ≤ 18) (size_bound : v < 10 ^ 18) where
  abbrev n : Num
  n = record { coef = pos v; scale = s }

  abbrev l : Literal
  l = literal_for n

  no_minus : nat_lt v 0 ≡ false
  no_minus = search rules

  fraction_size : length l.fraction ≡ s
  fraction_size = ap (λ (m : Num). m.scale) (literal_value-printed n scale_bound size_bound)

  -- the worth of digits after a whole part with a sign or none
  abbrev worth : Bool → List ℕ → Num
  worth b w = literal_value (record { sign = sign_for b; whole = w; fraction = l.fraction; pointed = true })

  below_one : nat_lt 0 s ≡ true → nat_lt v (10 ^ s) ≡ true → IsNumeral (decimals_of s v) n
  below_one some small =
      let lt : v < 10 ^ s = ltb-true v (10 ^ s) small in
      record {
        whole = [];
        fraction = l.fraction;
        pointed = true;
        form = record {
          whole_digits = refl;
          fraction_digits = (spells-printed n scale_bound size_bound).form.fraction_digits;
          some_digit = omega (arith, fraction_size, ltb-true 0 s some);
          no_fraction = λ e. absurd cc;
        };
        limit = omega (arith, fraction_size, scale_bound);
        spelled = ap (λ (b : Bool). 46 ∷ fraction_for b s (v % 10 ^ s)) some ∙ ap (λ (m : ℕ). 46 ∷ filled s m) (all_rest v s lt)
            ∙ sym (ap (λ (b : Bool). cond b (46 ∷ filled s v) []) some);
        value = sym (ap (λ (b : Bool). worth b (decimal (v / 10 ^ s))) no_minus ∙ ap (λ (q : ℕ). worth false (decimal q)) (no_whole v s lt) ∙ ap (worth false) decimal_none) ∙ literal_value-printed n scale_bound size_bound;
      }

  not_full : (nat_lt 0 s && nat_lt v (10 ^ s)) ≡ false → s < 18
  not_full e = by (nat_lt s 18) refl
    where
      by : (b : Bool) → nat_lt s 18 ≡ b → s < 18
      by true f = ltb-true s 18 f
      by false f =
          let full : s ≡ 18 = omega (arith, ltb-false s 18 f, scale_bound) in
          let no : nat_lt v (10 ^ 18) ≡ false = subst (λ (k : ℕ). (nat_lt 0 k && nat_lt v (10 ^ k)) ≡ false) full e in
          let yes : nat_lt v (10 ^ 18) ≡ true = lt-ltb v (10 ^ 18) size_bound in
          absurd cc

  with_whole : (nat_lt 0 s && nat_lt v (10 ^ s)) ≡ false → IsNumeral (printed n) n
  with_whole e =
      let spelled = spells-printed n scale_bound size_bound in
      record {
        whole = l.whole;
        fraction = l.fraction;
        pointed = l.pointed;
        form = record {
          whole_digits = spelled.form.whole_digits;
          fraction_digits = spelled.form.fraction_digits;
          some_digit = spelled.form.some_digit;
          no_fraction = spelled.form.no_fraction;
        };
        limit = (number_ok l n (sym (literal_number-printed n scale_bound size_bound (not_full e)))).0;
        spelled = sym (ap (λ (b : Bool). literal_text (record { sign = sign_for b; whole = l.whole; fraction = l.fraction; pointed = l.pointed })) no_minus) ∙ spelled.spelling;
        value = sym (ap (λ (b : Bool). worth b (decimal (v / 10 ^ s))) no_minus) ∙ literal_value-printed n scale_bound size_bound;
      }

  numeral : IsNumeral (number_text n) n
  numeral = subst (λ (b : Bool). IsNumeral (cond b (decimals_of s v) (printed n)) n) (sym test) (by (nat_lt 0 s && nat_lt v (10 ^ s)) refl)
    where
      test : is_fraction n ≡ (nat_lt 0 s && nat_lt v (10 ^ s))
      test = ap (λ (m : Bool). nat_lt 0 s && not m && nat_lt v (10 ^ s)) no_minus ∙ and_true (nat_lt 0 s) (nat_lt v (10 ^ s))

      by : (b : Bool) → (nat_lt 0 s && nat_lt v (10 ^ s)) ≡ b → IsNumeral (cond b (decimals_of s v) (printed n)) n
      by true e = below_one (and_first (nat_lt 0 s) (nat_lt v (10 ^ s)) e) (and_second (nat_lt 0 s) (nat_lt v (10 ^ s)) e)
      by false e = with_whole e

stands_so : (text rest : List ℕ) (d : Num) → stops rest ≡ true → IsNumeral text d → IsToken (front_of false (text ++ rest)) (text ++ rest) (length text) (Number d)
stands_so text rest d end h =
    subst (λ (x : List ℕ). IsToken (front_of false (x ++ rest)) (x ++ rest) (length x) (Number d)) h.spelled
    (numeral_stands h.whole h.fraction h.pointed rest (Number d) end h.form h.limit (ap (λ (m : Num). Number m) (sym h.value)))

-- the value of a literal without a sign
unsigned_value : (l : Literal) → l.sign ≡ None → literal_value l ≡ record { coef = pos (digits_value 10 (l.whole ++ l.fraction)); scale = length l.fraction }
unsigned_value l e = ap (λ (g : Option Sign). literal_value (record { sign = g; whole = l.whole; fraction = l.fraction; pointed = l.pointed })) e

pub number_stands : (d : Num) (rest : List ℕ) → IsSpellableNumber d → stops rest ≡ true
    → IsToken (front_of false (number_text d ++ rest)) (number_text d ++ rest) (length (number_text d)) (Number d)
number_stands d rest h end =
    let w = h.literal.whole in
    let f = h.literal.fraction in
    let digits : list_all is_ascii_digit (w ++ f) ≡ true = list_all-append is_ascii_digit w f ∙ rw (h.form.whole_digits, h.form.fraction_digits) refl in
    let small : digits_value 10 (w ++ f) < 10 ^ 18 = digits_value_short own (w ++ f) 18 digits (omega (arith, length-append w f, h.limit)) in
    let at : Num = record { coef = pos (digits_value 10 (w ++ f)); scale = length f } in
    let same : d ≡ at = h.value ∙ unsigned_value h.literal h.unsigned in
    stands_so (number_text d) rest d end (subst (λ (m : Num). IsNumeral (number_text m) m) (sym same) (numeral (digits_value 10 (w ++ f)) (length f) (omega (arith, h.limit)) small))
