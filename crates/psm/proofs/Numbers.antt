-- A word that is a number is read as that number, and a few words state no command.
use Rattle.std.proofs.Common.{◌≡◌, ℕ, ◌<◌, ◌≤◌, ◌^◌, Bool, true, false, ◌&&◌, not, List, [], ◌∷◌, length, map, Some, None, Ok, Err, Result, refl, sym, ap, ◌∙◌, arith, rules}
use Rattle.std.specs.Char.{is_ascii_digit}
use Rattle.std.specs.List.{list_all}
use Rattle.std.specs.Global.{Global}
use Rattle.std.specs.Prelude.{String, string_bytes, nat_le, nat_lt, if◌then◌else◌}
use Rattle.std.specs.Str.Parse.{ParsesUnsigned, digits_value}
use Rattle.std.proofs.lemmas.Bool.{leb-true, ltb-true}
use Rattle.std.proofs.lemmas.Str.Parse.{IsNumeralModel, digits_value_short, numerals_by_value, parse_gives}
use Rattle.psm.specs.Words.{begins_with_zero, command_in, is_number, number_of}

-- the test recognizes digits
own : IsNumeralModel (λ ds. list_all is_ascii_digit ds ≡ true) (digits_value 10)
own = numerals_by_value (λ ds. list_all is_ascii_digit ds ≡ true) (search rules)

both : (a b : Bool) → (a && b) ≡ true → (a ≡ true) × (b ≡ true)
both true b h = (refl, h)
both false b h = absurd cc

-- 18 digits are few enough for 64 bits
fits : (bs : List ℕ) → list_all is_ascii_digit bs ≡ true → length bs ≤ 18 → digits_value 10 bs < 2 ^ 64
fits bs h few = let short : digits_value 10 bs < 10 ^ 18 = digits_value_short own bs 18 h few in omega (arith, short)

parsed : {E : Type 0} (bs : List ℕ) (r : Result ℕ E) → ParsesUnsigned 64 10 bs r → is_number bs ≡ true → r ≡ Ok (digits_value 10 bs)
parsed bs r h is =
    let digits = both (list_all is_ascii_digit bs) (nat_lt 0 (length bs) && (nat_le (length bs) 18 && not (begins_with_zero bs))) is in
    let some = both (nat_lt 0 (length bs)) (nat_le (length bs) 18 && not (begins_with_zero bs)) digits.1 in
    let few = both (nat_le (length bs) 18) (not (begins_with_zero bs)) some.1 in
    parse_gives own 64 bs r h digits.0 (ltb-true 0 (length bs) some.0) (fits bs digits.0 (leb-true (length bs) 18 few.0))

is_read : (bs : List ℕ) → is_number bs ≡ true → number_of bs ≡ Some (digits_value 10 bs)
is_read bs is = ap (λ (b : Bool). if b then Some (digits_value 10 bs) else None) is

pub number_read : (E : Type 0) (bs : List ℕ) (n : ℕ) → ParsesUnsigned {E = E} 64 10 bs (Ok n) → is_number bs ≡ true → Some n ≡ number_of bs
number_read E bs n h is = inside (parsed bs (Ok n) h is) ∙ sym (is_read bs is)
  where
    inside : ◌≡◌ {A = Result ℕ E} (Ok n) (Ok (digits_value 10 bs)) → Some n ≡ Some (digits_value 10 bs)
    inside e = cc

pub number_refused : (E : Type 0) (bs : List ℕ) (e : E) → ParsesUnsigned 64 10 bs (Err e) → is_number bs ≡ true → None ≡ number_of bs
number_refused E bs e h is = absurd (never (parsed bs (Err e) h is))
  where
    never : ◌≡◌ {A = Result ℕ E} (Err e) (Ok (digits_value 10 bs)) → ⊥
    never p = cc

-- fewer than two words state no command
pub few_words : (words : List (String Global)) → length words < 2 → command_in (map string_bytes words) ≡ None
few_words [] h = refl
few_words (word ∷ []) h = refl
few_words (word ∷ m ∷ others) h = absurd (omega arith)
