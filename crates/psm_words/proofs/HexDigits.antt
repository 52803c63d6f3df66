-- Capital hexadecimal digits, from the first to the last.
use Rattle.std.proofs.Common.{◌≡◌, ℕ, zero, suc, ◌+◌, ◌*◌, ◌/◌, ◌%◌, ◌^◌, ◌<◌, ◌≤◌, true, cond, List, [], ◌∷◌, ◌++◌, Some, refl, sym, ap, ◌∙◌, append_assoc, arith, inl, inr}
use Rattle.std.specs.Fmt.{digit_glyph, digits_onto, digits}
use Rattle.std.proofs.lemmas.Bool.{cases_lt, eq-eqb, ne_eqb, lt-ltb, le-ltb}
use Rattle.std.proofs.lemmas.Fmt.{hex_one_digit}
use Rattle.psm_words.specs.Reading.{hex_digit}

abbrev pub glyph : ℕ → ℕ
glyph d = digit_glyph true d

abbrev spell : ℕ → ℕ → List ℕ → List ℕ
spell k n acc = digits_onto k 16 true n acc

spell_last : (k n : ℕ) (acc : List ℕ) → n < 16 → spell (suc k) n acc ≡ glyph (n % 16) ∷ acc
spell_last k n acc h = ap (λ t. cond t (glyph (n % 16) ∷ acc) (spell k (n / 16) (glyph (n % 16) ∷ acc))) (eq-eqb (n / 16) 0 (omega arith))

spell_next : (k n : ℕ) (acc : List ℕ) → 16 ≤ n → spell (suc k) n acc ≡ spell k (n / 16) (glyph (n % 16) ∷ acc)
spell_next k n acc h = ap (λ t. cond t (glyph (n % 16) ∷ acc) (spell k (n / 16) (glyph (n % 16) ∷ acc))) (ne_eqb (n / 16) 0 (λ e. omega arith))

spell-append : (k n : ℕ) (acc : List ℕ) → spell k n acc ≡ spell k n [] ++ acc
spell-append zero n acc = refl
spell-append (suc k) n acc =
    elim (cases_lt n 16) [
      | inl l ↦ spell_last k n acc l ∙ ap (λ x. x ++ acc) (sym (spell_last k n [] l))
      | inr l ↦ spell_next k n acc l ∙ spell-append k (n / 16) (glyph (n % 16) ∷ acc) ∙ sym (append_assoc (spell k (n / 16) []) (glyph (n % 16) ∷ []) acc) ∙ ap (λ x. x ++ acc) (sym (spell_next k n [] l ∙ spell-append k (n / 16) (glyph (n % 16) ∷ [])))
    ]

-- more room for digits changes nothing
spell_enough : (j k n : ℕ) (acc : List ℕ) → n < 16 ^ suc j → n < 16 ^ suc k → spell (suc j) n acc ≡ spell (suc k) n acc
spell_enough zero k n acc p q = spell_last zero n acc (omega arith) ∙ sym (spell_last k n acc (omega arith))
spell_enough (suc j) zero n acc p q = spell_last (suc j) n acc (omega arith) ∙ sym (spell_last zero n acc (omega arith))
spell_enough (suc j) (suc k) n acc p q =
    elim (cases_lt n 16) [
      | inl l ↦ spell_last (suc j) n acc l ∙ sym (spell_last (suc k) n acc l)
      | inr l ↦ spell_next (suc j) n acc l ∙ spell_enough j k (n / 16) (glyph (n % 16) ∷ acc) (omega arith) (omega arith) ∙ sym (spell_next (suc k) n acc l)
    ]

hex_is : (n : ℕ) → digits 16 true n ≡ spell 64 n []
unfolding digits
hex_is n = refl

pub hex_step : (n : ℕ) → 16 ≤ n → n < 2 ^ 32 → digits 16 true n ≡ digits 16 true (n / 16) ++ glyph (n % 16) ∷ []
hex_step n h small =
    hex_is n ∙ spell_next 63 n [] h ∙ spell_enough 62 63 (n / 16) (glyph (n % 16) ∷ []) (omega arith) (omega arith) ∙ spell-append 64 (n / 16) (glyph (n % 16) ∷ [])
    ∙ ap (λ x. x ++ glyph (n % 16) ∷ []) (sym (hex_is (n / 16)))

-- a digit more
pub hex_more : (n d : ℕ) → 0 < n → n < 2 ^ 28 → d < 16 → digits 16 true (n * 16 + d) ≡ digits 16 true n ++ glyph d ∷ []
hex_more n d pos small h =
    let front : (n * 16 + d) / 16 ≡ n = omega arith in
    let last : (n * 16 + d) % 16 ≡ d = omega arith in
    hex_step (n * 16 + d) (omega arith) (omega arith) ∙ ap (λ k. digits 16 true k ++ glyph ((n * 16 + d) % 16) ∷ []) front ∙ ap (λ k. digits 16 true n ++ glyph k ∷ []) last

pub hex_one : (d : ℕ) → d < 16 → digits 16 true d ≡ glyph d ∷ []
hex_one d h = hex_one_digit true d h

-- by the digits from the first on
pub hex_by_steps : (P : ℕ → List ℕ → Type 0) → ((n : ℕ) → n < 16 → P n (glyph n ∷ [])) → ((n : ℕ) (ds : List ℕ) → 16 ≤ n → P (n / 16) ds → P n (ds ++ glyph (n % 16) ∷ []))
    → (k n : ℕ) → n < 16 ^ suc k → n < 2 ^ 32 → P n (digits 16 true n)
hex_by_steps P one more zero n h small = let l : n < 16 = omega arith in rw (hex_one n l) (one n l)
hex_by_steps P one more (suc k) n h small =
    elim (cases_lt n 16) [
      | inl l ↦ rw (hex_one n l) (one n l)
      | inr l ↦ rw (hex_step n l small) (more n (digits 16 true (n / 16)) l (hex_by_steps P one more k (n / 16) (omega arith) (omega arith)))
    ]

-- ---- one digit

pub hex_digit-glyph : (d : ℕ) → d < 16 → hex_digit (glyph d) ≡ Some d
hex_digit-glyph d h = elim (cases_lt d 10) [ inl l ↦ small l | inr l ↦ large l ]
  where
    small : d < 10 → hex_digit (glyph d) ≡ Some d
    small l = let e : glyph d ≡ 48 + d = rw (lt-ltb d 10 l) refl in rw e (grind arith)

    large : 10 ≤ d → hex_digit (glyph d) ≡ Some d
    large l = let e : glyph d ≡ 55 + d = rw (le-ltb d 10 l) refl in rw e (grind arith)

pub glyph-hex_digit : (c d : ℕ) → hex_digit c ≡ Some d → (glyph d ≡ c) × (d < 16)
glyph-hex_digit c d e = (grind arith, grind arith)

pub glyph_no_brace : (d : ℕ) → d < 16 → glyph d < 125
glyph_no_brace d h = grind arith
