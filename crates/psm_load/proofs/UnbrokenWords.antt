-- The words of a listing have no line feed.
use Rattle.std.proofs.Common.{◌≡◌, ℕ, ◌%◌, ◌^◌, ◌<◌, ◌≤◌, Bool, true, false, ◌&&◌, not, List, [], ◌∷◌, ◌++◌, length, map, Option, Some, None, refl, ap, subst, ◌∙◌, arith, inl, inr}
use Rattle.std.specs.Prelude.{codes, nat_eq, unsigned_abs, if◌then◌else◌}
use Rattle.std.specs.Char.{is_ascii_digit}
use Rattle.std.specs.Fmt.{digits}
use Rattle.std.specs.List.{flat_map, list_all}
use Rattle.std.specs.Str.{all_scalars}
use Rattle.std.proofs.Math.Utf8.{scalar, scalar_cases}
use Rattle.std.proofs.lemmas.Fmt.{decimal_nonempty, digits_decimal}
use Rattle.std.proofs.lemmas.List.Folds.{list_all-append}
use Rattle.psm_num.specs.Literal.{Sign, Plus, Minus, point_text, sign_text}
use Rattle.psm_num.specs.Num.{Num}
use Rattle.psm_num.specs.Printed.{printed}
use Rattle.psm_num.proofs.Digits.{own}
use Rattle.psm_num.proofs.Literals.{and_first, and_second}
use Rattle.psm_num.proofs.RoundTrip.{literal_for, spells-printed}
use Rattle.psm_sqlstate.specs.State.{is_state_character}
use Rattle.psm_value.specs.declared.datum.Datum.{Datum}
use Rattle.psm_value.specs.declared.datum.Datum.TheVariants as data_of
use Rattle.psm_value.specs.declared.sqltype.SqlType.{SqlType}
use Rattle.psm_value.specs.declared.sqltype.SqlType.TheVariants as kinds
use Rattle.psm_exprcode.specs.declared.op.Letter.{Letter}
use Rattle.psm_exprcode.specs.declared.op.Letter.TheVariants as letters
use Rattle.psm_words.specs.Words.{character, datum_word, is_plain, letter_byte, number, quoted, stack_word, type_word, FitsType, IsDatum}
use Rattle.psm_words.proofs.HexDigits.{glyph, hex_by_steps}
use Rattle.psm_object.specs.Words.{flag, further, spaced}
use Rattle.psm_load_line.specs.Heads.{EachIs, IsIndex, IsName}

abbrev pub no_feed : ℕ → Bool
no_feed c = not (nat_eq c 10)

abbrev pub Unbroken : List ℕ → Type 0
Unbroken w = list_all no_feed w ≡ true

-- some characters, and no line feed among them
abbrev is_line : List ℕ → Bool
is_line [] = false
is_line (c ∷ s) = list_all no_feed (c ∷ s)

abbrev pub IsLine : List ℕ → Type 0
IsLine w = is_line w ≡ true

-- ---- several words

pub unbroken_both : (a b : List ℕ) → Unbroken a → Unbroken b → Unbroken (a ++ b)
unbroken_both a b h k = list_all-append no_feed a b ∙ ap (λ t. t && list_all no_feed b) h ∙ k

unbroken_further : (ws : List (List ℕ)) → EachIs Unbroken ws → Unbroken (further ws)
unbroken_further [] h = refl
unbroken_further (w ∷ ws) h = unbroken_both w (further ws) h.0 (unbroken_further ws h.1)

pub line_unbroken : (w : List ℕ) → IsLine w → Unbroken w
line_unbroken [] h = refl
line_unbroken (c ∷ s) h = h

pub line_of_words : (w : List ℕ) (ws : List (List ℕ)) → IsLine w → EachIs Unbroken ws → IsLine (spaced (w ∷ ws))
line_of_words [] ws h k = absurd (cc)
line_of_words (c ∷ s) ws h k = unbroken_both (c ∷ s) (further ws) h (unbroken_further ws k)

pub each_map : {A : Type 0} {V : A → Type 0} (W : List ℕ → Type 0) (write : A → List ℕ) → ((a : A) → V a → W (write a)) → (xs : List A) → EachIs V xs → EachIs W (map write xs)
each_map W write f [] v = tt
each_map W write f (x ∷ xs) v = (f x v.0, each_map W write f xs v.1)

-- ---- characters that aren't a line feed

each_other : (p : ℕ → Bool) → ((c : ℕ) → p c ≡ true → no_feed c ≡ true) → (w : List ℕ) → list_all p w ≡ true → Unbroken w
each_other p f [] h = refl
each_other p f (c ∷ w) h = ap (λ b. b && list_all no_feed w) (f c (and_first (p c) (list_all p w) h)) ∙ each_other p f w (and_second (p c) (list_all p w) h)

digit_other : (c : ℕ) → is_ascii_digit c ≡ true → no_feed c ≡ true
digit_other c h = grind (arith, h)

plain_other : (c : ℕ) → is_plain c ≡ true → no_feed c ≡ true
plain_other c h = grind (arith, h)

state_other : (c : ℕ) → is_state_character c ≡ true → no_feed c ≡ true
state_other c h = grind (arith, h)

glyph_other : (d : ℕ) → d < 16 → no_feed (glyph d) ≡ true
glyph_other d h = grind (arith, h)

unbroken_digits : (ds : List ℕ) → list_all is_ascii_digit ds ≡ true → Unbroken ds
unbroken_digits ds h = each_other is_ascii_digit digit_other ds h

-- ---- numbers, types, states and stacks

unbroken_decimal : (n : ℕ) → n < 2 ^ 64 → Unbroken (number n)
unbroken_decimal n h = unbroken_digits (number n) (digits_decimal own n h)

pub unbroken_number : (n : ℕ) → IsIndex n → Unbroken (number n)
unbroken_number n h = unbroken_decimal n (omega (arith, h))

pub number_line : (n : ℕ) → IsIndex n → IsLine (number n)
number_line n h = by (number n) (decimal_nonempty n (omega (arith, h))) (unbroken_number n h) where
  by : (w : List ℕ) → 0 < length w → Unbroken w → IsLine w
  by [] some k = absurd (omega (arith, some))
  by (c ∷ s) some k = k

pub unbroken_type : (k : SqlType) → FitsType k → Unbroken (type_word k)
unbroken_type kinds.SmallInt v = refl
unbroken_type kinds.Integer v = refl
unbroken_type (kinds.Numeric p s) v =
    let front = codes "NUMERIC(" in
    unbroken_both (front ++ number p ++ codes "," ++ number s) (codes ")")
    (unbroken_both (front ++ number p ++ codes ",") (number s) (unbroken_both (front ++ number p) (codes ",") (unbroken_both front (number p) refl (unbroken_decimal p (omega (arith, v.0)))) refl) (unbroken_decimal s (omega (arith, v.1))))
    refl
unbroken_type (kinds.Char n) v = unbroken_both (codes "CHAR(" ++ number n) (codes ")") (unbroken_both (codes "CHAR(") (number n) refl (unbroken_decimal n (omega (arith, v)))) refl
unbroken_type (kinds.VarChar n) v = unbroken_both (codes "VARCHAR(" ++ number n) (codes ")") (unbroken_both (codes "VARCHAR(") (number n) refl (unbroken_decimal n (omega (arith, v)))) refl

pub unbroken_state : (s : List ℕ) → list_all is_state_character s ≡ true → Unbroken s
unbroken_state s h = each_other is_state_character state_other s h

letter_other : (l : Letter) → no_feed (letter_byte l) ≡ true
letter_other letters.N = refl
letter_other letters.T = refl
letter_other letters.B = refl

unbroken_letters : (ls : List Letter) → Unbroken (map letter_byte ls)
unbroken_letters [] = refl
unbroken_letters (l ∷ ls) = ap (λ b. b && list_all no_feed (map letter_byte ls)) (letter_other l) ∙ unbroken_letters ls

pub stack_line : (ls : List Letter) → IsLine (stack_word ls)
stack_line [] = refl
stack_line (l ∷ ls) = unbroken_letters (l ∷ ls)

pub unbroken_flag : (b : Bool) → Unbroken (flag b)
unbroken_flag false = refl
unbroken_flag true = refl

-- ---- texts and data

unbroken_hex : (c : ℕ) → c < 1114112 → Unbroken (digits 16 true c)
unbroken_hex c h = hex_by_steps (λ m ds. Unbroken ds) (λ m small. ap (λ b. b && true) (glyph_other m small))
    (λ m ds large k. unbroken_both ds (glyph (m % 16) ∷ []) k (ap (λ b. b && true) (glyph_other (m % 16) (omega arith)))) 7 c (omega (arith, h)) (omega (arith, h))

scalar_small : (c : ℕ) → scalar c ≡ true → c < 1114112
scalar_small c h = elim (scalar_cases c h) [ inl l ↦ omega (arith, l) | inr r ↦ r.1 ]

unbroken_character : (c : ℕ) → scalar c ≡ true → Unbroken (character c)
unbroken_character c h = by (is_plain c) refl where
  by : (b : Bool) → is_plain c ≡ b → Unbroken (if b then c ∷ [] else 92 ∷ 123 ∷ digits 16 true c ++ 125 ∷ [])
  by true e = ap (λ b. b && true) (plain_other c e)
  by false e = unbroken_both (digits 16 true c) (125 ∷ []) (unbroken_hex c (scalar_small c h)) refl

unbroken_characters : (t : List ℕ) → all_scalars t ≡ true → Unbroken (flat_map character t)
unbroken_characters [] h = refl
unbroken_characters (c ∷ t) h = unbroken_both (character c) (flat_map character t) (unbroken_character c (and_first (scalar c) (all_scalars t) h)) (unbroken_characters t (and_second (scalar c) (all_scalars t) h))

unbroken_text : (t : List ℕ) → all_scalars t ≡ true → Unbroken (quoted t)
unbroken_text t h = unbroken_both (flat_map character t) (39 ∷ []) (unbroken_characters t h) refl

pub unbroken_name : (t : List ℕ) → IsName t → Unbroken (quoted t)
unbroken_name t v = unbroken_text t v.0

unbroken_sign : (o : Option Sign) → Unbroken (sign_text o)
unbroken_sign None = refl
unbroken_sign (Some Plus) = refl
unbroken_sign (Some Minus) = refl

unbroken_point : (b : Bool) → Unbroken (point_text b)
unbroken_point true = refl
unbroken_point false = refl

unbroken_printed : (n : Num) → n.scale ≤ 18 → unsigned_abs n.coef < 10 ^ 18 → Unbroken (printed n)
unbroken_printed n scale size =
    let l = literal_for n in
    let s = spells-printed n scale size in
    subst Unbroken s.spelling (
    unbroken_both (sign_text l.sign ++ l.whole ++ point_text l.pointed) l.fraction
    (unbroken_both (sign_text l.sign ++ l.whole) (point_text l.pointed) (unbroken_both (sign_text l.sign) l.whole (unbroken_sign l.sign) (unbroken_digits l.whole s.form.whole_digits)) (unbroken_point l.pointed))
    (unbroken_digits l.fraction s.form.fraction_digits)
    )

pub unbroken_datum : (d : Datum) → IsDatum d → Unbroken (datum_word d)
unbroken_datum data_of.Null v = refl
unbroken_datum (data_of.Num n) v = unbroken_printed n v.0 v.1
unbroken_datum (data_of.Text t) v = unbroken_text t v.1
