-- A quoted text that is written is read again, and a text that is read was written so.
use Rattle.std.proofs.Common.{◌≡◌, ℕ, ◌+◌, ◌*◌, ◌/◌, ◌%◌, ◌<◌, ◌≤◌, Bool, true, false, ◌&&◌, not, nat_lt, List, [], ◌∷◌, ◌++◌, Option, Some, None, refl, sym, ap, subst, ◌∙◌, append_assoc, arith, inl, inr}
use Rattle.std.specs.Prelude.{nat_eq, if◌then◌else◌}
use Rattle.std.specs.Fmt.{digits}
use Rattle.std.specs.List.{flat_map}
use Rattle.std.specs.Str.{all_scalars}
use Rattle.std.proofs.Math.Utf8.{scalar, low_scalar, scalar_cases}
use Rattle.std.proofs.lemmas.Bool.{lt-ltb, ltb-true, eqb-true, ne_eqb}
use Rattle.std.proofs.lemmas.List.{append-nil}
use Rattle.psm_words.specs.declared.quoting.Within.{Within}
use Rattle.psm_words.specs.declared.quoting.Within.TheVariants as within
use Rattle.psm_words.specs.declared.quoting.Step.{Step}
use Rattle.psm_words.specs.declared.quoting.Step.TheVariants as step
use Rattle.psm_words.specs.Words.{is_plain, character, quoted}
use Rattle.psm_words.specs.Reading.{hex_digit, more_digits, escaped, step_of, after_step, text_on, quoted_at}
use Rattle.psm_words.proofs.HexDigits.{glyph, hex_more, hex_one, hex_by_steps, hex_digit-glyph, glyph-hex_digit, glyph_no_brace}
use Rattle.psm_words.proofs.NumberLaws.{both_true}

-- ---- what is written is read

-- reading goes on with a byte as the step says
read_step : (before : List ℕ) (w : Within) (c : ℕ) (s : List ℕ) (next : Step) → step_of w c ≡ next → text_on before w (c ∷ s) ≡ after_step next before s (λ characters w. text_on characters w s)
read_step before w c s next e = ap (λ n. after_step n before s (λ characters w. text_on characters w s)) e

digit_step : (n d : ℕ) → 0 < n → n < 69632 → d < 16 → step_of (within.CodePoint n) (glyph d) ≡ step.To (within.CodePoint (n * 16 + d))
digit_step n d pos small h =
    let below : glyph d < 125 = glyph_no_brace d h in
    let other : nat_eq (glyph d) 125 ≡ false = ne_eqb (glyph d) 125 (λ e. omega (arith, below, e)) in
    let some : nat_lt 0 n ≡ true = lt-ltb 0 n pos in
    let fits : nat_lt n 69632 ≡ true = lt-ltb n 69632 small in
    rw (other, some, fits) (ap (more_digits n) (hex_digit-glyph d h))

text_on-digits : (before : List ℕ) (n : ℕ) (s : List ℕ) → n < 1114112 → text_on before within.Brace (digits 16 true n ++ s) ≡ text_on before (within.CodePoint n) s
text_on-digits before n s small = hex_by_steps (λ m ds. (s : List ℕ) → m < 1114112 → text_on before within.Brace (ds ++ s) ≡ text_on before (within.CodePoint m) s) one more 7 n (omega arith) (omega arith) s small
  where
    one : (m : ℕ) → m < 16 → (s : List ℕ) → m < 1114112 → text_on before within.Brace ((glyph m ∷ []) ++ s) ≡ text_on before (within.CodePoint m) s
    one m h s le =
        let same : 0 * 16 + m ≡ m = omega arith in
        read_step before within.Brace (glyph m) s (step.To (within.CodePoint (0 * 16 + m))) (ap (more_digits 0) (hex_digit-glyph m h))
        ∙ ap (λ k. text_on before (within.CodePoint k) s) same

    more : (m : ℕ) (ds : List ℕ) → 16 ≤ m → ((s : List ℕ) → m / 16 < 1114112 → text_on before within.Brace (ds ++ s) ≡ text_on before (within.CodePoint (m / 16)) s)
        → (s : List ℕ) → m < 1114112 → text_on before within.Brace ((ds ++ glyph (m % 16) ∷ []) ++ s) ≡ text_on before (within.CodePoint m) s
    more m ds h p s le =
        let whole : m / 16 * 16 + m % 16 ≡ m = omega arith in
        ap (text_on before within.Brace) (append_assoc ds (glyph (m % 16) ∷ []) s)
        ∙ p (glyph (m % 16) ∷ s) (omega arith)
        ∙ read_step before (within.CodePoint (m / 16)) (glyph (m % 16)) s (step.To (within.CodePoint (m / 16 * 16 + m % 16))) (digit_step (m / 16) (m % 16) (omega arith) (omega arith) (omega arith))
        ∙ ap (λ k. text_on before (within.CodePoint k) s) whole

scalar_bound : (c : ℕ) → scalar c ≡ true → c < 1114112
scalar_bound c h = elim (scalar_cases c h) [ inl l ↦ omega arith | inr r ↦ r.1 ]

text_on-character : (before : List ℕ) (c : ℕ) (s : List ℕ) → scalar c ≡ true → text_on before within.Text (character c ++ s) ≡ text_on (before ++ c ∷ []) within.Text s
text_on-character before c s h = by (is_plain c) refl
  where
    by : (p : Bool) → is_plain c ≡ p → text_on before within.Text ((if p then c ∷ [] else 92 ∷ 123 ∷ digits 16 true c ++ 125 ∷ []) ++ s) ≡ text_on (before ++ c ∷ []) within.Text s
    by true e = read_step before within.Text c s (step.Character c) (rw e refl)
    by false e =
        ap (text_on before within.Brace) (append_assoc (digits 16 true c) (125 ∷ []) s)
        ∙ text_on-digits before c (125 ∷ s) (scalar_bound c h)
        ∙ read_step before (within.CodePoint c) 125 s (step.Character c) (rw (h, e) refl)

text_on-characters : (before t rest : List ℕ) → all_scalars t ≡ true → text_on before within.Text (flat_map character t ++ 39 ∷ rest) ≡ Some (before ++ t, rest)
text_on-characters before [] rest h = ap (λ u. Some (u, rest)) (sym (append-nil before))
text_on-characters before (c ∷ t) rest h =
    let both : (scalar c ≡ true) × (all_scalars t ≡ true) = both_true (scalar c) (all_scalars t) h in
    ap (text_on before within.Text) (append_assoc (character c) (flat_map character t) (39 ∷ rest))
    ∙ text_on-character before c (flat_map character t ++ 39 ∷ rest) both.0
    ∙ text_on-characters (before ++ c ∷ []) t rest both.1
    ∙ ap (λ u. Some (u, rest)) (append_assoc before (c ∷ []) t)

pub quoted_again : (t rest : List ℕ) → all_scalars t ≡ true → quoted_at (quoted t ++ rest) ≡ Some (t, rest)
quoted_again t rest h = ap (text_on [] within.Text) (append_assoc (flat_map character t) (39 ∷ []) rest) ∙ text_on-characters [] t rest h

-- ---- what is read is written so

-- the bytes of a character that is begun
abbrev pub begun : Within → List ℕ
begun within.Text = []
begun within.Backslash = 92 ∷ []
begun within.Brace = 92 ∷ 123 ∷ []
begun (within.CodePoint n) = 92 ∷ 123 ∷ digits 16 true n

-- what a step says of the byte
abbrev pub Stepped : Within → ℕ → Step → Type 0
Stepped w c (step.To next) = begun w ++ c ∷ [] ≡ begun next
Stepped w c (step.Character d) = (begun w ++ c ∷ [] ≡ character d) × (scalar d ≡ true)
Stepped w c step.Close = begun w ++ c ∷ [] ≡ 39 ∷ []
Stepped w c step.Wrong = Unit {0}

stepped_digits : (n c : ℕ) (o : Option ℕ) (w : Within) → hex_digit c ≡ o → ((d : ℕ) → d < 16 → glyph d ≡ c → begun w ++ glyph d ∷ [] ≡ 92 ∷ 123 ∷ digits 16 true (n * 16 + d)) → Stepped w c (more_digits n o)
stepped_digits n c None w e h = tt
stepped_digits n c (Some d) w e h =
    let g : (glyph d ≡ c) × (d < 16) = glyph-hex_digit c d e in
    ap (λ k. begun w ++ k ∷ []) (sym g.0) ∙ h d g.1 g.0

stepped_escape : (n : ℕ) → Stepped (within.CodePoint n) 125 (escaped n)
stepped_escape n = by (scalar n) (is_plain n) refl refl
  where
    by : (a b : Bool) → scalar n ≡ a → is_plain n ≡ b → Stepped (within.CodePoint n) 125 (if a && not b then step.Character n else step.Wrong)
    by false b e f = tt
    by true true e f = tt
    by true false e f = (rw f refl, e)

stepped : (w : Within) (c : ℕ) → Stepped w c (step_of w c)
stepped within.Text c = by (is_plain c) (nat_eq c 39) (nat_eq c 92) refl refl refl
  where
    plain_bound : is_plain c ≡ true → c < 128
    plain_bound e = grind arith

    by : (a b d : Bool) → is_plain c ≡ a → nat_eq c 39 ≡ b → nat_eq c 92 ≡ d
        → Stepped within.Text c (if a then step.Character c else if b then step.Close else if d then step.To within.Backslash else step.Wrong)
    by true b d e f g = (rw e refl, low_scalar c (omega (arith, plain_bound e)))
    by false true d e f g = ap (λ k. k ∷ []) (eqb-true c 39 f)
    by false false true e f g = ap (λ k. k ∷ []) (eqb-true c 92 g)
    by false false false e f g = tt
stepped within.Backslash c = by (nat_eq c 123) refl
  where
    by : (a : Bool) → nat_eq c 123 ≡ a → Stepped within.Backslash c (if a then step.To within.Brace else step.Wrong)
    by true e = ap (λ k. 92 ∷ k ∷ []) (eqb-true c 123 e)
    by false e = tt
stepped within.Brace c = stepped_digits 0 c (hex_digit c) within.Brace refl (λ d small e. let same : d ≡ 0 * 16 + d = omega arith in ap (λ l. 92 ∷ 123 ∷ l) (sym (hex_one d small)) ∙ ap (λ k. 92 ∷ 123 ∷ digits 16 true k) same)
stepped (within.CodePoint n) c = by (nat_eq c 125) (nat_lt 0 n) (nat_lt n 69632) refl refl refl
  where
    by : (a b d : Bool) → nat_eq c 125 ≡ a → nat_lt 0 n ≡ b → nat_lt n 69632 ≡ d
        → Stepped (within.CodePoint n) c (if a then escaped n else if b && d then more_digits n (hex_digit c) else step.Wrong)
    by true b d e f g = subst (λ k. Stepped (within.CodePoint n) k (escaped n)) (sym (eqb-true c 125 e)) (stepped_escape n)
    by false false d e f g = tt
    by false true false e f g = tt
    by false true true e f g =
        let pos : 0 < n = ltb-true 0 n f in
        let fits : n < 69632 = ltb-true n 69632 g in
        stepped_digits n c (hex_digit c) (within.CodePoint n) refl (λ k small same. ap (λ l. 92 ∷ 123 ∷ l) (sym (hex_more n k pos (omega arith) small)))

-- what a text that is read says of the bytes
pub record Took (before : List ℕ) (w : Within) (s t rest : List ℕ) : Type 0 where
  pub read : List ℕ
  pub after : t ≡ before ++ read
  pub spelled : begun w ++ s ≡ flat_map character read ++ 39 ∷ rest
  pub scalars : all_scalars read ≡ true

some_is : (x y : List ℕ × List ℕ) → ◌≡◌ {A = Option (List ℕ × List ℕ)} (Some x) (Some y) → x ≡ y
some_is x y e = cc

-- by what the step is, where what follows it is right
took_by : (before : List ℕ) (w : Within) (c : ℕ) (s t rest : List ℕ) (next : Step)
    → ((characters : List ℕ) (w : Within) → text_on characters w s ≡ Some (t, rest) → Took characters w s t rest)
    → Stepped w c next → after_step next before s (λ characters w. text_on characters w s) ≡ Some (t, rest) → Took before w (c ∷ s) t rest
took_by before w c s t rest (step.To next) more h e =
    let k : Took before next s t rest = more before next e in
    record {
      read = k.read;
      after = k.after;
      spelled = sym (append_assoc (begun w) (c ∷ []) s) ∙ ap (λ u. u ++ s) h ∙ k.spelled;
      scalars = k.scalars;
    }
took_by before w c s t rest (step.Character d) more h e =
    let k : Took (before ++ d ∷ []) within.Text s t rest = more (before ++ d ∷ []) within.Text e in
    record {
      read = d ∷ k.read;
      after = k.after ∙ append_assoc before (d ∷ []) k.read;
      spelled = sym (append_assoc (begun w) (c ∷ []) s) ∙ ap (λ u. u ++ s) h.0 ∙ ap (λ u. character d ++ u) k.spelled ∙ sym (append_assoc (character d) (flat_map character k.read) (39 ∷ rest));
      scalars = rw (h.1) k.scalars;
    }
took_by before w c s t rest step.Close more h e =
    let same : ◌≡◌ {A = List ℕ × List ℕ} (before, s) (t, rest) = some_is (before, s) (t, rest) e in
    record {
      read = [];
      after = ap (λ (x : List ℕ × List ℕ). x.0) (sym same) ∙ sym (append-nil before);
      spelled = sym (append_assoc (begun w) (c ∷ []) s) ∙ ap (λ u. u ++ s) h ∙ ap (λ (x : List ℕ × List ℕ). 39 ∷ x.1) same;
      scalars = refl;
    }
took_by before w c s t rest step.Wrong more h e = absurd cc

text_on-takes : (before : List ℕ) (w : Within) (s t rest : List ℕ) → text_on before w s ≡ Some (t, rest) → Took before w s t rest
text_on-takes before w [] t rest e = absurd cc
text_on-takes before w (c ∷ s) t rest e = took_by before w c s t rest (step_of w c) (λ characters next f. text_on-takes characters next s t rest f) (stepped w c) e

pub quoted_takes : (s t rest : List ℕ) → quoted_at s ≡ Some (t, rest) → (s ≡ quoted t ++ rest) × (all_scalars t ≡ true)
quoted_takes [] t rest e = absurd cc
quoted_takes (c ∷ s) t rest e = by (nat_eq c 39) refl e
  where
    by : (a : Bool) → nat_eq c 39 ≡ a → (if a then text_on [] within.Text s else None) ≡ Some (t, rest) → (c ∷ s ≡ quoted t ++ rest) × (all_scalars t ≡ true)
    by false f e = absurd cc
    by true f e =
        let k : Took [] within.Text s t rest = text_on-takes [] within.Text s t rest e in (
          ap (λ n. n ∷ s) (eqb-true c 39 f) ∙ ap (λ u. 39 ∷ u) (k.spelled ∙ ap (λ u. flat_map character u ++ 39 ∷ rest) (sym k.after) ∙ sym (append_assoc (flat_map character t) (39 ∷ []) rest)),
          ap all_scalars k.after ∙ k.scalars,
        )
