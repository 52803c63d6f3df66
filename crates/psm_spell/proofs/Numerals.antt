-- Numbers stand where they are written.
use Rattle.std.proofs.Common.{◌≡◌, ℕ, ◌+◌, ◌≤◌, Bool, true, false, cond, List, [], ◌∷◌, ◌++◌, length, take, drop, None, refl, sym, ap, subst, ◌∙◌, append_assoc, arith}
use Rattle.std.specs.Char.{is_ascii_digit, is_ascii_alphabetic}
use Rattle.std.specs.List.{prefix_len, list_all}
use Rattle.std.proofs.Math.Seq.{take-append_seam, drop-append_seam}
use Rattle.std.proofs.lemmas.List.{length-append}
use Rattle.psm_num.specs.Literal.{Literal, IsLiteral, point_text, literal_text, literal_digits, literal_value}
use Rattle.psm_num.proofs.Literals.{and_first}
use Rattle.psm_token.specs.declared.token.Token.{Token}
use Rattle.psm_token.specs.declared.token.Token.TheVariants.{Number}
use Rattle.psm_token.specs.Characters.{is_separator, is_name_letter, begins}
use Rattle.psm_token.specs.Forms.{IsToken, IsNumberForm}
use Rattle.psm_token.specs.Fronts.{front_of}
use Rattle.psm_token.specs.Numbers.{digits_at, after_digits, is_point, fraction_at, literal_at, fraction_len, literal_len}
use Rattle.psm_token.proofs.Looking.{chosen}
use Rattle.psm_spell.proofs.Plain.{run_of}
use Rattle.psm_spell.proofs.Stops.{stops, no_digit, no_letter, no_point}

-- ---- digits, up to a character that is none

digits_of : (ds rest : List ℕ) → list_all is_ascii_digit ds ≡ true → begins is_ascii_digit rest ≡ false → digits_at (ds ++ rest) ≡ ds
digits_of ds rest h e = ap (λ (n : ℕ). take n (ds ++ rest)) (run_of is_ascii_digit ds rest h e) ∙ take-append_seam ds rest

after_of : (ds rest : List ℕ) → list_all is_ascii_digit ds ≡ true → begins is_ascii_digit rest ≡ false → after_digits (ds ++ rest) ≡ rest
after_of ds rest h e = ap (λ (n : ℕ). drop n (ds ++ rest)) (run_of is_ascii_digit ds rest h e) ∙ drop-append_seam ds rest

no_fraction_at : (ds : List ℕ) → begins is_point ds ≡ false → fraction_at ds ≡ []
no_fraction_at [] h = refl
no_fraction_at (c ∷ ds) h = ap (λ (t : Bool). cond t (digits_at ds) []) h

no_fraction_len : (ds : List ℕ) → begins is_point ds ≡ false → fraction_len ds ≡ 0
no_fraction_len [] h = refl
no_fraction_len (c ∷ ds) h = ap (λ (t : Bool). cond t (1 + prefix_len is_ascii_digit ds) 0) h

-- ---- a literal, and characters at which it ends

abbrev pub plain : List ℕ → List ℕ → Bool → Literal
plain w f b = record { sign = None; whole = w; fraction = f; pointed = b }

-- the longest literal at the front is this one
record IsAt (l : Literal) (cs : List ℕ) : Type 0 where
  longest : literal_at cs ≡ l
  size : literal_len cs ≡ length (literal_text l)

same_literal : (w f v g : List ℕ) (a b : Bool) → w ≡ v → f ≡ g → a ≡ b → plain w f a ≡ plain v g b
same_literal w f v g a b d e h = rw (d, e, h) refl

parts_at : (w f : List ℕ) (b : Bool) (rest : List ℕ) → stops rest ≡ true → list_all is_ascii_digit w ≡ true → list_all is_ascii_digit f ≡ true → (b ≡ false → f ≡ [])
    → IsAt (plain w f b) (w ++ (point_text b ++ (f ++ rest)))
parts_at w f true rest end hw hf none =
    let cs : List ℕ = w ++ 46 ∷ (f ++ rest) in
    let following : after_digits cs ≡ 46 ∷ (f ++ rest) = after_of w (46 ∷ (f ++ rest)) hw refl in
    record {
      longest = same_literal (digits_at cs) (fraction_at (after_digits cs)) w f (begins is_point (after_digits cs)) true
          (digits_of w (46 ∷ (f ++ rest)) hw refl) (ap fraction_at following ∙ digits_of f rest hf (no_digit rest end)) (ap (begins is_point) following);
      size = omega (
        arith,
        run_of is_ascii_digit w (46 ∷ (f ++ rest)) hw refl,
        ap fraction_len following,
        run_of is_ascii_digit f rest hf (no_digit rest end),
        length-append (w ++ 46 ∷ []) f,
        length-append w (46 ∷ []),
      );
    }
parts_at w f false rest end hw hf none =
    let nil : f ≡ [] = none refl in
    let cs : List ℕ = w ++ rest in
    let following : after_digits cs ≡ rest = after_of w rest hw (no_digit rest end) in
    let at : IsAt (plain w [] false) cs = record {
      longest = same_literal (digits_at cs) (fraction_at (after_digits cs)) w [] (begins is_point (after_digits cs)) false
          (digits_of w rest hw (no_digit rest end)) (ap fraction_at following ∙ no_fraction_at rest (no_point rest end)) (ap (begins is_point) following ∙ no_point rest end);
      size = omega (
        arith,
        run_of is_ascii_digit w rest hw (no_digit rest end),
        ap fraction_len following,
        no_fraction_len rest (no_point rest end),
        length-append (w ++ []) [],
        length-append w [],
      );
    } in
    subst (λ (g : List ℕ). IsAt (plain w g false) (w ++ (g ++ rest))) (sym nil) at

module _ (w f : List ℕ) (b : Bool) (good : IsLiteral (plain w f b)) where
  numeral_at : (rest : List ℕ) → stops rest ≡ true → IsAt (plain w f b) (literal_text (plain w f b) ++ rest)
  numeral_at rest end =
      let e : literal_text (plain w f b) ++ rest ≡ w ++ (point_text b ++ (f ++ rest)) =
      append_assoc (w ++ point_text b) f rest ∙ append_assoc w (point_text b) (f ++ rest) in
      subst (IsAt (plain w f b)) (sym e) (parts_at w f b rest end good.whole_digits good.fraction_digits good.no_fraction)

  numeral_form : (rest : List ℕ) (t : Token) → stops rest ≡ true → length w + length f ≤ 18 → t ≡ Number (literal_value (plain w f b))
      → IsNumberForm (literal_text (plain w f b) ++ rest) (length (literal_text (plain w f b))) t
  numeral_form rest t end few e =
      let at = numeral_at rest end in
      record {
        size = sym at.size;
        limit = omega (arith, few, ap literal_digits at.longest);
        apart = ap (begins is_name_letter) (drop-append_seam (literal_text (plain w f b)) rest) ∙ no_letter rest end;
        value = e ∙ ap (λ (l : Literal). Number (literal_value l)) (sym at.longest);
      }

-- ---- what stands at the front of a literal

digit_chosen : (s l d q k m p : Bool) (cs : List ℕ) (n : ℕ) (t : Token) → s ≡ false → l ≡ false → d ≡ true → IsNumberForm cs n t → IsToken (chosen s l d q k m p) cs n t
digit_chosen true l d q k m p cs n t es el ed h = absurd cc
digit_chosen false true d q k m p cs n t es el ed h = absurd cc
digit_chosen false false true q k m p cs n t es el ed h = h
digit_chosen false false false q k m p cs n t es el ed h = absurd cc

digit_apart : (c : ℕ) → is_ascii_digit c ≡ true → is_separator c ≡ false
digit_apart c h = grind (arith, h)

digit_no_letter : (c : ℕ) → is_ascii_digit c ≡ true → is_ascii_alphabetic c ≡ false
digit_no_letter c h = grind (arith, h)

numeral_front : (w f : List ℕ) (b : Bool) (rest cs : List ℕ) (n : ℕ) (t : Token) → IsLiteral (plain w f b) → IsNumberForm cs n t
    → IsToken (front_of false (literal_text (plain w f b) ++ rest)) cs n t
numeral_front (x ∷ w) f b rest cs n t good h =
    let d : is_ascii_digit x ≡ true = and_first (is_ascii_digit x) (list_all is_ascii_digit w) good.whole_digits in
    digit_chosen (is_separator x) (is_ascii_alphabetic x) (is_ascii_digit x) _ _ _ _ cs n t (digit_apart x d) (digit_no_letter x d) d h
numeral_front [] (x ∷ f) true rest cs n t good h =
    subst (λ (p : Bool). IsToken (chosen false false false false false false p) cs n t) (sym (and_first (is_ascii_digit x) (list_all is_ascii_digit f) good.fraction_digits)) h
numeral_front [] [] b rest cs n t good h = let some = good.some_digit in absurd (omega arith)
numeral_front [] (x ∷ f) false rest cs n t good h = let nil = good.no_fraction refl in absurd cc

pub numeral_stands : (w f : List ℕ) (b : Bool) (rest : List ℕ) (t : Token) → stops rest ≡ true → IsLiteral (plain w f b) → length w + length f ≤ 18 → t ≡ Number (literal_value (plain w f b))
    → IsToken (front_of false (literal_text (plain w f b) ++ rest)) (literal_text (plain w f b) ++ rest) (length (literal_text (plain w f b))) t
numeral_stands w f b rest t end good few e = numeral_front w f b rest _ _ t good (numeral_form w f b good rest t end few e)
