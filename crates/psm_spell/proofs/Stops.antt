-- Characters at which a token ends, whichever it is.
use Rattle.std.proofs.Common.{◌≡◌, ℕ, Bool, true, false, ◌||◌, eqb, List, [], ◌∷◌, refl, ap, ◌∙◌}
use Rattle.std.proofs.lemmas.Bool.{eqb-true}
use Rattle.std.specs.Char.{is_ascii_digit}
use Rattle.psm_token.specs.Characters.{is_name_letter, is_name_part, begins}
use Rattle.psm_token.specs.Numbers.{is_point}
use Rattle.psm_token.specs.Quotes.{is_quote}

-- a blank, a line feed, `)`, `,` or `;`
abbrev pub is_stop : ℕ → Bool
is_stop c = eqb c 32 || eqb c 10 || eqb c 41 || eqb c 44 || eqb c 59

-- such a character or none stands at the front
abbrev pub stops : List ℕ → Bool
stops [] = true
stops (c ∷ cs) = is_stop c

begins_none : (p : ℕ → Bool) → ((c : ℕ) → is_stop c ≡ true → p c ≡ false) → (rest : List ℕ) → stops rest ≡ true → begins p rest ≡ false
begins_none p f [] h = refl
begins_none p f (c ∷ rest) h = f c h

-- what none of them passes
none_of : (p : ℕ → Bool) → p 32 ≡ false → p 10 ≡ false → p 41 ≡ false → p 44 ≡ false → p 59 ≡ false → (c : ℕ) → is_stop c ≡ true → p c ≡ false
none_of p blank feed paren comma semicolon c h = by (eqb c 32) (eqb c 10) (eqb c 41) (eqb c 44) (eqb c 59) refl refl refl refl refl h
  where
    by : (a b d e f : Bool) → eqb c 32 ≡ a → eqb c 10 ≡ b → eqb c 41 ≡ d → eqb c 44 ≡ e → eqb c 59 ≡ f → (a || b || d || e || f) ≡ true → p c ≡ false
    by true b d e f ea eb ed ee ef k = ap p (eqb-true c 32 ea) ∙ blank
    by false true d e f ea eb ed ee ef k = ap p (eqb-true c 10 eb) ∙ feed
    by false false true e f ea eb ed ee ef k = ap p (eqb-true c 41 ed) ∙ paren
    by false false false true f ea eb ed ee ef k = ap p (eqb-true c 44 ee) ∙ comma
    by false false false false true ea eb ed ee ef k = ap p (eqb-true c 59 ef) ∙ semicolon
    by false false false false false ea eb ed ee ef k = absurd cc

pub equal_none : (c : ℕ) → is_stop c ≡ true → eqb c 61 ≡ false
equal_none c h = none_of (λ d. eqb d 61) refl refl refl refl refl c h

pub greater_none : (c : ℕ) → is_stop c ≡ true → eqb c 62 ≡ false
greater_none c h = none_of (λ d. eqb d 62) refl refl refl refl refl c h

module _ (rest : List ℕ) (h : stops rest ≡ true) where
  pub no_part : begins is_name_part rest ≡ false
  no_part = begins_none is_name_part (none_of is_name_part refl refl refl refl refl) rest h

  pub no_letter : begins is_name_letter rest ≡ false
  no_letter = begins_none is_name_letter (none_of is_name_letter refl refl refl refl refl) rest h

  pub no_digit : begins is_ascii_digit rest ≡ false
  no_digit = begins_none is_ascii_digit (none_of is_ascii_digit refl refl refl refl refl) rest h

  pub no_point : begins is_point rest ≡ false
  no_point = begins_none is_point (none_of is_point refl refl refl refl refl) rest h

  pub no_minus : begins (eqb 45) rest ≡ false
  no_minus = begins_none (eqb 45) (none_of (eqb 45) refl refl refl refl refl) rest h

  pub no_name_quote : begins (is_quote 34) rest ≡ false
  no_name_quote = begins_none (is_quote 34) (none_of (is_quote 34) refl refl refl refl refl) rest h

  pub no_text_quote : begins (is_quote 39) rest ≡ false
  no_text_quote = begins_none (is_quote 39) (none_of (is_quote 39) refl refl refl refl refl) rest h
