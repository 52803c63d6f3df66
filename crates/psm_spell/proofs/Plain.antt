-- Words and signs stand where they are written.
use Rattle.std.proofs.Common.{◌≡◌, ℕ, suc, ◌+◌, Bool, true, false, not, ◌&&◌, cond, nat_le, List, [], ◌∷◌, ◌++◌, length, Some, refl, sym, ap, subst, ◌∙◌, one-add}
use Rattle.std.specs.Char.{is_ascii_digit}
use Rattle.std.specs.List.{prefix_len, list_all}
use Rattle.std.proofs.Math.Seq.{take-append_seam}
use Rattle.std.proofs.lemmas.Bool.{leb-true}
use Rattle.psm_num.proofs.Literals.{and_first, and_second}
use Rattle.psm_token.specs.declared.sign.Sign.{Sign as SignOf}
use Rattle.psm_token.specs.declared.sign.Sign.TheVariants.{Less, Greater, Minus, Period}
use Rattle.psm_token.specs.declared.token.Token.{Token}
use Rattle.psm_token.specs.declared.token.Token.TheVariants.{Word, Sign}
use Rattle.psm_token.specs.declared.word.Word.{Word as WordOf}
use Rattle.psm_token.specs.declared.word.Word.TheVariants.{And}
use Rattle.psm_token.specs.Characters.{is_name_part, begins}
use Rattle.psm_token.specs.Forms.{IsToken, IsNameForm, IsSignForm, folded}
use Rattle.psm_token.specs.Fronts.{front_of}
use Rattle.psm_token.specs.Signs.{sign_at, sign_text}
use Rattle.psm_token.specs.Words.{text_of}
use Rattle.psm_token.proofs.Looking.{chosen}
use Rattle.psm_spell.specs.Gaps.{is_open_sign}
use Rattle.psm_spell.proofs.Stops.{stops, no_part, no_digit, no_minus, equal_none, greater_none}

-- characters of a class reach up to one that isn't of it
pub run_of : (p : ℕ → Bool) (xs rest : List ℕ) → list_all p xs ≡ true → begins p rest ≡ false → prefix_len p (xs ++ rest) ≡ length xs
run_of p [] [] h e = refl
run_of p [] (c ∷ rest) h e = ap (λ (t : Bool). cond t (1 + prefix_len p rest) 0) e
run_of p (x ∷ xs) rest h e =
    ap (λ (t : Bool). cond t (1 + prefix_len p (xs ++ rest)) 0) (and_first (p x) (list_all p xs) h)
    ∙ one-add (prefix_len p (xs ++ rest)) ∙ ap (λ (n : ℕ). suc n) (run_of p xs rest (and_second (p x) (list_all p xs) h) e)

-- ---- words

word_parts : (w : WordOf) → list_all is_name_part (text_of w) ≡ true
word_parts And = refl
word_parts w = refl

word_folded : (w : WordOf) → folded (text_of w) ≡ text_of w
word_folded And = refl
word_folded w = refl

word_short : (w : WordOf) → nat_le (length (text_of w)) 128 ≡ true
word_short And = refl
word_short w = refl

word_front : (w : WordOf) (rest cs : List ℕ) (n : ℕ) (t : Token) → IsNameForm cs n t → IsToken (front_of false (text_of w ++ rest)) cs n t
word_front And rest cs n t h = h
word_front w rest cs n t h = h

pub word_stands : (w : WordOf) (rest : List ℕ) → stops rest ≡ true → IsToken (front_of false (text_of w ++ rest)) (text_of w ++ rest) (length (text_of w)) (Word w)
word_stands w rest h = word_front w rest (text_of w ++ rest) (length (text_of w)) (Word w) (record {
  size = sym (run_of is_name_part (text_of w) rest (word_parts w) (no_part rest h));
  limit = leb-true (length (text_of w)) 128 (word_short w);
  value = sym (ap folded (take-append_seam (text_of w) rest) ∙ word_folded w);
})

-- ---- signs, of which `(` and `;` stand before any characters

sign_longest : (s : SignOf) (rest : List ℕ) → (is_open_sign s ≡ false → stops rest ≡ true) → sign_at (sign_text s ++ rest) ≡ Some s
sign_longest Less [] h = refl
sign_longest Less (d ∷ rest) h = rw (greater_none d (h refl), equal_none d (h refl)) refl
sign_longest Greater [] h = refl
sign_longest Greater (d ∷ rest) h = rw (equal_none d (h refl)) refl
sign_longest s [] h = refl
sign_longest s (d ∷ rest) h = refl

point_front : (a b : Bool) (cs : List ℕ) (n : ℕ) (t : Token) → b ≡ false → IsSignForm cs n t → IsToken (chosen false false false false false false (true && not a && b)) cs n t
point_front true b cs n t e h = h
point_front false b cs n t e h = subst (λ (p : Bool). IsToken (chosen false false false false false false p) cs n t) (sym e) h

sign_front : (s : SignOf) (a : Bool) (rest cs : List ℕ) (n : ℕ) (t : Token) → (is_open_sign s ≡ false → stops rest ≡ true) → IsSignForm cs n t → IsToken (front_of a (sign_text s ++ rest)) cs n t
sign_front Minus a rest cs n t f h = subst (λ (m : Bool). IsToken (chosen false false false false false m false) cs n t) (sym (no_minus rest (f refl))) h
sign_front Period a rest cs n t f h = point_front a (begins is_ascii_digit rest) cs n t (no_digit rest (f refl)) h
sign_front s a rest cs n t f h = h

pub sign_stands : (s : SignOf) (a : Bool) (rest : List ℕ) → (is_open_sign s ≡ false → stops rest ≡ true) → IsToken (front_of a (sign_text s ++ rest)) (sign_text s ++ rest) (length (sign_text s)) (Sign s)
sign_stands s a rest f = sign_front s a rest (sign_text s ++ rest) (length (sign_text s)) (Sign s) f (record { sign = s; longest = sign_longest s rest f; size = refl; value = refl })
