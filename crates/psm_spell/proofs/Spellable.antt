-- The tokens of a file can be written.
use Rattle.std.proofs.Common.{◌≡◌, ℕ, zero, suc, ◌+◌, ◌<◌, ◌≤◌, Bool, true, false, not, ◌&&◌, cond, eqb, List, [], ◌∷◌, ◌++◌, length, take, inl, inr, refl, sym, ap, subst, ◌∙◌, arith}
use Rattle.std.specs.Char.{is_ascii_digit, is_ascii_alphabetic, to_ascii_uppercase}
use Rattle.std.specs.List.{list_all}
use Rattle.std.proofs.lemmas.List.{length-map, map-append}
use Rattle.std.proofs.lemmas.List.Folds.{length-prefix_len}
use Rattle.std.proofs.lemmas.List.Sums.{take_while-cons}
use Rattle.psm_token.specs.declared.token.Placed.{Placed}
use Rattle.psm_token.specs.declared.token.Token.{Token}
use Rattle.psm_token.specs.declared.token.Token.TheVariants.{Word, Name, Number, Text, Sign}
use Rattle.psm_token.specs.Characters.{begins, is_separator, is_name_part}
use Rattle.psm_token.specs.Forms.{IsToken, IsWord, IsNumberForm, folded, name_len}
use Rattle.psm_token.specs.Fronts.{front_of}
use Rattle.psm_token.specs.Listed.{Tokens}
use Rattle.psm_token.specs.Numbers.{digits_at, after_digits, is_point, fraction_at, literal_at}
use Rattle.psm_token.specs.Spells.{At, Piece, Pieces, Spells, at_start}
use Rattle.psm_token.proofs.Looking.{chosen, digit_front}
use Rattle.psm_token.proofs.Reaching.{token_moves}
use Rattle.psm_spell.specs.Written.{IsSpellable, AreSpellable, bare}

-- ---- a literal at the front

digits_all : (cs : List ℕ) → list_all is_ascii_digit (digits_at cs) ≡ true
digits_all [] = refl
digits_all (c ∷ cs) = ap (list_all is_ascii_digit) (take_while-cons is_ascii_digit c cs) ∙ by (is_ascii_digit c) refl (digits_all cs)
  where
    by : (b : Bool) → is_ascii_digit c ≡ b → list_all is_ascii_digit (digits_at cs) ≡ true → list_all is_ascii_digit (cond b (c ∷ digits_at cs) []) ≡ true
    by true e all = ap (λ (t : Bool). t && list_all is_ascii_digit (digits_at cs)) e ∙ all
    by false e all = refl

fraction_all : (ds : List ℕ) → list_all is_ascii_digit (fraction_at ds) ≡ true
fraction_all [] = refl
fraction_all (c ∷ ds) = elim (is_point c) as (λ b. list_all is_ascii_digit (cond b (digits_at ds) []) ≡ true) [ true ↦ digits_all ds | false ↦ refl ]

fraction_none : (ds : List ℕ) → begins is_point ds ≡ false → fraction_at ds ≡ []
fraction_none [] h = refl
fraction_none (c ∷ ds) h = ap (λ (t : Bool). cond t (digits_at ds) []) h

number_spellable : (cs : List ℕ) (n : ℕ) (t : Token) → 0 < length (digits_at cs) + length (fraction_at (after_digits cs)) → IsNumberForm cs n t → IsSpellable t
number_spellable cs n t some h = subst IsSpellable (sym h.value) (record {
  literal = literal_at cs;
  form = record {
    whole_digits = digits_all cs;
    fraction_digits = fraction_all (after_digits cs);
    some_digit = some;
    no_fraction = fraction_none (after_digits cs);
  };
  unsigned = refl;
  limit = h.limit;
  value = refl;
})

-- ---- a token

taken : (n : ℕ) (cs : List ℕ) → n ≡ name_len cs → length (folded (take n cs)) ≡ n
taken n cs e = length-map (take n cs) to_ascii_uppercase ∙ ap (λ (k : ℕ). length (take k cs)) e ∙ length-prefix_len is_name_part cs ∙ sym e

word_spellable : (text : List ℕ) (t : Token) → 0 < length text → length text ≤ 128 → IsWord text t → IsSpellable t
word_spellable text (Word w) some few h = tt
word_spellable text (Name n) some few h = record { some = omega (arith, some, ap length h.0); limit = omega (arith, few, ap length h.0) }
word_spellable text (Number d) some few h = absurd h
word_spellable text (Text u) some few h = absurd h
word_spellable text (Sign s) some few h = absurd h

token_spellable : (a : Bool) (cs : List ℕ) (n : ℕ) (t : Token) → IsToken (front_of a cs) cs n t → IsSpellable t
token_spellable a [] n t h = absurd h
token_spellable a (c ∷ cs) n t h =
    by (is_separator c) (is_ascii_alphabetic c) (is_ascii_digit c) (eqb c 34) (eqb c 39) (eqb c 45 && begins (eqb 45) cs) (eqb c 46 && not a && begins is_ascii_digit cs)
    refl refl refl refl refl refl refl (token_moves a (c ∷ cs) n t h).0 h
  where
    by : (s l d q k m p : Bool) → is_separator c ≡ s → is_ascii_alphabetic c ≡ l → is_ascii_digit c ≡ d → eqb c 34 ≡ q → eqb c 39 ≡ k
        → (eqb c 45 && begins (eqb 45) cs) ≡ m → (eqb c 46 && not a && begins is_ascii_digit cs) ≡ p
        → 0 < n → IsToken (chosen s l d q k m p) (c ∷ cs) n t → IsSpellable t
    by true l d q k m p es el ed eq ek em ep some h = absurd h
    by false true d q k m p es el ed eq ek em ep some h =
        let same : length (folded (take n (c ∷ cs))) ≡ n = taken n (c ∷ cs) h.size in
        word_spellable (folded (take n (c ∷ cs))) t (omega (arith, some, same)) (omega (arith, h.limit, same)) h.value
    by false false true q k m p es el ed eq ek em ep some h = number_spellable (c ∷ cs) n t (digit_front a (c ∷ cs) (rw (es, el, ed) refl)) h
    by false false false true k m p es el ed eq ek em ep some h = subst IsSpellable (sym h.2.value) (record { some = h.2.some; limit = h.2.limit })
    by false false false false true m p es el ed eq ek em ep some h = subst IsSpellable (sym h.2.value) h.2.limit
    by false false false false false true p es el ed eq ek em ep some h = absurd h
    by false false false false false false true es el ed eq ek em ep some h = number_spellable (c ∷ cs) n t (digit_front a (c ∷ cs) (rw (es, el, ed, eq, ek, em, ep) refl)) h
    by false false false false false false false es el ed eq ek em ep some h = subst IsSpellable (sym h.value) tt

-- ---- a file

all_append : (ts us : List Token) → AreSpellable ts → AreSpellable us → AreSpellable (ts ++ us)
all_append [] us h k = k
all_append (t ∷ ts) us h k = (h.0, all_append ts us h.1 k)

pieces_spellable : (n : ℕ) (s s' : At) (ts : List Placed) → Pieces n s ts s' → AreSpellable (bare ts)
pieces_spellable zero s s' ts h = subst (λ (l : List Placed). AreSpellable (bare l)) (sym h.0) tt
pieces_spellable (suc n) s s' ts h =
    subst AreSpellable (sym (map-append (λ (p : Placed). p.token) h.1 h.2) ∙ sym (ap bare h.5)) (all_append (bare h.1) (bare h.2) (pieces_spellable n s h.0 h.1 h.3) (piece h.0 h.2 s' h.4))
  where
    piece : (m : At) (us : List Placed) (s' : At) → Piece m us s' → AreSpellable (bare us)
    piece m us s' (inl g) = subst (λ (l : List Placed). AreSpellable (bare l)) (sym g.nothing) tt
    piece m us s' (inr g) = subst (λ (l : List Placed). AreSpellable (bare l)) (sym g.listed) (token_spellable m.after_name m.rest g.size g.token g.form, tt)

-- the tokens of a file can be written
pub spells_spellable : (bytes : List ℕ) (ts : Tokens) → Spells bytes ts → AreSpellable (bare ts.tokens)
spells_spellable bytes ts h = pieces_spellable h.reaches.count (at_start bytes) h.last ts.tokens h.reaches.pieces
