-- What stands at the front of some characters is their end, a gap, a token or a fault.
use Rattle.std.proofs.Common.{◌≡◌, ℕ, ◌+◌, ◌<◌, ◌⊎◌, Bool, true, false, not, ◌&&◌, cond, eqb, leb, List, [], ◌∷◌, ◌++◌, length, take, drop, inl, inr, Option, Some, None, Ok, refl, sym, ap, ◌∙◌, arith}
use Rattle.std.specs.Char.{is_ascii_digit, is_ascii_alphabetic}
use Rattle.std.specs.List.{prefix_len}
use Rattle.std.proofs.lemmas.Bool.{eqb-true}
use Rattle.std.proofs.lemmas.Bool.Decides.{nat_tests}
use Rattle.psm_num.specs.Literal.{literal_digits, literal_value}
use Rattle.psm_token.specs.declared.fault.LexFault.{LexFault}
use Rattle.psm_token.specs.declared.fault.LexFault.TheVariants.{BadUtf8, BadChar, OpenText, OpenName, LongText, LongNumber, LongName, ManyTokens, Memory}
use Rattle.psm_token.specs.declared.place.Place.{Place}
use Rattle.psm_token.specs.declared.sign.Sign.{Sign as SignOf}
use Rattle.psm_token.specs.declared.token.Token.{Token}
use Rattle.psm_token.specs.declared.token.Token.TheVariants.{Word, Name, Number, Text, Sign}
use Rattle.psm_token.specs.declared.word.Word.{Word as WordOf}
use Rattle.psm_token.specs.Characters.{is_separator, is_name_letter, is_in_line, begins}
use Rattle.psm_token.specs.Faults.{IsFaulty, IsOpen, NameFault, NumberFault, DelimitedFault, TextFault, SignFault}
use Rattle.psm_token.specs.Forms.{IsToken, IsGap, IsWord, IsNameForm, IsNumberForm, IsSignForm, IsKeptName, IsKeptText, folded, name_len, most_in_name, most_in_text, most_digits}
use Rattle.psm_token.specs.Fronts.{front_of}
use Rattle.psm_token.specs.Lookup.{lookup}
use Rattle.psm_token.specs.Numbers.{literal_at, literal_len}
use Rattle.psm_token.specs.Places.{place_after}
use Rattle.psm_token.specs.Quotes.{doubled, Quoted}
use Rattle.psm_token.specs.Signs.{sign_at, sign_text}
use Rattle.psm_token.specs.Unquoting.{read_inside}
use Rattle.psm_token.proofs.Looking.{chosen}
use Rattle.psm_token.proofs.Quoting.{inside_takes, quoted_ok}
use Rattle.psm_token.proofs.WordTexts.{lookup_takes, lookup_again}

-- the faults that tokens have by themselves
abbrev pub IsOfToken : LexFault → Type 0
IsOfToken (BadUtf8 p) = ⊥
IsOfToken (ManyTokens p) = ⊥
IsOfToken Memory = ⊥
IsOfToken _ = Unit {0}

-- what stands at the front, by what gaps, tokens and faults are there
pub data Seen (IsGapHere : ℕ → Type 0) (IsTokenHere : ℕ → Token → Type 0) (IsFaultHere : LexFault → Type 0) (cs : List ℕ) : Type 0 where
  Ended : cs ≡ [] → Seen IsGapHere IsTokenHere IsFaultHere cs
  Apart : (n : ℕ) → 0 < n → 0 < length cs → IsGapHere n → Seen IsGapHere IsTokenHere IsFaultHere cs
  One : (n : ℕ) (t : Token) → IsTokenHere n t → Seen IsGapHere IsTokenHere IsFaultHere cs
  Faulty : (x : LexFault) → IsOfToken x → IsFaultHere x → Seen IsGapHere IsTokenHere IsFaultHere cs

-- the same where no gap is
abbrev Lone : (ℕ → Token → Type 0) → (LexFault → Type 0) → List ℕ → Type 0
Lone IsTokenHere IsFaultHere cs = Seen (λ n. ⊥) IsTokenHere IsFaultHere cs

-- ---- a word or a name

word_or_name : (text : List ℕ) → (t : Token) × IsWord text t
word_or_name text = by (lookup text) refl
  where
    none_some : (x : WordOf) → ◌≡◌ {A = Option WordOf} None (Some x) → ⊥
    none_some x e = cc

    by : (o : Option WordOf) → lookup text ≡ o → (t : Token) × IsWord text t
    by (Some w) e = (Word w, lookup_takes text w e)
    by None e = (Name text, (refl, λ w h. none_some w (sym e ∙ lookup_again text w h)))

name_seen : (cs : List ℕ) (p : Place) → Lone (IsNameForm cs) (NameFault cs p) cs
name_seen cs p = by (leb (name_len cs) most_in_name) refl
  where
    by : (b : Bool) → leb (name_len cs) most_in_name ≡ b → Lone (IsNameForm cs) (NameFault cs p) cs
    by true e =
        let w = word_or_name (folded (take (name_len cs) cs)) in
        One (name_len cs) w.0 (record { size = refl; limit = grind (arith, nat_tests, e); value = w.1 })
    by false e = Faulty (LongName p) tt (grind (arith, nat_tests, e), refl)

-- ---- numbers

number_seen : (cs : List ℕ) (p : Place) → Lone (IsNumberForm cs) (NumberFault cs p) cs
number_seen cs p = by (leb (literal_digits (literal_at cs)) most_digits) (begins is_name_letter (drop (literal_len cs) cs)) refl refl
  where
    by : (a b : Bool) → leb (literal_digits (literal_at cs)) most_digits ≡ a → begins is_name_letter (drop (literal_len cs) cs) ≡ b → Lone (IsNumberForm cs) (NumberFault cs p) cs
    by true true e f = Faulty (BadChar (place_after (take (literal_len cs) cs) p)) tt (grind (arith, nat_tests, e), f, refl)
    by true false e f = One (literal_len cs) (Number (literal_value (literal_at cs))) (record { size = refl; limit = grind (arith, nat_tests, e); apart = f; value = refl })
    by false b e f = Faulty (LongNumber p) tt (grind (arith, nat_tests, e), refl)

-- ---- quotes

-- what is quoted at the front, or that it has no end
abbrev QuotedOrOpen : ℕ → List ℕ → Type 0
QuotedOrOpen quote cs = ((n : ℕ) × (kept : List ℕ) × Quoted quote cs n kept) ⊎ IsOpen quote cs

quoted_seen : (quote c : ℕ) (ds : List ℕ) → eqb c quote ≡ true → QuotedOrOpen quote (c ∷ ds)
quoted_seen quote c ds b = by (read_inside quote [] 1 ds) refl
  where
    by : (o : Option (List ℕ × ℕ)) → read_inside quote [] 1 ds ≡ o → QuotedOrOpen quote (c ∷ ds)
    by (Some r) e =
        let t = inside_takes quote [] 1 ds r.0 r.1 e in
        inl (
          r.1,
          r.0,
          record {
            rest = t.rest;
            spelled = ap (λ (x : ℕ). x ∷ ds) (eqb-true c quote b) ∙ ap (λ (r : List ℕ). quote ∷ r) (t.spelled ∙ ap (λ (k : List ℕ). doubled quote k ++ quote ∷ t.rest) (sym t.all_kept));
            size = omega (arith, t.size, ap (λ (k : List ℕ). length (doubled quote k)) t.all_kept);
            ends = t.ends;
          },
        )
    by None e = inr (quoted_ok quote c 0 (c ∷ ds) ds refl b (Ok None) e)

-- a delimited name, and a text
abbrev IsDelimited : List ℕ → ℕ → Token → Type 0
IsDelimited cs n t = (kept : List ℕ) × Quoted 34 cs n kept × IsKeptName kept t

abbrev IsText : List ℕ → ℕ → Token → Type 0
IsText cs n t = (kept : List ℕ) × Quoted 39 cs n kept × IsKeptText kept t

delimited_seen : (c : ℕ) (ds : List ℕ) (p : Place) → eqb c 34 ≡ true → Lone (IsDelimited (c ∷ ds)) (DelimitedFault (c ∷ ds) p) (c ∷ ds)
delimited_seen c ds p b = elim (quoted_seen 34 c ds b) as (λ _. Lone (IsDelimited (c ∷ ds)) (DelimitedFault (c ∷ ds) p) (c ∷ ds)) [
  | inl q ↦ kept q.0 q.1 q.2
  | inr o ↦ Faulty (OpenName p) tt (o, refl)
]
  where
    kept : (n : ℕ) (k : List ℕ) → Quoted 34 (c ∷ ds) n k → Lone (IsDelimited (c ∷ ds)) (DelimitedFault (c ∷ ds) p) (c ∷ ds)
    kept n [] q = Faulty (BadChar (place_after (take 1 (c ∷ ds)) p)) tt ((n, q), refl)
    kept n (x ∷ k) q = by (leb (length (x ∷ k)) most_in_name) refl
      where
        by : (b : Bool) → leb (length (x ∷ k)) most_in_name ≡ b → Lone (IsDelimited (c ∷ ds)) (DelimitedFault (c ∷ ds) p) (c ∷ ds)
        by true e = One n (Name (x ∷ k)) (x ∷ k, q, record { some = omega arith; limit = grind (arith, nat_tests, e); value = refl })
        by false e = Faulty (LongName p) tt ((n, x ∷ k, q, grind (arith, nat_tests, e)), refl)

text_seen : (c : ℕ) (ds : List ℕ) (p : Place) → eqb c 39 ≡ true → Lone (IsText (c ∷ ds)) (TextFault (c ∷ ds) p) (c ∷ ds)
text_seen c ds p b = elim (quoted_seen 39 c ds b) as (λ _. Lone (IsText (c ∷ ds)) (TextFault (c ∷ ds) p) (c ∷ ds)) [
  | inl q ↦ kept q.0 q.1 q.2
  | inr o ↦ Faulty (OpenText p) tt (o, refl)
]
  where
    kept : (n : ℕ) (k : List ℕ) → Quoted 39 (c ∷ ds) n k → Lone (IsText (c ∷ ds)) (TextFault (c ∷ ds) p) (c ∷ ds)
    kept n k q = by (leb (length k) most_in_text) refl
      where
        by : (b : Bool) → leb (length k) most_in_text ≡ b → Lone (IsText (c ∷ ds)) (TextFault (c ∷ ds) p) (c ∷ ds)
        by true e = One n (Text k) (k, q, record { limit = grind (arith, nat_tests, e); value = refl })
        by false e = Faulty (LongText p) tt ((n, k, q, grind (arith, nat_tests, e)), refl)

-- ---- signs

sign_seen : (cs : List ℕ) (p : Place) → Lone (IsSignForm cs) (SignFault cs p) cs
sign_seen cs p = by (sign_at cs) refl
  where
    by : (o : Option SignOf) → sign_at cs ≡ o → Lone (IsSignForm cs) (SignFault cs p) cs
    by (Some s) e = One (length (sign_text s)) (Sign s) (record { sign = s; longest = e; size = refl; value = refl })
    by None e = Faulty (BadChar p) tt (e, refl)

-- ---- comments

comment_seen : (c : ℕ) (ds : List ℕ) → (eqb c 45 && begins (eqb 45) ds) ≡ true → Seen (λ n. n ≡ prefix_len is_in_line (c ∷ ds)) (λ n t. ⊥) (λ x. ⊥) (c ∷ ds)
comment_seen c ds h = Apart (prefix_len is_in_line (c ∷ ds)) some (omega arith) refl
  where
    dash : (a b : Bool) → (a && b) ≡ true → a ≡ true
    dash true b e = refl
    dash false b e = absurd cc

    some : 0 < prefix_len is_in_line (c ∷ ds)
    some =
        let first : c ≡ 45 = eqb-true c 45 (dash (eqb c 45) (begins (eqb 45) ds) h) in
        let one : prefix_len is_in_line (c ∷ ds) ≡ 1 + prefix_len is_in_line ds = ap (λ (x : ℕ). cond (is_in_line x) (1 + prefix_len is_in_line ds) 0) first in
        omega (arith, one)

-- ---- the front

-- what stands at the front of some characters, after a name or not
abbrev pub Front : Bool → List ℕ → Place → Type 0
Front a cs p = Seen (IsGap (front_of a cs) cs) (IsToken (front_of a cs) cs) (IsFaulty (front_of a cs) cs p) cs

pub seen : (a : Bool) (cs : List ℕ) (p : Place) → Front a cs p
seen a [] p = Ended refl
seen a (c ∷ ds) p =
    by (is_separator c) (is_ascii_alphabetic c) (is_ascii_digit c) (eqb c 34) (eqb c 39) (eqb c 45 && begins (eqb 45) ds) (eqb c 46 && not a && begins is_ascii_digit ds) refl refl refl
  where
    by : (s l d q t m n : Bool) → eqb c 34 ≡ q → eqb c 39 ≡ t → (eqb c 45 && begins (eqb 45) ds) ≡ m
        → Seen (IsGap (chosen s l d q t m n) (c ∷ ds)) (IsToken (chosen s l d q t m n) (c ∷ ds)) (IsFaulty (chosen s l d q t m n) (c ∷ ds) p) (c ∷ ds)
    by true l d q t m n e f g = Apart 1 (omega arith) (omega arith) refl
    by false true d q t m n e f g = name_seen (c ∷ ds) p
    by false false true q t m n e f g = number_seen (c ∷ ds) p
    by false false false true t m n e f g = delimited_seen c ds p e
    by false false false false true m n e f g = text_seen c ds p f
    by false false false false false true n e f g = comment_seen c ds g
    by false false false false false false true e f g = number_seen (c ∷ ds) p
    by false false false false false false false e f g = sign_seen (c ∷ ds) p

-- no fault of a token is out of memory
pub never_memory : (a : Bool) (cs : List ℕ) (p : Place) → IsFaulty (front_of a cs) cs p Memory → ⊥
never_memory a [] p h = h
never_memory a (c ∷ ds) p h =
    by (is_separator c) (is_ascii_alphabetic c) (is_ascii_digit c) (eqb c 34) (eqb c 39) (eqb c 45 && begins (eqb 45) ds) (eqb c 46 && not a && begins is_ascii_digit ds) h
  where
    by : (s l d q t m n : Bool) → IsFaulty (chosen s l d q t m n) (c ∷ ds) p Memory → ⊥
    by true l d q t m n h = h
    by false true d q t m n h = h
    by false false true q t m n h = h
    by false false false true t m n h = h
    by false false false false true m n h = h
    by false false false false false true n h = h
    by false false false false false false true h = h
    by false false false false false false false h = h
