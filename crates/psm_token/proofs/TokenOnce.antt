-- At a place there is one piece, or one fault, or neither.
use Rattle.std.proofs.Common.{◌≡◌, ℕ, ◌<◌, ◌≤◌, Bool, true, false, List, [], length, take, drop, Some, None, sym, ap, subst, ◌∙◌, arith}
use Rattle.psm_token.specs.declared.fault.LexFault.{LexFault}
use Rattle.psm_token.specs.declared.fault.LexFault.TheVariants.{BadChar, OpenText, OpenName, LongText, LongNumber, LongName}
use Rattle.psm_token.specs.declared.front.Front.{Front}
use Rattle.psm_token.specs.declared.front.Front.TheVariants.{End, Separator, Comment, Letter, Digit, Quote, Apostrophe, Other}
use Rattle.psm_token.specs.declared.place.Place.{Place}
use Rattle.psm_token.specs.declared.sign.Sign.{Sign as SignOf}
use Rattle.psm_token.specs.declared.token.Token.{Token}
use Rattle.psm_token.specs.declared.token.Token.TheVariants.{Word, Name, Text, Sign}
use Rattle.psm_token.specs.Characters.{is_name_letter, begins}
use Rattle.psm_token.specs.Faults.{IsLong, NameFault, NumberFault, DelimitedFault, TextFault, SignFault, IsFaulty}
use Rattle.psm_token.specs.Forms.{IsToken, IsGap, IsWord, IsNameForm, IsNumberForm, IsSignForm, IsKeptName, IsKeptText, folded}
use Rattle.psm_token.specs.Numbers.{literal_len}
use Rattle.psm_token.specs.Quotes.{Quoted}
use Rattle.psm_token.specs.Signs.{sign_text}
use Rattle.psm_token.proofs.Quoting.{quoted_once}
use Rattle.psm_token.proofs.WordTexts.{text_of_once}

word_once : (w : List ℕ) (t u : Token) → IsWord w t → IsWord w u → t ≡ u
word_once w (Word x) (Word y) h k = ap (λ z. Word z) (text_of_once x y (h ∙ sym k))
word_once w (Word x) (Name n) h k = absurd (k.1 x h)
word_once w (Word x) _ h k = absurd k
word_once w (Name n) (Word y) h k = absurd (h.1 y k)
word_once w (Name n) (Name m) h k = ap (λ z. Name z) (h.0 ∙ sym k.0)
word_once w (Name n) _ h k = absurd k
word_once w _ u h k = absurd h

same_sign : (s t : SignOf) → Some s ≡ Some t → s ≡ t
same_sign s t h = cc

name_once : (cs : List ℕ) (n m : ℕ) (t u : Token) → IsNameForm cs n t → IsNameForm cs m u → (n ≡ m) × (t ≡ u)
name_once cs n m t u h k =
    let e : n ≡ m = h.size ∙ sym k.size in
    (e, word_once (folded (take n cs)) t u h.value (subst (λ (j : ℕ). IsWord (folded (take j cs)) u) (sym e) k.value))

sign_once : (cs : List ℕ) (n m : ℕ) (t u : Token) → IsSignForm cs n t → IsSignForm cs m u → (n ≡ m) × (t ≡ u)
sign_once cs n m t u h k =
    let e : h.sign ≡ k.sign = same_sign h.sign k.sign (sym h.longest ∙ k.longest) in
    (h.size ∙ ap (λ (s : SignOf). length (sign_text s)) e ∙ sym k.size, h.value ∙ ap (λ (s : SignOf). Sign s) e ∙ sym k.value)

pub token_once : (f : Front) (cs : List ℕ) (n m : ℕ) (t u : Token) → IsToken f cs n t → IsToken f cs m u → (n ≡ m) × (t ≡ u)
token_once End cs n m t u h k = absurd h
token_once Separator cs n m t u h k = absurd h
token_once Comment cs n m t u h k = absurd h
token_once Letter cs n m t u h k = name_once cs n m t u h k
token_once Digit cs n m t u h k = (h.size ∙ sym k.size, h.value ∙ sym k.value)
token_once Quote cs n m t u h k =
    let e = quoted_once 34 n m cs h.0 k.0 h.1 k.1 in
    (e.0, h.2.value ∙ ap (λ (l : List ℕ). Name l) e.1 ∙ sym k.2.value)
token_once Apostrophe cs n m t u h k =
    let e = quoted_once 39 n m cs h.0 k.0 h.1 k.1 in
    (e.0, h.2.value ∙ ap (λ (l : List ℕ). Text l) e.1 ∙ sym k.2.value)
token_once Other cs n m t u h k = sign_once cs n m t u h k

pub gap_once : (f : Front) (cs : List ℕ) (n m : ℕ) → IsGap f cs n → IsGap f cs m → n ≡ m
gap_once End cs n m h k = absurd h
gap_once Separator cs n m h k = h ∙ sym k
gap_once Comment cs n m h k = h ∙ sym k
gap_once Letter cs n m h k = absurd h
gap_once Digit cs n m h k = absurd h
gap_once Quote cs n m h k = absurd h
gap_once Apostrophe cs n m h k = absurd h
gap_once Other cs n m h k = absurd h

pub gap_token : (f : Front) (cs : List ℕ) (n m : ℕ) (t : Token) → IsGap f cs n → IsToken f cs m t → ⊥
gap_token End cs n m t h k = h
gap_token Separator cs n m t h k = k
gap_token Comment cs n m t h k = k
gap_token Letter cs n m t h k = h
gap_token Digit cs n m t h k = h
gap_token Quote cs n m t h k = h
gap_token Apostrophe cs n m t h k = h
gap_token Other cs n m t h k = h

-- ---- a faulty token is no token and no gap

pub faulty_gap : (f : Front) (cs : List ℕ) (p : Place) (x : LexFault) (n : ℕ) → IsFaulty f cs p x → IsGap f cs n → ⊥
faulty_gap End cs p x n h k = k
faulty_gap Separator cs p x n h k = h
faulty_gap Comment cs p x n h k = h
faulty_gap Letter cs p x n h k = k
faulty_gap Digit cs p x n h k = k
faulty_gap Quote cs p x n h k = k
faulty_gap Apostrophe cs p x n h k = k
faulty_gap Other cs p x n h k = k

true_false : (b : Bool) → b ≡ true → b ≡ false → ⊥
true_false b h k = cc

long_not : (quote : ℕ) (cs : List ℕ) (n limit : ℕ) (kept : List ℕ) → IsLong quote cs limit → Quoted quote cs n kept → length kept ≤ limit → ⊥
long_not quote cs n limit kept h q l =
    let e = quoted_once quote h.0 n cs h.1 kept h.2 q in
    omega (arith, h.3, l, ap length e.1)

empty_not : (quote : ℕ) (cs : List ℕ) (m n : ℕ) (kept : List ℕ) → Quoted quote cs m [] → Quoted quote cs n kept → 0 < length kept → ⊥
empty_not quote cs m n kept h q l =
    let e = quoted_once quote m n cs [] kept h q in
    omega (arith, l, ap length e.1)

name_not : (cs : List ℕ) (p : Place) (x : LexFault) (n : ℕ) (t : Token) → NameFault cs p x → IsNameForm cs n t → ⊥
name_not cs p (LongName q) n t h k = omega (arith, h.0, k.size, k.limit)
name_not cs p _ n t h k = h

number_not : (cs : List ℕ) (p : Place) (x : LexFault) (n : ℕ) (t : Token) → NumberFault cs p x → IsNumberForm cs n t → ⊥
number_not cs p (LongNumber q) n t h k = omega (arith, h.0, k.limit)
number_not cs p (BadChar q) n t h k = true_false (begins is_name_letter (drop (literal_len cs) cs)) h.1 (ap (λ (j : ℕ). begins is_name_letter (drop j cs)) (sym k.size) ∙ k.apart)
number_not cs p _ n t h k = h

delimited_not : (cs : List ℕ) (p : Place) (x : LexFault) (n : ℕ) (kept : List ℕ) (t : Token) → DelimitedFault cs p x → Quoted 34 cs n kept → IsKeptName kept t → ⊥
delimited_not cs p (OpenName q) n kept t h k l = h.0 n kept k
delimited_not cs p (BadChar q) n kept t h k l = empty_not 34 cs h.0.0 n kept h.0.1 k l.some
delimited_not cs p (LongName q) n kept t h k l = long_not 34 cs n 128 kept h.0 k l.limit
delimited_not cs p _ n kept t h k l = h

text_not : (cs : List ℕ) (p : Place) (x : LexFault) (n : ℕ) (kept : List ℕ) (t : Token) → TextFault cs p x → Quoted 39 cs n kept → IsKeptText kept t → ⊥
text_not cs p (OpenText q) n kept t h k l = h.0 n kept k
text_not cs p (LongText q) n kept t h k l = long_not 39 cs n 4000 kept h.0 k l.limit
text_not cs p _ n kept t h k l = h

none_some : (s : SignOf) → None ≡ Some s → ⊥
none_some s h = absurd cc

sign_not : (cs : List ℕ) (p : Place) (x : LexFault) (n : ℕ) (t : Token) → SignFault cs p x → IsSignForm cs n t → ⊥
sign_not cs p (BadChar q) n t h k = none_some k.sign (sym h.0 ∙ k.longest)
sign_not cs p _ n t h k = h

pub faulty_token : (f : Front) (cs : List ℕ) (p : Place) (x : LexFault) (n : ℕ) (t : Token) → IsFaulty f cs p x → IsToken f cs n t → ⊥
faulty_token End cs p x n t h k = h
faulty_token Separator cs p x n t h k = h
faulty_token Comment cs p x n t h k = h
faulty_token Letter cs p x n t h k = name_not cs p x n t h k
faulty_token Digit cs p x n t h k = number_not cs p x n t h k
faulty_token Quote cs p x n t h k = delimited_not cs p x n k.0 t h k.1 k.2
faulty_token Apostrophe cs p x n t h k = text_not cs p x n k.0 t h k.1 k.2
faulty_token Other cs p x n t h k = sign_not cs p x n t h k

-- ---- a token has one fault

name_fault_once : (cs : List ℕ) (p : Place) (x y : LexFault) → NameFault cs p x → NameFault cs p y → x ≡ y
name_fault_once cs p (LongName q) (LongName r) h k = ap (λ (z : Place). LongName z) (h.1 ∙ sym k.1)
name_fault_once cs p (LongName q) _ h k = absurd k
name_fault_once cs p _ y h k = absurd h

number_fault_once : (cs : List ℕ) (p : Place) (x y : LexFault) → NumberFault cs p x → NumberFault cs p y → x ≡ y
number_fault_once cs p (LongNumber q) (LongNumber r) h k = ap (λ (z : Place). LongNumber z) (h.1 ∙ sym k.1)
number_fault_once cs p (LongNumber q) (BadChar r) h k = absurd (omega (arith, h.0, k.0))
number_fault_once cs p (LongNumber q) _ h k = absurd k
number_fault_once cs p (BadChar q) (BadChar r) h k = ap (λ (z : Place). BadChar z) (h.2 ∙ sym k.2)
number_fault_once cs p (BadChar q) (LongNumber r) h k = absurd (omega (arith, h.0, k.0))
number_fault_once cs p (BadChar q) _ h k = absurd k
number_fault_once cs p _ y h k = absurd h

empty_long : (quote : ℕ) (cs : List ℕ) (n limit : ℕ) → Quoted quote cs n [] → IsLong quote cs limit → ⊥
empty_long quote cs n limit q h = long_not quote cs n limit [] h q (omega arith)

delimited_fault_once : (cs : List ℕ) (p : Place) (x y : LexFault) → DelimitedFault cs p x → DelimitedFault cs p y → x ≡ y
delimited_fault_once cs p (OpenName q) (OpenName r) h k = ap (λ (z : Place). OpenName z) (h.1 ∙ sym k.1)
delimited_fault_once cs p (OpenName q) (BadChar r) h k = absurd (h.0 k.0.0 [] k.0.1)
delimited_fault_once cs p (OpenName q) (LongName r) h k = absurd (h.0 k.0.0 k.0.1 k.0.2)
delimited_fault_once cs p (OpenName q) _ h k = absurd k
delimited_fault_once cs p (BadChar q) (OpenName r) h k = absurd (k.0 h.0.0 [] h.0.1)
delimited_fault_once cs p (BadChar q) (BadChar r) h k = ap (λ (z : Place). BadChar z) (h.1 ∙ sym k.1)
delimited_fault_once cs p (BadChar q) (LongName r) h k = absurd (empty_long 34 cs h.0.0 128 h.0.1 k.0)
delimited_fault_once cs p (BadChar q) _ h k = absurd k
delimited_fault_once cs p (LongName q) (OpenName r) h k = absurd (k.0 h.0.0 h.0.1 h.0.2)
delimited_fault_once cs p (LongName q) (BadChar r) h k = absurd (empty_long 34 cs k.0.0 128 k.0.1 h.0)
delimited_fault_once cs p (LongName q) (LongName r) h k = ap (λ (z : Place). LongName z) (h.1 ∙ sym k.1)
delimited_fault_once cs p (LongName q) _ h k = absurd k
delimited_fault_once cs p _ y h k = absurd h

text_fault_once : (cs : List ℕ) (p : Place) (x y : LexFault) → TextFault cs p x → TextFault cs p y → x ≡ y
text_fault_once cs p (OpenText q) (OpenText r) h k = ap (λ (z : Place). OpenText z) (h.1 ∙ sym k.1)
text_fault_once cs p (OpenText q) (LongText r) h k = absurd (h.0 k.0.0 k.0.1 k.0.2)
text_fault_once cs p (OpenText q) _ h k = absurd k
text_fault_once cs p (LongText q) (OpenText r) h k = absurd (k.0 h.0.0 h.0.1 h.0.2)
text_fault_once cs p (LongText q) (LongText r) h k = ap (λ (z : Place). LongText z) (h.1 ∙ sym k.1)
text_fault_once cs p (LongText q) _ h k = absurd k
text_fault_once cs p _ y h k = absurd h

sign_fault_once : (cs : List ℕ) (p : Place) (x y : LexFault) → SignFault cs p x → SignFault cs p y → x ≡ y
sign_fault_once cs p (BadChar q) (BadChar r) h k = ap (λ (z : Place). BadChar z) (h.1 ∙ sym k.1)
sign_fault_once cs p (BadChar q) _ h k = absurd k
sign_fault_once cs p _ y h k = absurd h

pub faulty_once : (f : Front) (cs : List ℕ) (p : Place) (x y : LexFault) → IsFaulty f cs p x → IsFaulty f cs p y → x ≡ y
faulty_once End cs p x y h k = absurd h
faulty_once Separator cs p x y h k = absurd h
faulty_once Comment cs p x y h k = absurd h
faulty_once Letter cs p x y h k = name_fault_once cs p x y h k
faulty_once Digit cs p x y h k = number_fault_once cs p x y h k
faulty_once Quote cs p x y h k = delimited_fault_once cs p x y h k
faulty_once Apostrophe cs p x y h k = text_fault_once cs p x y h k
faulty_once Other cs p x y h k = sign_fault_once cs p x y h k
