-- What stands for a word in a table.
use Rattle.std.proofs.Common.{◌≡◌, ℕ, zero, suc, ◌+◌, ◌<◌, ◌≤◌, Bool, true, false, List, [], ◌∷◌, length, get_or, map, drop, Option, Some, None, Bor, refl, sym, ap, subst, ◌∙◌, lit<, arith}
use Rattle.std.specs.Prelude.{codes, if◌then◌else◌, nat_eq, nat_lt, option_map}
use Rattle.std.specs.List.{list_all}
use Rattle.std.specs.Str.{IsAscii, IsUtf8}
use Rattle.std.specs.Cmp.Lexicographic.{pointwise, same_text}
use Rattle.std.proofs.lemmas.List.{drop_all, drop_more}
use Rattle.std.proofs.lemmas.Str.{IsUtf8-from_ascii}
use Rattle.psm_words.specs.Reading.{◌>>=◌, after}
use Rattle.psm_words.proofs.Several.{some_is}
use Rattle.psm_num.proofs.Literals.{and_first, and_second}
use Rattle.psm_load_line.specs.Heads.{EachIs}
use Rattle.psm_sqlstate.specs.State.{is_state_character}
use Rattle.psm_sqlstate.proofs.Ascii.{state_ascii}
use Rattle.psm_load_line.specs.Groups.{said}
use Rattle.psm_load_line.specs.Readers.{at_end, bare, by_word, chosen, last, one_of, word, LineReader}
use Rattle.psm_load_line.specs.Said.{state_of}
use Rattle.psm_load_line.specs.Taken.{NoText}

abbrev pub shown : {T : Type 0} → Bor (List ℕ) × T → List ℕ × T
shown e = (e.0.now, e.1)

module _ {T : Type 0} (entries : List (Bor (List ℕ) × T)) (w : List ℕ) where
  -- what a loop that has come to k has to find
  abbrev pub left : ℕ → Option T
  left k = chosen (map shown (drop k entries)) w

  here : (k : ℕ) (e : Bor (List ℕ) × T) → k < length entries → e ≡ get_or entries k e → left k ≡ (if pointwise nat_eq e.0.now w then Some e.1 else left (k + 1))
  here k e h g =
      ap (λ (xs : List (Bor (List ℕ) × T)). chosen (map shown xs) w) (drop_more entries k e h)
      ∙ ap (λ (x : Bor (List ℕ) × T). if pointwise nat_eq x.0.now w then Some x.1 else left (k + 1)) (sym g)

  pub comes_to : (k : ℕ) (e : Bor (List ℕ) × T) → k < length entries → e ≡ get_or entries k e → pointwise nat_eq e.0.now w ≡ true → left k ≡ Some e.1
  comes_to k e h g t = here k e h g ∙ ap (λ b. if b then Some e.1 else left (k + 1)) t

  pub goes_by : (k : ℕ) (e : Bor (List ℕ) × T) → k < length entries → e ≡ get_or entries k e → pointwise nat_eq e.0.now w ≡ false → left k ≡ left (k + 1)
  goes_by k e h g t = here k e h g ∙ ap (λ b. if b then Some e.1 else left (k + 1)) t

  pub none_left : (k : ℕ) → length entries ≤ k → left k ≡ None
  none_left k h = ap (λ (xs : List (Bor (List ℕ) × T)). chosen (map shown xs) w) (drop_all k entries h)

-- a word that is none of a table
pub none_chosen : {T : Type 0} (entries : List (List ℕ × T)) (w : List ℕ) → EachIs (λ e. w ≡ e.0 → ⊥) entries → chosen entries w ≡ None
none_chosen [] w h = refl
none_chosen {T} (entry ∷ entries) w h = by (pointwise nat_eq entry.0 w) refl (none_chosen entries w h.1) where
  by : (b : Bool) → pointwise nat_eq entry.0 w ≡ b → chosen entries w ≡ None → (if b then Some entry.1 else chosen entries w) ≡ None
  by true e more = absurd (h.0 (sym (same_text entry.0 w (sym e))))
  by false e more = more

abbrev pub is_small : List ℕ → Bool
is_small w = list_all (λ c. nat_lt c 128) w

byte_small : (c : ℕ) → nat_lt c 128 ≡ true → c < 128
byte_small c h = grind (arith, h)

small_ascii : (w : List ℕ) → is_small w ≡ true → IsAscii w
small_ascii [] h i = lit< tt
small_ascii (c ∷ w) h zero = byte_small c (and_first (nat_lt c 128) (is_small w) h)
small_ascii (c ∷ w) h (suc i) = small_ascii w (and_second (nat_lt c 128) (is_small w) h) i

-- what is no text is no word of a table of texts
no_text : {T : Type 0} (entries : List (List ℕ × T)) (w : List ℕ) → list_all (λ e. is_small e.0) entries ≡ true → (IsUtf8 w → ⊥) → chosen entries w ≡ None
no_text [] w t h = refl
no_text {T} (entry ∷ entries) w t h = by (pointwise nat_eq entry.0 w) refl (no_text entries w (and_second (is_small entry.0) (list_all (λ e. is_small e.0) entries) t) h) where
  by : (b : Bool) → pointwise nat_eq entry.0 w ≡ b → chosen entries w ≡ None → (if b then Some entry.1 else chosen entries w) ≡ None
  by true e more = absurd (h (subst IsUtf8 (same_text entry.0 w (sym e)) (IsUtf8-from_ascii entry.0 (small_ascii entry.0 (and_first (is_small entry.0) (list_all (λ e. is_small e.0) entries) t)))))
  by false e more = more

-- a value that stands for another one for one
chosen_map : {T U : Type 0} (f : T → U) (entries : List (List ℕ × T)) (w : List ℕ) → option_map f (chosen entries w) ≡ chosen (map (λ e. (e.0, f e.1)) entries) w
chosen_map f [] w = refl
chosen_map f (entry ∷ entries) w = by (pointwise nat_eq entry.0 w) (chosen_map f entries w) where
  by : (b : Bool) → option_map f (chosen entries w) ≡ chosen (map (λ e. (e.0, f e.1)) entries) w
      → option_map f (if b then Some entry.1 else chosen entries w) ≡ (if b then Some (f entry.1) else chosen (map (λ e. (e.0, f e.1)) entries) w)
  by true more = refl
  by false more = more

-- ---- a word after a blank

abbrev with_rest : {T : Type 0} → List ℕ → T → Option (T × List ℕ)
with_rest r a = Some (a, r)

abbrev before_rest : {A : Type 0} → List ℕ → LineReader A → Option (LineReader A × List ℕ)
before_rest t p = Some (p, t)

abbrev read_on : {A : Type 0} → LineReader A × List ℕ → Option A
read_on p = p.0 p.1

read_next : {A : Type 0} (o : Option (LineReader A)) (t : List ℕ) → ((o >>= before_rest t) >>= read_on) ≡ (o >>= λ p. p t)
read_next None t = refl
read_next (Some p) t = refl

pub word_said : {A : Type 0} (entries : List (List ℕ × LineReader A)) (s w rest : List ℕ) → option_map bare (after (codes " ") s) ≡ Some (w, rest) → by_word entries s ≡ said entries w rest
word_said {A} entries s w rest e = by (after (codes " ") s) e where
  by : (o : Option (List ℕ)) → option_map bare o ≡ Some (w, rest) → (o >>= one_of entries >>= read_on) ≡ said entries w rest
  by None e = absurd cc
  by (Some t) e =
      let same : bare t ≡ (w, rest) = some_is (bare t) (w, rest) e in
      read_next (chosen entries (bare t).0) (bare t).1 ∙ ap (λ (x : List ℕ × List ℕ). said entries x.0 x.1) same

pub no_word : {A : Type 0} (entries : List (List ℕ × LineReader A)) (s : List ℕ) → list_all (λ e. is_small e.0) entries ≡ true → NoText (option_map bare (after (codes " ") s)) → by_word entries s ≡ None
no_word {A} entries s small h = by (after (codes " ") s) h where
  by : (o : Option (List ℕ)) → NoText (option_map bare o) → (o >>= one_of entries >>= read_on) ≡ None
  by None h = refl
  by (Some t) h = read_next (chosen entries (bare t).0) (bare t).1 ∙ ap (λ (o : Option (LineReader A)). o >>= λ p. p (bare t).1) (no_text entries (bare t).0 small h)

-- a last word that stands for another value
pub last_map : {T U : Type 0} (f : T → U) (entries : List (List ℕ × T)) (s : List ℕ) → last (word (one_of (map (λ e. (e.0, f e.1)) entries))) s ≡ option_map f (last (word (one_of entries)) s)
last_map {T} {U} f entries s = by (after (codes " ") s) where
  ended : (a : T) (r : List ℕ) → at_end (f a, r) ≡ option_map f (at_end (a, r))
  ended a [] = refl
  ended a (c ∷ r) = refl

  made : (o : Option T) (r : List ℕ) → ((option_map f o >>= with_rest r) >>= at_end) ≡ option_map f ((o >>= with_rest r) >>= at_end)
  made None r = refl
  made (Some a) r = ended a r

  by : (o : Option (List ℕ)) → ((o >>= one_of (map (λ e. (e.0, f e.1)) entries)) >>= at_end) ≡ option_map f ((o >>= one_of entries) >>= at_end)
  by None = refl
  by (Some t) = ap (λ (o : Option U). (o >>= with_rest (bare t).1) >>= at_end) (sym (chosen_map f entries (bare t).0)) ∙ made (chosen entries (bare t).0) (bare t).1

-- ---- states

pub not_state : (bytes : List ℕ) → (IsUtf8 bytes → ⊥) → state_of bytes ≡ codes "00000"
not_state bytes h = by (list_all is_state_character bytes) refl where
  by : (b : Bool) → list_all is_state_character bytes ≡ b → (if b then bytes else codes "00000") ≡ codes "00000"
  by true e = absurd (h (IsUtf8-from_ascii bytes (state_ascii bytes e)))
  by false e = refl
