-- The faults of a token, by what stands at the front; of several the earlier place decides, then their order.
use Rattle.std.specs.Prelude.{◌≡◌, ℕ, ◌<◌, ◌≤◌, true, List, [], length, take, drop, None}
use Rattle.psm_num.specs.Literal.{literal_digits}
use Rattle.psm_token.specs.declared.front.Front.{Front}
use Rattle.psm_token.specs.declared.front.Front.TheVariants.{End, Separator, Comment, Letter, Digit, Quote, Apostrophe, Other}
use Rattle.psm_token.specs.declared.fault.LexFault.{LexFault}
use Rattle.psm_token.specs.declared.fault.LexFault.TheVariants.{BadChar, OpenText, OpenName, LongText, LongNumber, LongName}
use Rattle.psm_token.specs.declared.place.Place.{Place}
use Rattle.psm_token.specs.Characters.{is_name_letter, begins}
use Rattle.psm_token.specs.Forms.{name_len, most_in_name, most_in_text, most_digits}
use Rattle.psm_token.specs.Numbers.{literal_at, literal_len}
use Rattle.psm_token.specs.Places.{place_after}
use Rattle.psm_token.specs.Quotes.{Quoted}
use Rattle.psm_token.specs.Signs.{sign_at}

-- nothing that is quoted stands at the front
abbrev pub IsOpen : ℕ → List ℕ → Type 0
IsOpen quote cs = (n : ℕ) (kept : List ℕ) → Quoted quote cs n kept → ⊥

-- what is quoted at the front has more characters than a limit
abbrev pub IsLong : ℕ → List ℕ → ℕ → Type 0
IsLong quote cs limit = (n : ℕ) × (kept : List ℕ) × Quoted quote cs n kept × (limit < length kept)

-- a name has too many characters
abbrev pub NameFault : List ℕ → Place → LexFault → Type 0
NameFault cs p (LongName q) = (most_in_name < name_len cs) × (q ≡ p)
NameFault cs p _ = ⊥

-- a number has too many digits, or else a letter stands directly after it
abbrev pub NumberFault : List ℕ → Place → LexFault → Type 0
NumberFault cs p (LongNumber q) = (most_digits < literal_digits (literal_at cs)) × (q ≡ p)
NumberFault cs p (BadChar q) = (literal_digits (literal_at cs) ≤ most_digits)
    × (begins is_name_letter (drop (literal_len cs) cs) ≡ true) × (q ≡ place_after (take (literal_len cs) cs) p)
NumberFault cs p _ = ⊥

-- a delimited name doesn't end, or is empty, or has too many characters
abbrev pub DelimitedFault : List ℕ → Place → LexFault → Type 0
DelimitedFault cs p (OpenName q) = IsOpen 34 cs × (q ≡ p)
DelimitedFault cs p (BadChar q) = ((n : ℕ) × Quoted 34 cs n []) × (q ≡ place_after (take 1 cs) p)
DelimitedFault cs p (LongName q) = IsLong 34 cs most_in_name × (q ≡ p)
DelimitedFault cs p _ = ⊥

-- a text doesn't end, or has too many characters
abbrev pub TextFault : List ℕ → Place → LexFault → Type 0
TextFault cs p (OpenText q) = IsOpen 39 cs × (q ≡ p)
TextFault cs p (LongText q) = IsLong 39 cs most_in_text × (q ≡ p)
TextFault cs p _ = ⊥

-- a character is no sign
abbrev pub SignFault : List ℕ → Place → LexFault → Type 0
SignFault cs p (BadChar q) = (sign_at cs ≡ None) × (q ≡ p)
SignFault cs p _ = ⊥

-- the token at the front, which begins at that place, has that fault
abbrev pub IsFaulty : Front → List ℕ → Place → LexFault → Type 0
IsFaulty End cs p f = ⊥
IsFaulty Separator cs p f = ⊥
IsFaulty Comment cs p f = ⊥
IsFaulty Letter cs p f = NameFault cs p f
IsFaulty Digit cs p f = NumberFault cs p f
IsFaulty Quote cs p f = DelimitedFault cs p f
IsFaulty Apostrophe cs p f = TextFault cs p f
IsFaulty Other cs p f = SignFault cs p f
