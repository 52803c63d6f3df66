-- The forms of tokens and of what separates them (ISO/IEC 9075:1992, 5.1 to 5.4), by what stands at the front.
use Rattle.std.specs.Prelude.{◌≡◌, ◌≢◌, ℕ, ◌<◌, ◌≤◌, false, List, length, take, drop, map, Some}
use Rattle.std.specs.Char.{to_ascii_uppercase}
use Rattle.std.specs.List.{prefix_len}
use Rattle.psm_num.specs.Literal.{literal_digits, literal_value}
use Rattle.psm_token.specs.declared.front.Front.{Front}
use Rattle.psm_token.specs.declared.front.Front.TheVariants.{End, Separator, Comment, Letter, Digit, Quote, Apostrophe, Other}
use Rattle.psm_token.specs.declared.word.Word.{Word as WordOf}
use Rattle.psm_token.specs.declared.sign.Sign.{Sign as SignOf}
use Rattle.psm_token.specs.declared.token.Token.{Token}
use Rattle.psm_token.specs.declared.token.Token.TheVariants.{Word, Name, Number, Text, Sign}
use Rattle.psm_token.specs.Characters.{is_name_letter, is_name_part, is_in_line, begins}
use Rattle.psm_token.specs.Numbers.{literal_at, literal_len}
use Rattle.psm_token.specs.Quotes.{Quoted}
use Rattle.psm_token.specs.Signs.{sign_at, sign_text}
use Rattle.psm_token.specs.Words.{text_of}

-- the most characters of a name and of a text, and the most digits of a number
abbrev pub most_in_name : ℕ
most_in_name = 128

abbrev pub most_in_text : ℕ
most_in_text = 4000

abbrev pub most_digits : ℕ
most_digits = 18

-- a text with a to z as capital letters
abbrev pub folded : List ℕ → List ℕ
folded text = map to_ascii_uppercase text

-- how many characters of a name that isn't delimited stand at the front
abbrev pub name_len : List ℕ → ℕ
name_len cs = prefix_len is_name_part cs

-- the word of a text in capital letters, or else its name
abbrev pub IsWord : List ℕ → Token → Type 0
IsWord text (Word w) = text_of w ≡ text
IsWord text (Name n) = (n ≡ text) × ((w : WordOf) → text_of w ≢ text)
IsWord text _ = ⊥

-- a name within its limits
pub record IsKeptName (kept : List ℕ) (t : Token) : Type 0 where
  pub some : 0 < length kept
  pub limit : length kept ≤ most_in_name
  pub value : t ≡ Name kept

-- a text within its limit
pub record IsKeptText (kept : List ℕ) (t : Token) : Type 0 where
  pub limit : length kept ≤ most_in_text
  pub value : t ≡ Text kept

-- the first n characters are letters, digits and underscores, as many as stand there
pub record IsNameForm (cs : List ℕ) (n : ℕ) (t : Token) : Type 0 where
  pub size : n ≡ name_len cs
  pub limit : n ≤ most_in_name
  pub value : IsWord (folded (take n cs)) t

-- the first n characters are the longest literal, and no letter stands after it
pub record IsNumberForm (cs : List ℕ) (n : ℕ) (t : Token) : Type 0 where
  pub size : n ≡ literal_len cs
  pub limit : literal_digits (literal_at cs) ≤ most_digits
  pub apart : begins is_name_letter (drop n cs) ≡ false
  pub value : t ≡ Number (literal_value (literal_at cs))

-- the first n characters are the longest sign
pub record IsSignForm (cs : List ℕ) (n : ℕ) (t : Token) : Type 0 where
  pub sign : SignOf
  pub longest : sign_at cs ≡ Some sign
  pub size : n ≡ length (sign_text sign)
  pub value : t ≡ Sign sign

-- the first n characters are a token
abbrev pub IsToken : Front → List ℕ → ℕ → Token → Type 0
IsToken End cs n t = ⊥
IsToken Separator cs n t = ⊥
IsToken Comment cs n t = ⊥
IsToken Letter cs n t = IsNameForm cs n t
IsToken Digit cs n t = IsNumberForm cs n t
IsToken Quote cs n t = (kept : List ℕ) × Quoted 34 cs n kept × IsKeptName kept t
IsToken Apostrophe cs n t = (kept : List ℕ) × Quoted 39 cs n kept × IsKeptText kept t
IsToken Other cs n t = IsSignForm cs n t

-- the first n characters are a separator, or a comment up to the end of its line
abbrev pub IsGap : Front → List ℕ → ℕ → Type 0
IsGap End cs n = ⊥
IsGap Separator cs n = n ≡ 1
IsGap Comment cs n = n ≡ prefix_len is_in_line cs
IsGap Letter cs n = ⊥
IsGap Digit cs n = ⊥
IsGap Quote cs n = ⊥
IsGap Apostrophe cs n = ⊥
IsGap Other cs n = ⊥
