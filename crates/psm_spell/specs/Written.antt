-- Tokens as text, such that the text, read again, is these tokens (ISO/IEC 9075:1992, 5.1 to 5.4).
use Rattle.std.specs.Prelude.{◌≡◌, ℕ, pos, ◌^◌, ◌<◌, ◌≤◌, Bool, ◌&&◌, List, [], ◌∷◌, ◌++◌, length, map, nat_lt, int_lt, unsigned_abs, not, None, if◌then◌else◌}
use Rattle.psm_num.specs.Literal.{Literal, IsLiteral, literal_digits, literal_value}
use Rattle.psm_num.specs.Num.{Num}
use Rattle.psm_num.specs.Printed.{printed, decimals_of}
use Rattle.psm_token.specs.declared.sign.Sign.{Sign as SignOf}
use Rattle.psm_token.specs.declared.sign.Sign.TheVariants.{Semicolon}
use Rattle.psm_token.specs.declared.token.Placed.{Placed}
use Rattle.psm_token.specs.declared.token.Token.{Token}
use Rattle.psm_token.specs.declared.token.Token.TheVariants.{Word, Name, Number, Text, Sign}
use Rattle.psm_token.specs.Forms.{most_digits, most_in_name, most_in_text}
use Rattle.psm_token.specs.Listed.{Tokens}
use Rattle.psm_token.specs.Quotes.{doubled}
use Rattle.psm_token.specs.Signs.{sign_text}
use Rattle.psm_token.specs.Spells.{Spells}
use Rattle.psm_token.specs.Words.{text_of}

-- a number from 0 to 1 with decimals, of which nothing is written before the point: a literal has at most 18
-- digits as written, and may have 18 decimals
abbrev pub is_fraction : Num → Bool
is_fraction n = nat_lt 0 n.scale && not (int_lt n.coef (pos 0)) && nat_lt (unsigned_abs n.coef) (10 ^ n.scale)

-- a number with exactly as many decimals as its scale
abbrev pub number_text : Num → List ℕ
number_text n = if is_fraction n then decimals_of n.scale (unsigned_abs n.coef) else printed n

-- characters between quotes, where each quote among them is doubled
abbrev pub quoted : ℕ → List ℕ → List ℕ
quoted quote kept = quote ∷ (doubled quote kept ++ quote ∷ [])

-- how a token is written: a name is always delimited, and so is never a word
abbrev pub token_text : Token → List ℕ
token_text (Word w) = text_of w
token_text (Name n) = quoted 34 n
token_text (Number d) = number_text d
token_text (Text t) = quoted 39 t
token_text (Sign s) = sign_text s

-- what is written after a sign: a line feed after a semicolon, else a blank
abbrev pub sign_gap : SignOf → ℕ
sign_gap Semicolon = 10
sign_gap _ = 32

-- what is written after a token
abbrev pub gap_of : Token → ℕ
gap_of (Sign s) = sign_gap s
gap_of _ = 32

-- a token and what separates it from the next
abbrev pub separated : Token → List ℕ
separated t = token_text t ++ gap_of t ∷ []

-- how tokens are written
abbrev pub written : List Token → List ℕ
written [] = []
written (t ∷ ts) = separated t ++ written ts

-- a number is the value of a literal without a sign of at most 18 digits
pub record IsSpellableNumber (d : Num) : Type 0 where
  pub literal : Literal
  pub form : IsLiteral literal
  pub unsigned : literal.sign ≡ None
  pub limit : literal_digits literal ≤ most_digits
  pub value : d ≡ literal_value literal

-- a name has 1 to 128 characters
pub record IsSpellableName (n : List ℕ) : Type 0 where
  pub some : 0 < length n
  pub limit : length n ≤ most_in_name

-- a token that can stand in a file
abbrev pub IsSpellable : Token → Type 0
IsSpellable (Word w) = Unit {0}
IsSpellable (Name n) = IsSpellableName n
IsSpellable (Number d) = IsSpellableNumber d
IsSpellable (Text t) = length t ≤ most_in_text
IsSpellable (Sign s) = Unit {0}

-- tokens that can stand in a file
abbrev pub AreSpellable : List Token → Type 0
AreSpellable [] = Unit {0}
AreSpellable (t ∷ ts) = IsSpellable t × AreSpellable ts

-- tokens without their places
abbrev pub bare : List Placed → List Token
bare ps = map (λ p. p.token) ps

-- the file of these bytes is these tokens
abbrev pub IsFileOf : List ℕ → List Token → Type 0
IsFileOf bytes tokens = (ts : Tokens) × Spells bytes ts × (bare ts.tokens ≡ tokens)
