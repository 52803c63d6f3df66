-- Tokens as text, with what stands between them.
use Rattle.std.specs.Prelude.{ℕ, Bool, true, false, not, ◌&&◌, List, [], ◌∷◌, ◌++◌, Option, Some, None, if◌then◌else◌}
use Rattle.psm_token.specs.declared.sign.Sign.{Sign as SignOf}
use Rattle.psm_token.specs.declared.sign.Sign.TheVariants.{LeftParen, RightParen, Comma, Semicolon}
use Rattle.psm_token.specs.declared.token.Token.{Token}
use Rattle.psm_token.specs.declared.token.Token.TheVariants.{Sign}
use Rattle.psm_spell.specs.Written.{token_text, gap_of}
use Rattle.psm_spell.specs.declared.gaps.Gaps.{Gaps}
use Rattle.psm_spell.specs.declared.gaps.Gaps.TheVariants.{After, Between}

-- no blank is written after `(`, nor after a semicolon, which has a line feed
abbrev pub is_open_sign : SignOf → Bool
is_open_sign LeftParen = true
is_open_sign Semicolon = true
is_open_sign _ = false

abbrev pub is_open : Token → Bool
is_open (Sign s) = is_open_sign s
is_open _ = false

-- no blank is written before `,`, `)` and `;`
abbrev pub is_closing_sign : SignOf → Bool
is_closing_sign Comma = true
is_closing_sign RightParen = true
is_closing_sign Semicolon = true
is_closing_sign _ = false

abbrev pub is_closing : Token → Bool
is_closing (Sign s) = is_closing_sign s
is_closing _ = false

-- whether a blank is written before a token; it is given whether the tokens before want none
abbrev pub has_blank : Gaps → Bool → Token → Bool
has_blank After tight t = false
has_blank Between tight t = not tight && not (is_closing t)

-- a line feed after a semicolon
abbrev pub line_end_sign : SignOf → Option ℕ
line_end_sign Semicolon = Some 10
line_end_sign _ = None

abbrev pub line_end : Token → Option ℕ
line_end (Sign s) = line_end_sign s
line_end _ = None

-- what is written after a token
abbrev pub gap_after : Gaps → Token → Option ℕ
gap_after After t = Some (gap_of t)
gap_after Between t = line_end t

abbrev pub listed : Option ℕ → List ℕ
listed None = []
listed (Some c) = c ∷ []

abbrev pub blank_if : Bool → List ℕ
blank_if b = if b then 32 ∷ [] else []

-- a token with what is written before and after it
abbrev pub spaced : Gaps → Bool → Token → List ℕ
spaced gaps tight t = blank_if (has_blank gaps tight t) ++ (token_text t ++ listed (gap_after gaps t))

-- how tokens are written after others; before the first token of all stands no blank
abbrev pub written_after : Gaps → Bool → List Token → List ℕ
written_after gaps tight [] = []
written_after gaps tight (t ∷ ts) = spaced gaps tight t ++ written_after gaps (is_open t) ts

-- whether tokens want no blank after them
abbrev pub are_open : Bool → List Token → Bool
are_open tight [] = tight
are_open tight (t ∷ ts) = are_open (is_open t) ts

-- how tokens are written
abbrev pub written_with : Gaps → List Token → List ℕ
written_with gaps ts = written_after gaps true ts

-- tokens that were written, and what stands between them
pub record Laid : Type 0 where
  pub gaps : Gaps
  pub tokens : List Token

-- one token more
abbrev pub with_token : Laid → Token → Laid
with_token l t = record { gaps = l.gaps; tokens = l.tokens ++ t ∷ [] }
