-- The signs (ISO/IEC 9075:1992, 5.1 and 5.2): the one table of their kinds and texts.
use Rattle.std.specs.Prelude.{ℕ, ◌&&◌, List, [], ◌∷◌, codes, nat_eq, Option, Some, None, if◌then◌else◌}
use Rattle.psm_token.specs.declared.sign.Sign.{Sign}
use Rattle.psm_token.specs.declared.sign.Sign.TheVariants.{LeftParen, RightParen, Comma, Semicolon, Colon, Period, Equal, NotEqual, Less, LessEqual, Greater, GreaterEqual, Plus, Minus, Asterisk, Solidus, Concatenation, QuestionMark}

-- the number of a sign's kind of tokens, and how the sign is written
abbrev pub sign_entry : Sign → ℕ × List ℕ
sign_entry LeftParen = (3, codes "(")
sign_entry RightParen = (4, codes ")")
sign_entry Comma = (5, codes ",")
sign_entry Semicolon = (6, codes ";")
sign_entry Colon = (7, codes ":")
sign_entry Period = (8, codes ".")
sign_entry Equal = (9, codes "=")
sign_entry NotEqual = (10, codes "<>")
sign_entry Less = (11, codes "<")
sign_entry LessEqual = (12, codes "<=")
sign_entry Greater = (13, codes ">")
sign_entry GreaterEqual = (14, codes ">=")
sign_entry Plus = (15, codes "+")
sign_entry Minus = (16, codes "-")
sign_entry Asterisk = (17, codes "*")
sign_entry Solidus = (18, codes "/")
sign_entry Concatenation = (19, codes "||")
sign_entry QuestionMark = (20, codes "?")

abbrev pub sign_kind : Sign → ℕ
sign_kind s = (sign_entry s).0

abbrev pub sign_text : Sign → List ℕ
sign_text s = (sign_entry s).1

-- the sign of one character
abbrev pub lone_sign : ℕ → Option Sign
lone_sign c =
    if nat_eq c 40 then Some LeftParen else
    if nat_eq c 41 then Some RightParen else
    if nat_eq c 44 then Some Comma else
    if nat_eq c 59 then Some Semicolon else
    if nat_eq c 58 then Some Colon else
    if nat_eq c 46 then Some Period else
    if nat_eq c 61 then Some Equal else
    if nat_eq c 60 then Some Less else
    if nat_eq c 62 then Some Greater else
    if nat_eq c 43 then Some Plus else
    if nat_eq c 45 then Some Minus else
    if nat_eq c 42 then Some Asterisk else
    if nat_eq c 47 then Some Solidus else
    if nat_eq c 63 then Some QuestionMark else
    None

-- the sign of two characters
abbrev pub pair_sign : ℕ → ℕ → Option Sign
pair_sign c d =
    if nat_eq c 60 && nat_eq d 62 then Some NotEqual else
    if nat_eq c 60 && nat_eq d 61 then Some LessEqual else
    if nat_eq c 62 && nat_eq d 61 then Some GreaterEqual else
    if nat_eq c 124 && nat_eq d 124 then Some Concatenation else
    None

-- the first of two answers, if there is one, else the second
abbrev pub or_else : Option Sign → Option Sign → Option Sign
or_else (Some s) o = Some s
or_else None o = o

-- the longest sign at the front
abbrev pub sign_at : List ℕ → Option Sign
sign_at [] = None
sign_at (c ∷ []) = lone_sign c
sign_at (c ∷ d ∷ cs) = or_else (pair_sign c d) (lone_sign c)
