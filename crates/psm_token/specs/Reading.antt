-- What reading at the front of some characters answers: what stands there, its fault, or out of memory.
use Rattle.std.specs.Prelude.{◌≡◌, ℕ, ◌<◌, ◌≤◌, List, [], take, String, string_bytes, Option, Some, None, Result, Ok, Err}
use Rattle.std.specs.Global.{Global}
use Rattle.std.specs.Str.{chars}
use Rattle.psm_num.specs.Literal.{Literal, literal_digits, literal_value}
use Rattle.psm_num.specs.Num.{Num}
use Rattle.psm_token.specs.declared.fault.LexFault.{LexFault}
use Rattle.psm_token.specs.declared.front.Front.{Front}
use Rattle.psm_token.specs.declared.piece.Piece.{Piece}
use Rattle.psm_token.specs.declared.piece.Piece.TheVariants.{End, Gap, One}
use Rattle.psm_token.specs.declared.place.Place.{Place}
use Rattle.psm_token.specs.declared.token.Token.{Token}
use Rattle.psm_token.specs.Answers.{OrMemory}
use Rattle.psm_token.specs.Faults.{IsFaulty, IsOpen}
use Rattle.psm_token.specs.Forms.{IsToken, IsGap, most_digits}
use Rattle.psm_token.specs.Quotes.{Quoted}

-- the number of a literal, or none where it has too many digits
abbrev pub NumberRead : Literal → Option Num → Type 0
NumberRead l (Some d) = (literal_digits l ≤ most_digits) × (d ≡ literal_value l)
NumberRead l None = most_digits < literal_digits l

-- the first characters, up to a limit, of what is quoted at the front, or nothing where it has no end
abbrev pub QuotedRead : ℕ → List ℕ → ℕ → Option (String Global × ℕ) → Type 0
QuotedRead quote cs limit None = IsOpen quote cs
QuotedRead quote cs limit (Some p) = (all : List ℕ) × Quoted quote cs p.1 all × (chars (string_bytes p.0) ≡ take limit all)

-- the token at the front, or its fault
abbrev pub TokenRead : Front → List ℕ → Place → Result (ℕ × Token) LexFault → Type 0
TokenRead front cs p (Ok r) = IsToken front cs r.0 r.1
TokenRead front cs p (Err f) = OrMemory f (IsFaulty front cs p f)

-- what is read at the front
abbrev pub PieceRead : Front → List ℕ → Place → Result Piece LexFault → Type 0
PieceRead front cs p (Ok End) = cs ≡ []
PieceRead front cs p (Ok (Gap n)) = IsGap front cs n
PieceRead front cs p (Ok (One n t)) = IsToken front cs n t
PieceRead front cs p (Err f) = OrMemory f (IsFaulty front cs p f)

-- a token as a piece
abbrev pub piece_of : Result (ℕ × Token) LexFault → Result Piece LexFault
piece_of (Ok r) = Ok (One r.0 r.1)
piece_of (Err f) = Err f
