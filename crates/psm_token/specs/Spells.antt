-- A file as a list of tokens with places, with separators and comments between them (ISO/IEC 9075:1992, 5.2).
use Rattle.std.specs.Prelude.{◌≡◌, ℕ, zero, suc, ◌≤◌, ◌⊎◌, Bool, false, List, [], ◌∷◌, ◌++◌, length, take, drop}
use Rattle.std.specs.Str.{IsUtf8, chars}
use Rattle.std.specs.Str.Lossy.{utf8_valid_len}
use Rattle.psm_token.specs.declared.fault.LexFault.{LexFault}
use Rattle.psm_token.specs.declared.fault.LexFault.TheVariants.{BadUtf8, ManyTokens}
use Rattle.psm_token.specs.declared.place.Place.{Place}
use Rattle.psm_token.specs.declared.token.Placed.{Placed}
use Rattle.psm_token.specs.declared.token.Token.{Token}
use Rattle.psm_token.specs.Faults.{IsFaulty}
use Rattle.psm_token.specs.Forms.{IsToken, IsGap}
use Rattle.psm_token.specs.Fronts.{front_of}
use Rattle.psm_token.specs.Listed.{Tokens}
use Rattle.psm_token.specs.Places.{start, place_after}
use Rattle.psm_token.specs.Tokens.{is_name}

-- where reading stands: whether a name stands directly before, the place, and the characters that are left
pub record At : Type 0 where
  pub after_name : Bool
  pub place : Place
  pub rest : List ℕ

-- at the front of all the characters of a file
abbrev pub at_start : List ℕ → At
at_start bytes = record { after_name = false; place = start; rest = chars bytes }

-- after n characters more
abbrev pub following : ℕ → Bool → At → At
following n after_name s = record { after_name = after_name; place = place_after (take n s.rest) s.place; rest = drop n s.rest }

-- a separator or a comment, and where it leads
pub record Gap (s : At) (ts : List Placed) (s' : At) : Type 0 where
  pub size : ℕ
  pub form : IsGap (front_of s.after_name s.rest) s.rest size
  pub nothing : ts ≡ []
  pub leads : s' ≡ following size false s

-- a token with its place, and where it leads
pub record One (s : At) (ts : List Placed) (s' : At) : Type 0 where
  pub size : ℕ
  pub token : Token
  pub form : IsToken (front_of s.after_name s.rest) s.rest size token
  pub listed : ts ≡ record { token = token; place = s.place } ∷ []
  pub leads : s' ≡ following size (is_name token) s

-- what stands at the front: a separator, a comment or a token
abbrev pub Piece : At → List Placed → At → Type 0
Piece s ts s' = Gap s ts s' ⊎ One s ts s'

-- n pieces, one after the other
abbrev pub Pieces : ℕ → At → List Placed → At → Type 0
Pieces zero s ts s' = (ts ≡ []) × (s' ≡ s)
Pieces (suc n) s ts s' = (m : At) × (us : List Placed) × (vs : List Placed) × Pieces n s us m × Piece m vs s' × (ts ≡ us ++ vs)

-- the most tokens of a file
abbrev pub most_tokens : ℕ
most_tokens = 2000000

-- from the start of a file of UTF-8 one comes, by pieces with these tokens, to where reading stands
pub record Reaches (bytes : List ℕ) (ts : List Placed) (s : At) : Type 0 where
  pub utf8 : IsUtf8 bytes
  pub count : ℕ
  pub pieces : Pieces count (at_start bytes) ts s
  pub limit : length ts ≤ most_tokens

-- the file is these tokens, and its end is at that place
pub record Spells (bytes : List ℕ) (ts : Tokens) : Type 0 where
  pub last : At
  pub reaches : Reaches bytes ts.tokens last
  pub whole : last.rest ≡ []
  pub ends : ts.end ≡ last.place

-- a token that has no fault stands at the front
abbrev pub HasToken : At → Type 0
HasToken s = (n : ℕ) × (t : Token) × IsToken (front_of s.after_name s.rest) s.rest n t

-- the token after these ones is faulty, or it is one too many
abbrev pub StopsAt : List Placed → At → LexFault → Type 0
StopsAt ts s (ManyTokens p) = (length ts ≡ most_tokens) × HasToken s × (p ≡ s.place)
StopsAt ts s f = IsFaulty (front_of s.after_name s.rest) s.rest s.place f

-- the fault of the first token that is faulty or one too many
pub record IsTokenFault (bytes : List ℕ) (f : LexFault) : Type 0 where
  pub before : List Placed
  pub at : At
  pub reaches : Reaches bytes before at
  pub stops : StopsAt before at f

-- the first fault of a file: bytes that are no character before all others
abbrev pub IsFirstFault : List ℕ → LexFault → Type 0
IsFirstFault bytes (BadUtf8 p) = ¬ (IsUtf8 bytes) × (p ≡ place_after (chars (take (utf8_valid_len bytes) bytes)) start)
IsFirstFault bytes f = IsTokenFault bytes f
