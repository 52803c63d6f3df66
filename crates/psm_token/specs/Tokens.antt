-- Tokens as names.
use Rattle.std.specs.Prelude.{Bool, true, false, not}
use Rattle.psm_token.specs.declared.token.Token.{Token}
use Rattle.psm_token.specs.declared.token.Token.TheVariants.{Word, Name, Number, Text, Sign}
use Rattle.psm_token.specs.Words.{is_reserved}

-- whether a token is a name where the grammar has one
abbrev pub is_name : Token → Bool
is_name (Word w) = not (is_reserved w)
is_name (Name n) = true
is_name (Number d) = false
is_name (Text t) = false
is_name (Sign s) = false
