-- The kinds of tokens, numbered: names, numbers and texts, then each sign, then each word.
use Rattle.std.specs.Prelude.{ℕ, List, map}
use Rattle.psm_token.specs.declared.word.Word.{Word}
use Rattle.psm_token.specs.declared.token.Token.{Token}
use Rattle.psm_token.specs.declared.token.Token.TheVariants as t
use Rattle.psm_token.specs.declared.token.Placed.{Placed}
use Rattle.psm_token.specs.Signs.{sign_kind}
use Rattle.psm_token.specs.Words.{word_kind}

abbrev pub name_kind : ℕ
name_kind = 0

abbrev pub number_kind : ℕ
number_kind = 1

abbrev pub text_kind : ℕ
text_kind = 2

-- the number of a token's kind
abbrev pub token_kind : Token → ℕ
token_kind (t.Word word) = word_kind word
token_kind (t.Name name) = name_kind
token_kind (t.Number number) = number_kind
token_kind (t.Text text) = text_kind
token_kind (t.Sign sign) = sign_kind sign

abbrev pub kind : Placed → ℕ
kind p = token_kind p.token

-- the numbers of the kinds of some words
abbrev pub kinds_of : List Word → List ℕ
kinds_of words = map word_kind words
