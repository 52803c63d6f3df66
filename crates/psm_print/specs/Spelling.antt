-- Tokens one after another, and the ways to put them together.
use Rattle.std.specs.Prelude.{List, [], ◌∷◌, ◌++◌, Option, Some, None}
use Rattle.psm_list.specs.Several.{Several}
use Rattle.psm_token.specs.declared.word.Word.{Word}
use Rattle.psm_token.specs.declared.sign.Sign.{Sign}
use Rattle.psm_token.specs.declared.sign.Sign.TheVariants as s
use Rattle.psm_token.specs.declared.token.Token.{Token}
use Rattle.psm_token.specs.declared.token.Token.TheVariants as t

abbrev pub Spelling : Type 0
Spelling = List Token

-- one word, one sign
abbrev pub word : Word → Spelling
word w = t.Word w ∷ []

abbrev pub sign : Sign → Spelling
sign s = t.Sign s ∷ []

-- what there is, after some tokens
abbrev pub perhaps : Spelling → Option Spelling → Spelling
perhaps before None = []
perhaps before (Some tokens) = before ++ tokens

-- each item after some tokens
abbrev pub each : Spelling → List Spelling → Spelling
each before [] = []
each before (tokens ∷ rest) = (before ++ tokens) ++ each before rest

-- items with some tokens between two of them
abbrev pub separated : Spelling → Several Spelling → Spelling
separated between items = items.first ++ each between items.rest

-- items with a comma between two of them
abbrev pub listed : List Spelling → Spelling
listed [] = []
listed (tokens ∷ rest) = tokens ++ each (sign s.Comma) rest

-- each item with a semicolon after it
abbrev pub ended : List Spelling → Spelling
ended [] = []
ended (tokens ∷ rest) = (tokens ++ sign s.Semicolon) ++ ended rest

-- one item or more as a list
abbrev pub all_of : {A : Type 0} → Several A → List A
all_of items = items.first ∷ items.rest

-- tokens in parentheses
abbrev pub in_parens : Spelling → Spelling
in_parens tokens = sign s.LeftParen ++ tokens ++ sign s.RightParen
