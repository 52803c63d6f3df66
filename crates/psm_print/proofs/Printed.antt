-- Words of the grammar that are printed for a tree.
use Rattle.std.proofs.Common.{◌≡◌, ℕ, ◌≤◌, true, List, [], ◌∷◌, map, length}
use Rattle.psm_token.specs.declared.word.Word.{Word}
use Rattle.psm_token.specs.declared.sign.Sign.{Sign}
use Rattle.psm_token.specs.declared.token.Token.{Token}
use Rattle.psm_token.specs.declared.token.Token.TheVariants as t
use Rattle.psm_token.specs.declared.token.Placed.{Placed}
use Rattle.psm_token.specs.Words.{word_kind, text_of}
use Rattle.psm_grammar.specs.Language.{Words, Lang, has}
use Rattle.psm_tree.specs.Tests.{name_kinds}

-- each token is good
abbrev pub AllGood : (Token → Type 0) → Words Placed → Type 0
AllGood good [] = Unit {0}
AllGood good (y ∷ w) = good y.0.token × AllGood good w

-- the tokens that a printer makes are good: words, signs, and the names that words which are not reserved are
pub record Kept (good : Token → Type 0) : Type 0 where
  pub of_word : (x : Word) → good (t.Word x)
  pub of_sign : (x : Sign) → good (t.Sign x)
  pub of_spelled : (x : Word) → has (word_kind x) name_kinds ≡ true → good (t.Name (text_of x))

-- a word whose value is x and whose tokens are these good ones, n at most
pub record Printed (good : Token → Type 0) {X : Type 0} (L : Lang Placed X) (x : X) (tokens : List Token) (n : ℕ) : Type 0 where
  pub word : Words Placed
  pub spells : L word x
  pub bare : map (λ y. y.0.token) word ≡ tokens
  pub short : length word ≤ n
  pub kept : AllGood good word
