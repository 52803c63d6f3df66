-- Which kinds of tokens are names.
use Rattle.std.proofs.Common.{◌≡◌, ◌<◌, ℕ, Bool, true, false, cond, ltb, not, List, [], ◌∷◌, All, Ok, refl, ap, ◌∙◌}
use Rattle.std.proofs.lemmas.Bool.{ltb-true}
use Rattle.std.proofs.lemmas.List.Elements.{All-nil, All-cons}
use Rattle.std.proofs.lemmas.Str.{chars-IsAscii}
use Rattle.std.proofs.lemmas.Str.Ascii.{IsAscii-from_all}
use Rattle.psm_text.specs.Name.{named, name_of}
use Rattle.psm_token.specs.declared.word.Word.{Word}
use Rattle.psm_token.specs.declared.word.Word.TheVariants as w
use Rattle.psm_token.specs.declared.sign.Sign.{Sign}
use Rattle.psm_token.specs.declared.sign.Sign.TheVariants as s
use Rattle.psm_token.specs.Words.{text_of, is_reserved}
use Rattle.psm_grammar.specs.Language.{has}
use Rattle.psm_token.specs.Words.{word_kind}
use Rattle.psm_token.specs.Signs.{sign_kind}
use Rattle.psm_tree.specs.Tests.{name_kinds}

-- a word is of the kinds of names where it is not reserved
pub words_are : (word : Word) → has (word_kind word) name_kinds ≡ not (is_reserved word)
words_are w.And = refl
words_are _ = refl

-- each number is below 128
small : List ℕ → Bool
small [] = true
small (b ∷ bs) = cond (ltb b 128) (small bs) false

small_ascii : (bs : List ℕ) → small bs ≡ true → All (λ b. b < 128) bs
unfolding small
small_ascii [] h = All-nil (λ b. b < 128)
small_ascii (b ∷ bs) h = by (ltb b 128) refl h (small_ascii bs)
  where
    by : (t : Bool) → ltb b 128 ≡ t → cond t (small bs) false ≡ true → (small bs ≡ true → All (λ b. b < 128) bs) → All (λ b. b < 128) (b ∷ bs)
    by true e h more = All-cons (λ b. b < 128) b bs (ltb-true b 128 e) (more h)
    by false e h more = absurd cc

-- the letters of a word are ASCII
word_small : (word : Word) → small (text_of word) ≡ true
unfolding small
word_small w.And = refl
word_small _ = refl

-- the text of a word is neither empty nor too long
word_fits : (word : Word) → name_of (text_of word) ≡ Ok (text_of word)
word_fits w.And = refl
word_fits _ = refl

-- the text of a word is a name
pub word_named : (word : Word) → named (text_of word) ≡ Ok (text_of word)
word_named word = ap name_of (chars-IsAscii (text_of word) (IsAscii-from_all (text_of word) (small_ascii (text_of word) (word_small word)))) ∙ word_fits word

-- no sign is of the kinds of names
pub signs_are : (sign : Sign) → has (sign_kind sign) name_kinds ≡ false
signs_are s.LeftParen = refl
signs_are _ = refl
