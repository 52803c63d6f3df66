-- Grammars over numbers, which are their own kinds, with the trees of their words as values: of each
-- grammar, these have the words.
use Rattle.std.specs.Prelude.{ℕ, List, [], ◌∷◌}
use Rattle.psm_grammar.specs.Language.{Test}
use Rattle.psm_grammar.specs.Grammar.{Grammar, token, level, next, nothing, seq, or, ahead, many, image, Productions}

-- how a word was read
pub data Tree : Type 0 where
  Leaf : ℕ → Tree
  None : Tree
  Pair : Tree → Tree → Tree

-- a part of a grammar
pub data Plain : Type 0 where
  Of : List ℕ → Plain
  Level : ℕ → List ℕ → Plain
  Next : ℕ → List ℕ → Plain
  Nothing : Plain
  Seq : Plain → Plain → Plain
  Or : Plain → Plain → Plain
  Ahead : List ℕ → List ℕ → Plain → Plain → Plain
  Many : Plain → Plain

abbrev pub kind : ℕ → ℕ
kind n = n

abbrev pub V : ℕ → Type 0
V n = Tree

abbrev pub first_of : List ℕ → ℕ
first_of [] = 0
first_of (n ∷ ns) = n

abbrev pub one_of : List ℕ → Test ℕ Tree
one_of kinds = record { kinds = kinds; value = Leaf; example = first_of kinds }

abbrev pub all_of : List Tree → Tree
all_of [] = None
all_of (t ∷ ts) = Pair t (all_of ts)

-- the grammar of a part
abbrev pub grammar : Plain → Grammar kind V Tree
grammar (Of kinds) = token (one_of kinds)
grammar (Level n kinds) = level n (one_of kinds) Pair
grammar (Next n kinds) = next n (one_of kinds) Pair
grammar Nothing = nothing None
grammar (Seq p q) = seq Pair (grammar p) (grammar q)
grammar (Or p q) = or (grammar p) (grammar q)
grammar (Ahead ones twos p q) = ahead ones twos (grammar p) (grammar q)
grammar (Many p) = image all_of (many (grammar p))

abbrev pub grammars : (ℕ → Plain) → Productions kind V
grammars prods n = grammar (prods n)
