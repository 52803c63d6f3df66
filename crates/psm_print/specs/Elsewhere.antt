-- Tokens that spell a tree, up to positions.
use Rattle.std.specs.Prelude.{◌≡◌, ℕ, List}
use Rattle.psm_token.specs.declared.token.Placed.{Placed}
use Rattle.psm_grammar.specs.Language.{Words, toks}
use Rattle.psm_grammar.specs.Grammar.{Spells}
use Rattle.psm_tree.specs.ExprGrammar.{Gram}
use Rattle.psm_tree.specs.Productions.{productions}

-- these tokens spell, by that part of the grammar, a tree that is this one where both forget their places
pub record SpellsUpToPositions {X : Type 0} (g : Gram X) (forget : X → X) (depth : ℕ) (tokens : List Placed) (tree : X) : Type 0 where
  pub word : Words Placed
  pub whole : toks word ≡ tokens
  pub own : X
  pub spells : Spells productions depth g word own
  pub same : forget own ≡ forget tree
