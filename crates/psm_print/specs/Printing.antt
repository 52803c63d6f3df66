-- What is printed of a module file's tree: a text that is read as that tree, up to positions.
use Rattle.std.specs.Prelude.{◌≡◌, ◌≤◌, ℕ, List, length}
use Rattle.psm_token.specs.declared.token.Placed.{Placed}
use Rattle.psm_token.specs.Listed.{Tokens}
use Rattle.psm_token.specs.Spells.{Spells as Lexes, most_tokens}
use Rattle.psm_spell.specs.Written.{AreSpellable, bare}
use Rattle.psm_grammar.specs.Language.{Words, toks}
use Rattle.psm_grammar.specs.Grammar.{Spells}
use Rattle.psm_tree.specs.Productions.{productions}
use Rattle.psm_tree.specs.FileGrammar.{file}
use Rattle.psm_tree.specs.declared.file.FileTree.{FileTree}
use Rattle.psm_print.specs.FileWithoutPositions.{file_without_positions}
use Rattle.psm_print.specs.Elsewhere.{SpellsUpToPositions}

-- these tokens spell the tree
pub record Derives (tokens : List Placed) (tree : FileTree) : Type 0 where
  pub word : Words Placed
  pub whole : toks word ≡ tokens
  pub spells : Spells productions 0 file word tree

-- some tokens spell the tree, wherever they stand: each can be written, and they are not too many for a file
pub record IsSpelledTree (tree : FileTree) : Type 0 where
  pub tokens : List Placed
  pub spellable : AreSpellable (bare tokens)
  pub few : length tokens ≤ most_tokens
  pub derived : Derives tokens tree

-- A file whose tokens spell the tree, up to positions. Set where the tree has its parts, they spell exactly it.
pub record IsFileOfTree (bytes : List ℕ) (tree : FileTree) : Type 0 where
  pub tokens : Tokens
  pub lexed : Lexes bytes tokens
  pub read : SpellsUpToPositions file file_without_positions 0 tokens.tokens tree
  pub own : List Placed
  pub same : bare own ≡ bare tokens.tokens
  pub derived : Derives own tree
