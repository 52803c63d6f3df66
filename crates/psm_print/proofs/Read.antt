-- What the parser reads of a file is the tree of the file.
use Rattle.std.proofs.Common.{◌≡◌, ℕ, List, [], ◌++◌, sym, ◌∙◌, Ok}
use Rattle.std.proofs.lemmas.List.{append-nil}
use Rattle.psm_token.specs.declared.token.Placed.{Placed}
use Rattle.psm_token.specs.Listed.{Tokens}
use Rattle.psm_token.specs.Spells.{Spells as Lexes}
use Rattle.psm_grammar.specs.Language.{toks}
use Rattle.psm_grammar.specs.Grammar.{Spells}
use Rattle.psm_grammar.specs.Exact.{AtEnd, Good}
use Rattle.psm_tree.specs.Productions.{productions}
use Rattle.psm_tree.specs.FileGrammar.{file}
use Rattle.psm_tree.specs.Reading.{most_levels, ReadsAll}
use Rattle.psm_tree.specs.declared.file.FileTree.{FileTree}
use Rattle.psm_print.specs.Printing.{Derives, IsSpelledTree}
use Rattle.psm_print.proofs.TreePrinted.{file_tree}
use Rattle.psm_print.specs.Formatting.{HasTree}

derived : (ts : List Placed) (t : FileTree) → Good (Spells productions 0 file) AtEnd most_levels ts t [] → Derives ts t
derived ts t g = record { word = g.front; whole = sym (g.parts ∙ append-nil (toks g.front)); spells = g.spelled }

module _ (bytes : List ℕ) (ts : Tokens) (t : FileTree) (l : Lexes bytes ts) (r : ReadsAll (Spells productions 0 file) (λ t. t) ts (Ok t)) where
  pub read_tree : IsSpelledTree t
  read_tree = file_tree bytes ts l t (derived ts.tokens t r)

  pub has_tree : HasTree bytes t
  has_tree = record { tokens = ts; lexed = l; derived = derived ts.tokens t r }
