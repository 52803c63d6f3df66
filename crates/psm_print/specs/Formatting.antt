-- A module file written anew.
use Rattle.std.specs.Prelude.{◌≡◌, ℕ, List, Result, Ok, Err, String, string_bytes}
use Rattle.std.specs.Global.{Global}
use Rattle.psm_token.specs.declared.fault.LexFault.{LexFault}
use Rattle.psm_token.specs.Answers.{OrMemory}
use Rattle.psm_token.specs.Listed.{Tokens}
use Rattle.psm_token.specs.Spells.{Spells as Lexes, IsFirstFault}
use Rattle.psm_grammar.specs.Grammar.{Spells}
use Rattle.psm_tree.specs.Productions.{productions}
use Rattle.psm_tree.specs.FileGrammar.{file}
use Rattle.psm_tree.specs.Reading.{ReadsAll}
use Rattle.psm_tree.specs.declared.fault.ParseFault.{ParseFault}
use Rattle.psm_tree.specs.declared.file.FileTree.{FileTree}
use Rattle.psm_print.specs.Printing.{Derives, IsFileOfTree}
use Rattle.psm_print.specs.declared.format.FormatFault.{FormatFault}
use Rattle.psm_print.specs.declared.format.FormatFault.TheVariants as faults

-- the file has this tree
pub record HasTree (bytes : List ℕ) (tree : FileTree) : Type 0 where
  pub tokens : Tokens
  pub lexed : Lexes bytes tokens
  pub derived : Derives tokens.tokens tree

-- the file's tokens have that fault as a module file
pub record HasNoTree (bytes : List ℕ) (fault : ParseFault) : Type 0 where
  pub tokens : Tokens
  pub lexed : Lexes bytes tokens
  pub stops : ReadsAll {X = FileTree} (Spells productions 0 file) (λ t. t) tokens (Err fault)

-- a file of the tree of the file that was read, or why there is none
abbrev pub Formats : List ℕ → Result (String Global) FormatFault → Type 0
Formats bytes (Ok text) = (tree : FileTree) × HasTree bytes tree × IsFileOfTree (string_bytes text) tree
Formats bytes (Err (faults.Lex fault)) = OrMemory fault (IsFirstFault bytes fault)
Formats bytes (Err (faults.Parse fault)) = HasNoTree bytes fault
Formats bytes (Err faults.Memory) = Unit {0}
