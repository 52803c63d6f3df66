-- The trees of a file's bytes, and why the bytes have none.
use Rattle.std.specs.Prelude.{◌≡◌, ℕ, ◌⊎◌, List, Some, None, Result, Ok, Err}
use Rattle.psm_token.specs.declared.fault.LexFault.{LexFault}
use Rattle.psm_token.specs.declared.token.Placed.{Placed}
use Rattle.psm_token.specs.Listed.{Tokens}
use Rattle.psm_token.specs.Spells.{Spells, IsFirstFault}
use Rattle.psm_grammar.specs.Language.{Lang}
use Rattle.psm_grammar.specs.Grammar.{Spells as Derives}
use Rattle.psm_tree.specs.Productions.{productions}
use Rattle.psm_tree.specs.FileGrammar.{file, script}
use Rattle.psm_tree.specs.Reading.{ReadsAll}
use Rattle.psm_tree.specs.declared.fault.ParseFault.{ParseFault}
use Rattle.psm_tree.specs.declared.file.FileTree.{FileTree}
use Rattle.psm_tree.specs.declared.script.ScriptTree.{ScriptTree}
use Rattle.psm_rules.specs.FileFaults.{file_fault}
use Rattle.psm_rules.specs.declared.fault.Fault.{Fault as RuleFault}
use Rattle.psm_check_script.specs.Known.{Known}
use Rattle.psm_check_script.specs.ScriptFaults.{script_fault}
use Rattle.psm_faults.specs.Reported.{reported_of_rule, reported_of_tokens, reported_of_tree}
use Rattle.psm_faults.specs.declared.fault.Fault.{Fault}
use Rattle.psm_faults.specs.declared.fault.BuildFault.{BuildFault}
use Rattle.psm_faults.specs.declared.fault.BuildFault.TheVariants.{Refused, Memory}

-- the tokens of module files, and of scripts, with their trees
abbrev pub module_files : Lang Placed FileTree
module_files = Derives productions 0 file

abbrev pub scripts : Lang Placed ScriptTree
scripts = Derives productions 0 script

-- the bytes spell tokens that spell the tree, and no token opens a level too many
pub record IsTreeOf {Y : Type 0} (L : Lang Placed Y) (bytes : List ℕ) (tree : Y) : Type 0 where
  pub tokens : Tokens
  pub spelled : Spells bytes tokens
  pub tree_is : ReadsAll L (λ y. y) tokens (Ok tree)

-- the first fault of the tokens is reported so
pub record IsTokenFault (bytes : List ℕ) (reported : BuildFault) : Type 0 where
  pub fault : LexFault
  pub first : IsFirstFault bytes fault
  pub reported_is : reported_of_tokens fault ≡ reported

-- the bytes spell tokens, whose fault is reported so
pub record IsTreeFault {Y : Type 0} (L : Lang Placed Y) (bytes : List ℕ) (reported : BuildFault) : Type 0 where
  pub tokens : Tokens
  pub spelled : Spells bytes tokens
  pub fault : ParseFault
  pub fault_is : ReadsAll {X = Y} L (λ y. y) tokens (Err fault)
  pub reported_is : reported_of_tree fault ≡ reported

-- the bytes have no tree, and their first fault is that one, at that line and column
abbrev pub IsFaultAt : {Y : Type 0} → Lang Placed Y → List ℕ → ℕ → ℕ → Fault → Type 0
IsFaultAt L bytes line column fault = IsTokenFault bytes (Refused line column fault) ⊎ IsTreeFault L bytes (Refused line column fault)

-- ---- the rules of a module file

-- the first fault of the tree is reported so
pub record BreaksRule (tree : FileTree) (reported : BuildFault) : Type 0 where
  pub fault : RuleFault
  pub first : file_fault tree ≡ Some fault
  pub reported_is : reported_of_rule fault ≡ reported

-- the bytes have a tree, whose first fault is reported so
pub record IsRuleFault (bytes : List ℕ) (reported : BuildFault) : Type 0 where
  pub tree : FileTree
  pub tree_is : IsTreeOf module_files bytes tree
  pub breaks : BreaksRule tree reported

-- no part of the tree has a fault
abbrev pub IsAccepted : FileTree → Type 0
IsAccepted tree = file_fault tree ≡ None

-- the tree is accepted, or its first fault
abbrev pub Accepts : FileTree → Result (Unit {0}) BuildFault → Type 0
Accepts tree (Ok u) = IsAccepted tree
Accepts tree (Err (Refused line column fault)) = BreaksRule tree (Refused line column fault)
Accepts tree (Err Memory) = Unit {0}

-- ---- the rules of a script, over what it may name

abbrev pub IsAcceptedScript : Known → ScriptTree → Type 0
IsAcceptedScript known tree = script_fault known tree ≡ None

-- the first fault of the tree is reported so
pub record BreaksScriptRule (known : Known) (tree : ScriptTree) (reported : BuildFault) : Type 0 where
  pub fault : RuleFault
  pub first : script_fault known tree ≡ Some fault
  pub reported_is : reported_of_rule fault ≡ reported

-- the bytes have a tree, whose first fault is reported so
pub record IsScriptRuleFault (known : Known) (bytes : List ℕ) (reported : BuildFault) : Type 0 where
  pub tree : ScriptTree
  pub tree_is : IsTreeOf scripts bytes tree
  pub breaks : BreaksScriptRule known tree reported
