-- The tokens that are printed for a module file's tree derive that tree.
use Rattle.std.proofs.Common.{length}
use Rattle.psm_token.specs.declared.token.Token.{Token}
use Rattle.psm_token.specs.declared.token.Placed.{Placed}
use Rattle.psm_grammar.specs.Language.{Words}
use Rattle.psm_grammar.specs.Grammar.{Spells}
use Rattle.psm_tree.specs.Productions.{productions}
use Rattle.psm_tree.specs.FileGrammar.{file}
use Rattle.psm_tree.specs.declared.file.FileTree.{FileTree}
use Rattle.psm_print.specs.FileTokens.{file_tokens}
use Rattle.psm_print.proofs.Printed.{AllGood, Kept, Printed}
use Rattle.psm_print.proofs.FileInto.{file_into}
use Rattle.psm_print.proofs.Whole.{at_level}

-- from a derivation of a tree another of the same tree, whose tokens are those that are printed
pub file_printed : (good : Token → Type 0) → Kept good → (w : Words Placed) (t : FileTree) → Spells productions 0 file w t → AllGood good w → Printed good (λ u x. Spells productions 0 file u x) t (file_tokens t) (length w)
file_printed good kept w t l a = (file_into {z = at_level good kept 0}).into w t l a
