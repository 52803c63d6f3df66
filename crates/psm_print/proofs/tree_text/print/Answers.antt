use Rattle.std.proofs.Common.{rules}
use Rattle.psm_print.proofs.TreePrinted.{tree_printed}
use Rattle.psm_print.proofs.tree_text.print.Goals as goal

pub returns : goal.returns
returns c = search (rules, tree_printed)
