use Rattle.psm_tree.proofs.FileFits.{file_fit, script_fit}
use Rattle.psm_total.proofs.Files.{bytes_read}
use Rattle.psm_total.proofs.Trees.{tree_read}
use Rattle.psm_total.proofs.laws.files_are_read.Goals as goal

pub returns-clause-tokens : goal.returns-clause-tokens
returns-clause-tokens c = bytes_read

pub returns-clause-module_files : goal.returns-clause-module_files
returns-clause-module_files c = tree_read file_fit

pub returns-clause-scripts : goal.returns-clause-scripts
returns-clause-scripts c = tree_read script_fit
