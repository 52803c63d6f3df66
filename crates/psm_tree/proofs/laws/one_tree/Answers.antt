use Rattle.psm_tree.proofs.StatementFits.{statement_fit}
use Rattle.psm_tree.proofs.ExprFits.{expr_fit}
use Rattle.psm_tree.proofs.FileFits.{file_fit, script_fit}
use Rattle.psm_tree.proofs.Readable.{spelled_once}
use Rattle.psm_tree.proofs.laws.one_tree.Goals as goal

pub returns-clause-of_file : goal.returns-clause-of_file
returns-clause-of_file c = spelled_once file_fit 0

pub returns-clause-of_script : goal.returns-clause-of_script
returns-clause-of_script c = spelled_once script_fit 0

pub returns-clause-of_expr : goal.returns-clause-of_expr
returns-clause-of_expr c = spelled_once expr_fit

pub returns-clause-of_statement : goal.returns-clause-of_statement
returns-clause-of_statement c = spelled_once statement_fit
