use Rattle.psm_tree.proofs.ExprFits.{expr_fit}
use Rattle.psm_tree.proofs.StatementFits.{statement_fit}
use Rattle.psm_tree.proofs.FileFits.{file_fit, script_fit}
use Rattle.psm_print.proofs.ExprCarried.{expr_carried}
use Rattle.psm_print.proofs.StatementCarried.{statement_carried}
use Rattle.psm_print.proofs.FileCarried.{file_carried, script_carried}
use Rattle.psm_print.proofs.Apart.{spelled_apart}
use Rattle.psm_print.proofs.laws.one_tree_up_to_positions.Goals as goal

pub returns-clause-of_file : goal.returns-clause-of_file
returns-clause-of_file c = spelled_apart file_fit file_carried 0

pub returns-clause-of_script : goal.returns-clause-of_script
returns-clause-of_script c = spelled_apart script_fit script_carried 0

pub returns-clause-of_expr : goal.returns-clause-of_expr
returns-clause-of_expr c = spelled_apart expr_fit expr_carried

pub returns-clause-of_statement : goal.returns-clause-of_statement
returns-clause-of_statement c = spelled_apart statement_fit statement_carried
