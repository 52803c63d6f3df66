use Rattle.psm_print.proofs.ExprCarried.{expr_carried}
use Rattle.psm_print.proofs.StatementCarried.{statement_carried}
use Rattle.psm_print.proofs.FileCarried.{file_carried, script_carried}
use Rattle.psm_print.proofs.Apart.{spelled_without_positions}
use Rattle.psm_print.proofs.laws.trees_without_places.Goals as goal

pub returns-clause-of_file : goal.returns-clause-of_file
returns-clause-of_file c = spelled_without_positions file_carried 0

pub returns-clause-of_script : goal.returns-clause-of_script
returns-clause-of_script c = spelled_without_positions script_carried 0

pub returns-clause-of_expr : goal.returns-clause-of_expr
returns-clause-of_expr c = spelled_without_positions expr_carried

pub returns-clause-of_statement : goal.returns-clause-of_statement
returns-clause-of_statement c = spelled_without_positions statement_carried
