use Rattle.psm_print.proofs.ExprCarried.{expr_carried}
use Rattle.psm_print.proofs.StatementCarried.{statement_carried}
use Rattle.psm_print.proofs.FileCarried.{file_carried, script_carried}
use Rattle.psm_print.proofs.Apart.{spelled_elsewhere}
use Rattle.psm_print.proofs.laws.trees_at_other_places.Goals as goal

pub returns-clause-of_file : goal.returns-clause-of_file
returns-clause-of_file c = spelled_elsewhere file_carried 0

pub returns-clause-of_script : goal.returns-clause-of_script
returns-clause-of_script c = spelled_elsewhere script_carried 0

pub returns-clause-of_expr : goal.returns-clause-of_expr
returns-clause-of_expr c = spelled_elsewhere expr_carried

pub returns-clause-of_statement : goal.returns-clause-of_statement
returns-clause-of_statement c = spelled_elsewhere statement_carried
