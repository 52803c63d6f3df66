use Rattle.psm_names.proofs.Exprs.{expr-gives, query-gives}
use Rattle.psm_names.proofs.laws.names_in_expressions_are_resolved.Goals as goal

pub returns-clause-expressions : goal.returns-clause-expressions
returns-clause-expressions c = λ e s. (expr-gives e s).is

pub returns-clause-queries : goal.returns-clause-queries
returns-clause-queries c = λ q s. (query-gives q s).is
