use Rattle.std.proofs.Common.{◌≡◌, drop, map}
use Rattle.psm_rules.specs.FileFaults.{branch_returns, handler_returns, has_return, some}
use Rattle.psm_rules.specs.StatementFaults.{several}
use Rattle.psm_check_stmt.proofs.routines.+returning.Given as goal

abbrev pub invariant-one_returns-loop-statement : goal.invariant-one_returns-loop-statement
invariant-one_returns-loop-statement l = some (map has_return (drop l.statement-index l.statements)) ≡ some (map has_return l.statements)

abbrev pub invariant-branches_return-loop-branch : goal.invariant-branches_return-loop-branch
invariant-branches_return-loop-branch l = some (map branch_returns (drop l.branch-index l.branches)) ≡ some (map branch_returns l.branches)

abbrev pub invariant-handlers_return-loop-handler : goal.invariant-handlers_return-loop-handler
invariant-handlers_return-loop-handler l = some (map handler_returns (drop l.handler-index l.handlers)) ≡ some (map handler_returns l.handlers)

abbrev pub invariant-several_return-loop-statement : goal.invariant-several_return-loop-statement
invariant-several_return-loop-statement l = some (map has_return (drop l.statement-index l.statement-items)) ≡ some (map has_return (several l.statements))
