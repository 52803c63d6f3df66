-- What FOR has written, by its equation.
use Rattle.std.proofs.Common.{◌∙◌, ap, arith}
use Rattle.std.proofs.lemmas.List.{append_assoc, append-nil}
use Rattle.psm_print.specs.StatementTokens.{block_tokens}
use Rattle.psm_print.proofs.Equations.{block-For}
use Rattle.psm_print.proofs.statements.+statements.Goals as goal

pub block-returns-in_ok-all_statements-in-For : goal.block-returns-in_ok-all_statements-in-For
block-returns-in_ok-all_statements-in-For t c = let e = ap block_tokens c.in-For.is ∙ block-For c.in-For.place c.in-For.head c.in-For.body in grind (arith, append_assoc, append-nil, e)
