use Rattle.psm_exprcode.proofs.Running.{evaluates_letter}
use Rattle.psm_exprcode.proofs.evaluating.eval_on.Goals as goal

pub returns-clause-letter : goal.returns-clause-letter
returns-clause-letter c = λ end s.
    evaluates_letter c.args.code.now c.args.row.now c.args.vars.now end c.run-answer.result s (rw c.lines.ensures.value at c.run-answer.ensures.value)
