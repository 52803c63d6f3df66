use Rattle.std.proofs.Common.{subst}
use Rattle.psm_verify.specs.Checked.{Finds, checked}
use Rattle.psm_verify.specs.Placed.{due_of}
use Rattle.psm_verify.proofs.KnownLetters.{expr_in_is}
use Rattle.psm_verify.proofs.verify_context.VerifyContext.expression.Goals as goal

pub returns : goal.returns
returns c =
    subst (λ rs. Finds (checked c.args.line rs) c.expression.result)
    (expr_in_is c.args.self.now.code.now c.args.self.now.routine.now c.args.self.now.columns.now c.args.self.now.variables.now c.columns_at-columns.result.now c.args.self.now.items.now c.args.self.now.rows.now c.args.self.now.calls.now c.args.table (due_of c.args.due) c.args.code.now
    c.args.self.now.known c.columns_at-columns.ensures)
    c.expression.ensures
