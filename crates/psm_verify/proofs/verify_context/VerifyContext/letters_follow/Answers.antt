use Rattle.std.proofs.Common.{◌≡◌, ap, subst, sym, ◌∙◌}
use Rattle.std.specs.Prelude.{IfOk}
use Rattle.psm_code.specs.Instructions.{plan_letters}
use Rattle.psm_verify.specs.Moves.{plan_follows}
use Rattle.psm_verify.specs.VerifyContext.{row_with}
use Rattle.psm_verify.proofs.Rows.{rows_taken}
use Rattle.psm_verify.proofs.verify_context.VerifyContext.letters_follow.Goals as goal

pub returns-in-Insert : goal.returns-in-Insert
returns-in-Insert c =
    let code = c.args.self.now.code.now in
    let columns = c.args.self.now.columns.now in
    subst (λ o. IfOk c.insert_follows.result (λ b. b ≡ plan_follows c.args.self.now.routine.now c.args.at c.args.operands.now o))
    (rows_taken code columns c.in-Insert.table c.in-Insert.columns c.in-Insert.rows c.args.row.now c.args.self.now.known.columns_are (c.requires.row ∙ ap (row_with columns) c.in-Insert.is)
    ∙ sym (ap (plan_letters code) c.in-Insert.is))
    c.insert_follows.ensures
