use Rattle.std.proofs.Common.{◌≡◌, Ok, rules}
use Rattle.psm_code.specs.PlanRules.{sets_in, test_in}
use Rattle.psm_verify.specs.Checked.{checked}
use Rattle.psm_verify.proofs.LinesInOrder.{go, stop}
use Rattle.psm_verify.proofs.verify_context.VerifyContext.update.Goals as goal

pub returns-in_err-line : goal.returns-in_err-line
returns-in_err-line c =
    stop (sets_in c.args.self.now.code.now c.args.self.now.routine.now c.args.table c.args.sets.now) (test_in c.args.self.now.code.now c.args.self.now.routine.now c.args.table c.args.test.now) c.args.line (search rules)
    (c.in_err-line.ensures)

pub returns : goal.returns
returns c =
    let passed_1 : checked c.args.line (sets_in c.args.self.now.code.now c.args.self.now.routine.now c.args.table c.args.sets.now) ≡ Ok c.in_ok-line.line = c.in_ok-line.ensures in
    go (sets_in c.args.self.now.code.now c.args.self.now.routine.now c.args.table c.args.sets.now) (test_in c.args.self.now.code.now c.args.self.now.routine.now c.args.table c.args.test.now) c.args.line c.test.result passed_1 (c.test.ensures)
