use Rattle.std.proofs.Common.{◌≡◌, Ok, rules}
use Rattle.psm_code.specs.RoutineRules.{line_faults}
use Rattle.psm_verify.specs.Listed.{part_faults}
use Rattle.psm_verify.specs.Checked.{checked}
use Rattle.psm_verify.proofs.LinesInOrder.{go, stop}
use Rattle.psm_verify.proofs.verify_context.VerifyContext.routine.Goals as goal

pub returns-in_err-line : goal.returns-in_err-line
returns-in_err-line c =
    stop (part_faults c.args.self.now.code.now c.args.before.now c.args.self.now.routine.now) (line_faults c.args.self.now.code.now c.args.self.now.routine.now 0 c.args.self.now.routine.now.lines) c.args.line (search rules)
    (c.in_err-line.ensures)

pub returns : goal.returns
returns c =
    let passed_1 : checked c.args.line (part_faults c.args.self.now.code.now c.args.before.now c.args.self.now.routine.now) ≡ Ok c.in_ok-line.line = c.in_ok-line.ensures in
    go (part_faults c.args.self.now.code.now c.args.before.now c.args.self.now.routine.now) (line_faults c.args.self.now.code.now c.args.self.now.routine.now 0 c.args.self.now.routine.now.lines) c.args.line c.lines.result passed_1 (c.lines.ensures)
