use Rattle.std.proofs.Common.{◌≡◌, drop}
use Rattle.psm_code.specs.TableRules.{expr_line_faults}
use Rattle.psm_verify.specs.Checked.{checked}
use Rattle.psm_verify.proofs.placed.Placed.each.Given as goal

abbrev pub invariant-loop-at : goal.invariant-loop-at
invariant-loop-at l = checked l.fn.line (expr_line_faults l.self.columns.now l.self.variables.now l.self.lines.now 0 l.self.lines.now) ≡ checked l.line (expr_line_faults l.self.columns.now l.self.variables.now l.self.lines.now l.at (drop l.at l.self.lines.now))
