use Rattle.std.proofs.Common.{◌≡◌, drop, length}
use Rattle.psm_code.specs.TableRules.{at_ends}
use Rattle.psm_verify.specs.Placed.{test_of}
use Rattle.psm_verify.proofs.placed.Placed.at_ends.Given as goal

abbrev pub invariant-loop-at : goal.invariant-loop-at
invariant-loop-at l = at_ends (test_of l.self.columns.now l.self.variables.now l.self.lines.now l.test) (length l.self.lines.now) 0 l.self.lines.now ≡ at_ends (test_of l.self.columns.now l.self.variables.now l.self.lines.now l.test) (length l.self.lines.now) l.at (drop l.at l.self.lines.now)
