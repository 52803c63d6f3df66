use Rattle.std.proofs.Common.{◌≡◌, drop, map}
use Rattle.psm_code.specs.PlanRules.{cursor_fault}
use Rattle.psm_verify.specs.Checked.{checked}
use Rattle.psm_verify.proofs.plans.cursors.Given as goal

abbrev pub invariant-loop-cursor : goal.invariant-loop-cursor
invariant-loop-cursor l = checked l.fn.line (map (cursor_fault l.routine) l.routine.cursors) ≡ checked l.line (map (cursor_fault l.routine) (drop l.cursor-index l.routine.cursors))
