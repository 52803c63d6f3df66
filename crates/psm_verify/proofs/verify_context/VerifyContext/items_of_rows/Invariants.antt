use Rattle.std.proofs.Common.{◌≡◌, drop}
use Rattle.std.specs.List.{flat_map}
use Rattle.psm_code.specs.PlanRules.{item_in}
use Rattle.psm_verify.specs.Checked.{checked}
use Rattle.psm_verify.proofs.verify_context.VerifyContext.items_of_rows.Given as goal

abbrev pub invariant-loop-code : goal.invariant-loop-code
invariant-loop-code l = checked l.fn.line (flat_map (item_in l.self.code.now l.self.routine.now l.table) l.codes) ≡ checked l.line (flat_map (item_in l.self.code.now l.self.routine.now l.table) (drop l.code-index l.codes))
