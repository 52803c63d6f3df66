use Rattle.std.proofs.Common.{◌≡◌, drop}
use Rattle.std.specs.List.{flat_map}
use Rattle.psm_code.specs.PlanRules.{query_faults}
use Rattle.psm_verify.specs.Checked.{checked}
use Rattle.psm_verify.proofs.verify_context.VerifyContext.queries.Given as goal

abbrev pub invariant-loop-query : goal.invariant-loop-query
invariant-loop-query l = checked l.fn.line (flat_map (query_faults l.self.code.now l.self.routine.now) l.self.routine.now.queries) ≡ checked l.line (flat_map (query_faults l.self.code.now l.self.routine.now) (drop l.query-index l.self.routine.now.queries))
