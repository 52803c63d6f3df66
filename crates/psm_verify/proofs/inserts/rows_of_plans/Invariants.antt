use Rattle.std.proofs.Common.{◌≡◌, take, map}
use Rattle.psm_verify.specs.VerifyContext.{row_with}
use Rattle.psm_verify.proofs.inserts.rows_of_plans.Given as goal

abbrev pub invariant-loop-plan : goal.invariant-loop-plan
invariant-loop-plan l = l.rows.items ≡ map (row_with l.columns) (take l.plan-index l.plans)
