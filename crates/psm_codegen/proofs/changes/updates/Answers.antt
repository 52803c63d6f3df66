use Rattle.std.proofs.Common.{Some, None, sym, subst}
use Rattle.psm_code.specs.declared.code.Plan.TheVariants as plans
use Rattle.psm_exprgen.specs.Queries.{TestMade}
use Rattle.psm_codegen.specs.Simples.{Updates, update_all, update_current, update_where}
use Rattle.psm_codegen.proofs.changes.updates.Goals as goal

pub returns-in-All : goal.returns-in-All
returns-in-All c = subst (λ w. Updates c.args.known.now c.args.table c.args.sets.now w (plans.Update c.args.table c.in_ok-sets.sets None)) (sym c.in-All.is) (update_all c.in_ok-sets.ensures)

pub returns-in_ok-test_code-in-Test : goal.returns-in_ok-test_code-in-Test
returns-in_ok-test_code-in-Test c =
    subst (λ w. Updates c.args.known.now c.args.table c.args.sets.now w (plans.Update c.args.table c.in_ok-sets.sets (Some c.in_ok-test_code-in-Test.field-0))) (sym c.in-Test.is)
    (update_where c.in_ok-sets.ensures (subst (λ e. TestMade c.args.known.now c.args.table (Some e) (Some c.in_ok-test_code-in-Test.field-0)) c.get.ensures c.in_ok-test_code-in-Test.ensures))

pub returns-in-Current : goal.returns-in-Current
returns-in-Current c =
    subst (λ w. Updates c.args.known.now c.args.table c.args.sets.now w (plans.UpdateAt c.in-Current.cursor c.in_ok-sets.sets)) (sym c.in-Current.is) (update_current c.in_ok-sets.ensures)
