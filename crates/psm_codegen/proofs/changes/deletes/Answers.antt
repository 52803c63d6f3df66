use Rattle.std.proofs.Common.{Some, None, sym, subst}
use Rattle.psm_code.specs.declared.code.Plan.TheVariants as plans
use Rattle.psm_exprgen.specs.Queries.{TestMade}
use Rattle.psm_codegen.specs.Simples.{Deletes, delete_all, delete_current, delete_where}
use Rattle.psm_codegen.proofs.changes.deletes.Goals as goal

pub returns-in-All : goal.returns-in-All
returns-in-All c = subst (λ w. Deletes c.args.known.now c.args.table w (plans.Delete c.args.table None)) (sym c.in-All.is) delete_all

pub returns-in_ok-test_code-in-Test : goal.returns-in_ok-test_code-in-Test
returns-in_ok-test_code-in-Test c =
    subst (λ w. Deletes c.args.known.now c.args.table w (plans.Delete c.args.table (Some c.in_ok-test_code-in-Test.field-0))) (sym c.in-Test.is)
    (delete_where (subst (λ e. TestMade c.args.known.now c.args.table (Some e) (Some c.in_ok-test_code-in-Test.field-0)) c.get.ensures c.in_ok-test_code-in-Test.ensures))

pub returns-in-Current : goal.returns-in-Current
returns-in-Current c = subst (λ w. Deletes c.args.known.now c.args.table w (plans.DeleteAt c.in-Current.cursor)) (sym c.in-Current.is) delete_current
