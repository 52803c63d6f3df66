use Rattle.std.proofs.Common.{arith, ap, sym, ◌∙◌}
use Rattle.std.specs.Prelude.{reverse, option_map}
use Rattle.std.proofs.lemmas.Result.{IfOk-weaker}
use Rattle.psm_tablecode.proofs.FoldSteps.{fits_on, put_on}
use Rattle.psm_tablecode.proofs.folding.value_on.Goals as goal

pub put-requires : goal.put-requires
put-requires c =
    fits_on c.args.vars.now (reverse c.args.done.now) c.args.op.now (reverse c.in-Some.operands.items) c.folds-count.result c.folds-count.ensures (omega (arith, c.if-count-eq0.false))
    (sym (ap (option_map (λ os. reverse os.items)) c.in-Some.is) ∙ c.in_ok-operands.ensures)

pub returns-in-Some : goal.returns-in-Some
returns-in-Some c =
    IfOk-weaker c.put.result (_) (_)
    (λ v h. h ∙ put_on c.args.vars.now (reverse c.args.done.now) c.args.op.now (reverse c.in-Some.operands.items) c.folds-count.result c.folds-count.ensures (omega (arith, c.if-count-eq0.false))
    (sym (ap (option_map (λ os. reverse os.items)) c.in-Some.is) ∙ c.in_ok-operands.ensures)) c.put.ensures
