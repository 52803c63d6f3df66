use Rattle.std.proofs.Common.{◌∷◌, ◌++◌, ◌-◌, [], arith, ap, sym, ◌∙◌, List, map, Option}
use Rattle.std.specs.Prelude.{reverse, option_map}
use Rattle.std.specs.Option.{option_copied}
use Rattle.psm_value.specs.declared.datum.Datum.{Datum}
use Rattle.psm_exprcode.specs.declared.operand.Operand.TheVariants.{Value}
use Rattle.psm_tablecode.specs.Folding.{last_values}
use Rattle.psm_tablecode.proofs.FoldSteps.{one_more, values_last}
use Rattle.psm_tablecode.proofs.folding.+last_values.Goals as goal

pub returns : goal.returns
returns t c =
    one_more c.in-Some-fixed.value.now (last_values c.args.vars.now (c.args.count - 1) (reverse c.in-Some.below.now)) c.in-Some-2.operands.items c.push.new.self.items
    (sym (ap (option_map (λ os. reverse os.items)) c.in-Some-2.is) ∙ c.in_ok-operands.ensures)
    (c.in_ok-push.ensures.items ∙ ap (λ (v : Datum). c.in-Some-2.operands.items ++ Value v ∷ []) c.in_ok-copy.ensures)
    ∙ sym (ap (λ (o : Option (List Datum)). option_map (λ ds. map Value ds) o)
    (values_last c.args.vars.now c.args.count c.in-Some.op.now (reverse c.in-Some.below.now) (reverse c.args.done.now) c.in-Some-fixed.value.now (omega (arith, c.if-count-eq0.false)) c.in-Some.ensures
    (sym (ap option_copied c.in-Some-fixed.is) ∙ c.fixed.ensures)))
