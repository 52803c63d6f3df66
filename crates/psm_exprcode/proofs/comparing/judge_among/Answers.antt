use Rattle.std.proofs.Common.{◌≡◌, ◌∙◌, sym, ap, take, get_or, Ok}
use Rattle.std.specs.Prelude.{reverse}
use Rattle.psm_exprcode.specs.declared.operand.Operand.TheVariants.{Value, Truth}
use Rattle.psm_exprcode.specs.Among.{data_in}
use Rattle.psm_exprcode.specs.Applied.{with_truth}
use Rattle.psm_exprcode.specs.Comparison.{among}
use Rattle.psm_exprcode.proofs.Among.{no_truth, among_at}
use Rattle.psm_exprcode.proofs.comparing.judge_among.Goals as goal

pub unreachable-requires : goal.unreachable-requires
unreachable-requires c =
    let g : Truth c.in-Truth.field-0 ≡ get_or c.args.operands.now c.args.index (Truth c.in-Truth.field-0) = rw c.in-Truth.is at c.index-operands-index.is in
    no_truth c.args.count c.args.index c.args.operands.now c.in-Truth.field-0 c.requires.index g c.requires.values

pub returns : goal.returns
returns c =
    let g : Value c.in-Value.value ≡ get_or c.args.operands.now c.args.index (Value c.in-Value.value) = rw c.in-Value.is at c.index-operands-index.is in
    let judged = c.judge_each.ensures ∙ ap (λ u. among c.in-Value.value (data_in (reverse u))) c.after.ensures in
    among_at c.args.count c.args.index c.args.operands.now c.in-Value.value c.requires.index g c.requires.values
    ∙ ap (λ t. with_truth (reverse (take c.args.index c.args.operands.now)) (Ok t)) (sym judged)
