use Rattle.std.proofs.Common.{◌≡◌, Ok, true, arith, ◌+◌, [], ◌∷◌, Some, None, take, drop, sym, ap, ◌∙◌, refl}
use Rattle.psm_exprcode.specs.declared.op.Letter.TheVariants.{N, T}
use Rattle.psm_exprcode.specs.declared.op.Op.TheVariants as op
use Rattle.psm_resolved.specs.declared.expr.ResolvedExpr.TheVariants as exprs
use Rattle.psm_resolved.proofs.Forms.{number_written, text_written, column_written, variable_written, not_written, negated_written, trim_written, function_written, is_null_written, cast_written, compare_written, position_written, part_written, part_for_written, like_written, like_escape_written, between_written, null_if_written}
use Rattle.psm_resolved.proofs.Sources.{source_written, null_written, null_alone, call_written, scalar_written, exists_written, written_as, operator_chain_written}
use Rattle.psm_resolved.specs.RowValue.{listed}
use Rattle.psm_resolved.proofs.Lists.{in_written, list_first, list_next, list_end}
use Rattle.std.proofs.lemmas.Grind.{common_steps}
use Rattle.psm_resolved.proofs.Cases.{coalesce_written, awaits_first, others_next, others_end, left_item}
use Rattle.psm_resolved.proofs.Choices.{branch_written, branches_first, branches_next, branches_end, else_null, else_given, searched_written, compared_written}
use Rattle.std.proofs.lemmas.List.{drop_all}
use Rattle.psm_resolved.proofs.Several.{logical_operator_first, logical_operator_next, logical_operator_end, extends_next, extends_end, next_item, all_items, writes_same, first_same, rest_same}
use Rattle.psm_resolved.proofs.exprs.+writing.Goals as goal

pub expr-returns-in-Number : goal.expr-returns-in-Number
expr-returns-in-Number t c = number_written c.args.expr_context.columns.now c.args.expr_context.variables.now c.args.e.now c.in-Number.value c.args.out.now c.apply.new.self c.apply.result c.in-Number.is c.apply.ensures

pub expr-returns-in_ok-copy-in-Text : goal.expr-returns-in_ok-copy-in-Text
expr-returns-in_ok-copy-in-Text t c = text_written c.args.expr_context.columns.now c.args.expr_context.variables.now c.args.e.now c.in_ok-copy-in-Text.field-0 c.args.out.now c.apply-in-Text.new.self c.apply-in-Text.result (c.in-Text.is ∙ ap exprs.Text (sym c.in_ok-copy-in-Text.ensures)) c.apply-in-Text.ensures

pub expr-returns-in-Column : goal.expr-returns-in-Column
expr-returns-in-Column t c = column_written c.args.expr_context.columns.now c.args.expr_context.variables.now c.args.e.now c.in-Column.index c.letter_at-letter.result c.args.out.now c.apply-in-Column.new.self c.apply-in-Column.result c.in-Column.is c.letter_at-letter.ensures c.apply-in-Column.ensures

pub expr-returns-in-Variable : goal.expr-returns-in-Variable
expr-returns-in-Variable t c = variable_written c.args.expr_context.columns.now c.args.expr_context.variables.now c.args.e.now c.in-Variable.slot c.letter_at-letter-in-Variable.result c.args.out.now c.apply-in-Variable.new.self c.apply-in-Variable.result c.in-Variable.is c.letter_at-letter-in-Variable.ensures c.apply-in-Variable.ensures

pub expr-returns-in-LogicalOperator : goal.expr-returns-in-LogicalOperator
expr-returns-in-LogicalOperator t c = written_as c.args.expr_context.columns.now c.args.expr_context.variables.now c.args.e.now (exprs.LogicalOperator c.in-LogicalOperator.logical_operator c.in-LogicalOperator.operands) c.args.out.now c.joined.new.out c.joined.result c.in-LogicalOperator.is c.joined.ensures

pub expr-returns-in_ok-expr-in-Not : goal.expr-returns-in_ok-expr-in-Not
expr-returns-in_ok-expr-in-Not t c = not_written c.args.expr_context.columns.now c.args.expr_context.variables.now c.args.e.now c.get.result.now c.args.out.now c.expr.new.out c.apply-in-Not.new.self c.apply-in-Not.result (c.in-Not.is ∙ ap exprs.Not (sym c.get.ensures)) c.in_ok-expr-in-Not.ensures c.apply-in-Not.ensures

pub expr-returns-in_ok-expr-in-Compare-2 : goal.expr-returns-in_ok-expr-in-Compare-2
expr-returns-in_ok-expr-in-Compare-2 t c = compare_written c.args.expr_context.columns.now c.args.expr_context.variables.now c.args.e.now c.get-in-Compare.result.now c.get-in-Compare-2.result.now c.in-Compare.operator c.comparing.result c.args.out.now c.expr-in-Compare.new.out c.expr-in-Compare-2.new.out c.apply-in-Compare.new.self c.apply-in-Compare.result (c.in-Compare.is ∙ ap (λ x. exprs.Compare c.in-Compare.operator x c.in-Compare.right) (sym c.get-in-Compare.ensures) ∙ ap (exprs.Compare c.in-Compare.operator c.get-in-Compare.result.now) (sym c.get-in-Compare-2.ensures)) c.comparing.ensures c.in_ok-expr-in-Compare.ensures c.in_ok-expr-in-Compare-2.ensures c.apply-in-Compare.ensures

pub expr-returns-in_ok-apply-in-IsNull : goal.expr-returns-in_ok-apply-in-IsNull
expr-returns-in_ok-apply-in-IsNull t c = is_null_written c.args.expr_context.columns.now c.args.expr_context.variables.now c.args.e.now c.get-in-IsNull.result.now c.in-IsNull.negated c.args.out.now c.expr-in-IsNull.new.out c.apply-in-IsNull.new.self c.perhaps_not.new.self c.perhaps_not.result (c.in-IsNull.is ∙ ap (exprs.IsNull c.in-IsNull.negated) (sym c.get-in-IsNull.ensures)) c.in_ok-expr-in-IsNull.ensures c.in_ok-apply-in-IsNull.ensures c.perhaps_not.ensures

pub expr-returns-in_ok-apply-in-Between : goal.expr-returns-in_ok-apply-in-Between
expr-returns-in_ok-apply-in-Between t c = between_written c.args.expr_context.columns.now c.args.expr_context.variables.now c.args.e.now c.get-in-Between.result.now c.get-in-Between-2.result.now c.get-in-Between-3.result.now c.in-Between.negated c.args.out.now c.expr-in-Between.new.out c.expr-in-Between-2.new.out c.expr-in-Between-3.new.out c.apply-in-Between.new.self c.perhaps_not-in-Between.new.self c.perhaps_not-in-Between.result (c.in-Between.is ∙ ap (λ x. exprs.Between c.in-Between.negated x c.in-Between.low c.in-Between.high) (sym c.get-in-Between.ensures) ∙ ap (λ x. exprs.Between c.in-Between.negated c.get-in-Between.result.now x c.in-Between.high) (sym c.get-in-Between-2.ensures) ∙ ap (exprs.Between c.in-Between.negated c.get-in-Between.result.now c.get-in-Between-2.result.now) (sym c.get-in-Between-3.ensures)) c.in_ok-expr-in-Between.ensures c.in_ok-expr-in-Between-2.ensures c.in_ok-expr-in-Between-3.ensures c.in_ok-apply-in-Between.ensures c.perhaps_not-in-Between.ensures

pub expr-returns-in_ok-expr-in-OperatorChain : goal.expr-returns-in_ok-expr-in-OperatorChain
expr-returns-in_ok-expr-in-OperatorChain t c = operator_chain_written c.args.expr_context.columns.now c.args.expr_context.variables.now c.args.e.now c.get-in-OperatorChain.result.now c.in-OperatorChain.chain_links c.args.out.now c.expr-in-OperatorChain.new.out c.linked.new.out c.linked.result (c.in-OperatorChain.is ∙ ap (λ x. exprs.OperatorChain x c.in-OperatorChain.chain_links) (sym c.get-in-OperatorChain.ensures)) c.in_ok-expr-in-OperatorChain.ensures c.linked.ensures

pub expr-returns-in_ok-expr-in-Negated : goal.expr-returns-in_ok-expr-in-Negated
expr-returns-in_ok-expr-in-Negated t c = negated_written c.args.expr_context.columns.now c.args.expr_context.variables.now c.args.e.now c.get-in-Negated.result.now op.Negate N c.args.out.now c.expr-in-Negated.new.out c.apply-in-Negated.new.self c.apply-in-Negated.result (c.in-Negated.is ∙ ap (exprs.Negated) (sym c.get-in-Negated.ensures)) refl refl c.in_ok-expr-in-Negated.ensures c.apply-in-Negated.ensures

pub expr-returns-in_ok-expr-in-Trim : goal.expr-returns-in_ok-expr-in-Trim
expr-returns-in_ok-expr-in-Trim t c = trim_written c.args.expr_context.columns.now c.args.expr_context.variables.now c.args.e.now c.get-in-Trim.result.now c.in-Trim.side (op.Trim c.in-Trim.side) T c.args.out.now c.expr-in-Trim.new.out c.apply-in-Trim.new.self c.apply-in-Trim.result (c.in-Trim.is ∙ ap (exprs.Trim c.in-Trim.side) (sym c.get-in-Trim.ensures)) refl refl c.in_ok-expr-in-Trim.ensures c.apply-in-Trim.ensures

pub expr-returns-in_ok-expr-in-Function : goal.expr-returns-in_ok-expr-in-Function
expr-returns-in_ok-expr-in-Function t c = function_written c.args.expr_context.columns.now c.args.expr_context.variables.now c.args.e.now c.get-in-Function.result.now c.in-Function.function c.changing.result c.changed.result c.args.out.now c.expr-in-Function.new.out c.apply-in-Function.new.self c.apply-in-Function.result (c.in-Function.is ∙ ap (exprs.Function c.in-Function.function) (sym c.get-in-Function.ensures)) c.changing.ensures c.changed.ensures c.in_ok-expr-in-Function.ensures c.apply-in-Function.ensures

pub expr-returns-in_ok-expr-in-Position-2 : goal.expr-returns-in_ok-expr-in-Position-2
expr-returns-in_ok-expr-in-Position-2 t c = position_written c.args.expr_context.columns.now c.args.expr_context.variables.now c.args.e.now c.get-in-Position.result.now c.get-in-Position-2.result.now c.args.out.now c.expr-in-Position.new.out c.expr-in-Position-2.new.out c.apply-in-Position.new.self c.apply-in-Position.result (c.in-Position.is ∙ ap (λ x. exprs.Position x c.in-Position.whole) (sym c.get-in-Position.ensures) ∙ ap (exprs.Position c.get-in-Position.result.now) (sym c.get-in-Position-2.ensures)) c.in_ok-expr-in-Position.ensures c.in_ok-expr-in-Position-2.ensures c.apply-in-Position.ensures

pub expr-returns-in_ok-expr-in-NullIf-2 : goal.expr-returns-in_ok-expr-in-NullIf-2
expr-returns-in_ok-expr-in-NullIf-2 t c = null_if_written c.args.expr_context.columns.now c.args.expr_context.variables.now c.args.e.now c.get-in-NullIf.result.now c.get-in-NullIf-2.result.now c.last-letter.result c.args.out.now c.expr-in-NullIf.new.out c.expr-in-NullIf-2.new.out c.apply-in-NullIf.new.self c.apply-in-NullIf.result (c.in-NullIf.is ∙ ap (λ x. exprs.NullIf x c.in-NullIf.right) (sym c.get-in-NullIf.ensures) ∙ ap (exprs.NullIf c.get-in-NullIf.result.now) (sym c.get-in-NullIf-2.ensures)) c.in_ok-expr-in-NullIf.ensures c.last-letter.ensures c.in_ok-expr-in-NullIf-2.ensures c.apply-in-NullIf.ensures

pub expr-returns-in_ok-source-in-Cast : goal.expr-returns-in_ok-source-in-Cast
expr-returns-in_ok-source-in-Cast t c = cast_written c.args.expr_context.columns.now c.args.expr_context.variables.now c.args.e.now c.get-in-Cast.result.now c.in-Cast.to c.args.out.now c.source-in-Cast.new.out c.apply-in-Cast.new.self c.of_type.result c.apply-in-Cast.result (c.in-Cast.is ∙ ap (λ x. exprs.Cast x c.in-Cast.to) (sym c.get-in-Cast.ensures)) c.in_ok-source-in-Cast.ensures c.of_type.ensures c.apply-in-Cast.ensures

pub expr-returns-in_ok-apply-in-None : goal.expr-returns-in_ok-apply-in-None
expr-returns-in_ok-apply-in-None t c = like_written c.args.expr_context.columns.now c.args.expr_context.variables.now c.args.e.now c.get-in-Like.result.now c.get-in-Like-2.result.now c.in-Like.negated c.args.out.now c.expr-in-Like.new.out c.expr-in-Like-2.new.out c.apply-in-None.new.self c.perhaps_not-in-None.new.self c.perhaps_not-in-None.result (c.in-Like.is ∙ ap (exprs.Like c.in-Like.negated c.in-Like.value c.in-Like.pattern) c.in-None.is ∙ ap (λ x. exprs.Like c.in-Like.negated x c.in-Like.pattern (None)) (sym c.get-in-Like.ensures) ∙ ap (λ x. exprs.Like c.in-Like.negated c.get-in-Like.result.now x (None)) (sym c.get-in-Like-2.ensures)) c.in_ok-expr-in-Like.ensures c.in_ok-expr-in-Like-2.ensures c.in_ok-apply-in-None.ensures c.perhaps_not-in-None.ensures

pub expr-returns-in_ok-apply-in-Some : goal.expr-returns-in_ok-apply-in-Some
expr-returns-in_ok-apply-in-Some t c = like_escape_written c.args.expr_context.columns.now c.args.expr_context.variables.now c.args.e.now c.get-in-Like.result.now c.get-in-Like-2.result.now c.get-in-Some.result.now c.in-Like.negated c.args.out.now c.expr-in-Like.new.out c.expr-in-Like-2.new.out c.expr-in-Some.new.out c.apply-in-Some.new.self c.perhaps_not-in-Some.new.self c.perhaps_not-in-Some.result (c.in-Like.is ∙ ap (exprs.Like c.in-Like.negated c.in-Like.value c.in-Like.pattern) (c.in-Some.is ∙ ap Some (sym c.get-in-Some.ensures)) ∙ ap (λ x. exprs.Like c.in-Like.negated x c.in-Like.pattern (Some c.get-in-Some.result.now)) (sym c.get-in-Like.ensures) ∙ ap (λ x. exprs.Like c.in-Like.negated c.get-in-Like.result.now x (Some c.get-in-Some.result.now)) (sym c.get-in-Like-2.ensures)) c.in_ok-expr-in-Like.ensures c.in_ok-expr-in-Like-2.ensures c.in_ok-expr-in-Some.ensures c.in_ok-apply-in-Some.ensures c.perhaps_not-in-Some.ensures

pub expr-returns-in-None-length : goal.expr-returns-in-None-length
expr-returns-in-None-length t c = part_written c.args.expr_context.columns.now c.args.expr_context.variables.now c.args.e.now c.get-in-Substring.result.now c.get-in-Substring-2.result.now c.args.out.now c.expr-in-Substring.new.out c.expr-in-Substring-2.new.out c.apply-in-None-length.new.self c.apply-in-None-length.result (c.in-Substring.is ∙ ap (exprs.Substring c.in-Substring.text c.in-Substring.from) c.in-None-length.is ∙ ap (λ x. exprs.Substring x c.in-Substring.from (None)) (sym c.get-in-Substring.ensures) ∙ ap (λ x. exprs.Substring c.get-in-Substring.result.now x (None)) (sym c.get-in-Substring-2.ensures)) c.in_ok-expr-in-Substring.ensures c.in_ok-expr-in-Substring-2.ensures c.apply-in-None-length.ensures

pub expr-returns-in_ok-expr-in-Some-length : goal.expr-returns-in_ok-expr-in-Some-length
expr-returns-in_ok-expr-in-Some-length t c = part_for_written c.args.expr_context.columns.now c.args.expr_context.variables.now c.args.e.now c.get-in-Substring.result.now c.get-in-Substring-2.result.now c.get-in-Some-length.result.now c.args.out.now c.expr-in-Substring.new.out c.expr-in-Substring-2.new.out c.expr-in-Some-length.new.out c.apply-in-Some-length.new.self c.apply-in-Some-length.result (c.in-Substring.is ∙ ap (exprs.Substring c.in-Substring.text c.in-Substring.from) (c.in-Some-length.is ∙ ap Some (sym c.get-in-Some-length.ensures)) ∙ ap (λ x. exprs.Substring x c.in-Substring.from (Some c.get-in-Some-length.result.now)) (sym c.get-in-Substring.ensures) ∙ ap (λ x. exprs.Substring c.get-in-Substring.result.now x (Some c.get-in-Some-length.result.now)) (sym c.get-in-Substring-2.ensures)) c.in_ok-expr-in-Substring.ensures c.in_ok-expr-in-Substring-2.ensures c.in_ok-expr-in-Some-length.ensures c.apply-in-Some-length.ensures

pub expr-returns-in-Null : goal.expr-returns-in-Null
expr-returns-in-Null t c = null_alone c.args.expr_context.columns.now c.args.expr_context.variables.now c.args.e.now c.args.out.now c.args.out.now c.in-Null.is

pub expr-returns-in-Call : goal.expr-returns-in-Call
expr-returns-in-Call t c = call_written c.args.expr_context.columns.now c.args.expr_context.variables.now c.args.e.now c.in-Call.function c.in-Call.arguments c.args.out.now c.args.out.now c.in-Call.is

pub expr-returns-in-Scalar : goal.expr-returns-in-Scalar
expr-returns-in-Scalar t c = scalar_written c.args.expr_context.columns.now c.args.expr_context.variables.now c.args.e.now c.in-Scalar.field-0 c.args.out.now c.args.out.now c.in-Scalar.is

pub expr-returns-in-Exists : goal.expr-returns-in-Exists
expr-returns-in-Exists t c = exists_written c.args.expr_context.columns.now c.args.expr_context.variables.now c.args.e.now c.in-Exists.field-0 c.args.out.now c.args.out.now c.in-Exists.is

pub expr-returns-in_ok-apply-in-In : goal.expr-returns-in_ok-apply-in-In
expr-returns-in_ok-apply-in-In t c = in_written c.args.expr_context.columns.now c.args.expr_context.variables.now c.args.e.now c.get-in-In.result.now c.in-In.list c.in-In.negated c.in_ok-count-in-In.count (c.in_ok-count-in-In.count + 1) c.args.out.now c.expr-in-In.new.out c.all.new.out c.apply-in-In.new.self c.perhaps_not-in-In.new.self c.perhaps_not-in-In.result (c.in-In.is ∙ ap (λ x. exprs.In c.in-In.negated x c.in-In.list) (sym c.get-in-In.ensures)) c.in_ok-expr-in-In.ensures c.in_ok-all-in-In.ensures (grind (arith, common_steps)) (omega arith) c.in_ok-apply-in-In.ensures c.perhaps_not-in-In.ensures

pub all-loop-item-init : goal.all-loop-item-init
all-loop-item-init t c = list_first c.args.expr_context.columns.now c.args.expr_context.variables.now c.args.list.now.first c.args.out.now c.expr.new.out (writes_same c.args.expr_context.columns.now c.args.expr_context.variables.now c.get.result.now c.args.list.now.first c.args.out.now c.expr.new.out (cc) c.in_ok-expr.ensures)

pub all-loop-item-preserved : goal.all-loop-item-preserved
all-loop-item-preserved t c = list_next c.args.expr_context.columns.now c.args.expr_context.variables.now (c.args.list.now.first ∷ take c.loop-item.item-index c.items-item-items.result.now) (c.args.list.now.first ∷ take (c.loop-item.item-index + 1) c.items-item-items.result.now) c.get-in-loop-item.result.now c.args.out.now c.loop-item.out c.expr-in-loop-item.new.out (ap (λ k. c.args.list.now.first ∷ k) (next_item c.items-item-items.result.now c.loop-item.item-index c.item-item.result c.get-in-loop-item.result.now c.loop-item-test.true c.item-item.is c.get-in-loop-item.ensures)) c.loop-item.invariant c.in_ok-expr-2.ensures

pub all-returns : goal.all-returns
all-returns t c = list_end c.args.expr_context.columns.now c.args.expr_context.variables.now (c.args.list.now.first ∷ take c.loop-item.item-index c.items-item-items.result.now) (listed c.args.list.now) c.args.out.now c.loop-item.out (ap (λ k. c.args.list.now.first ∷ k) (all_items c.items-item-items.result.now c.args.list.now.rest c.loop-item.item-index c.loop-item-test.false (cc))) c.loop-item.invariant

pub joined-loop-operand-init : goal.joined-loop-operand-init
joined-loop-operand-init t c = logical_operator_first c.args.expr_context.columns.now c.args.expr_context.variables.now c.args.logical_operator c.args.operands.now.first [] c.args.out.now c.expr.new.out refl (writes_same c.args.expr_context.columns.now c.args.expr_context.variables.now c.get.result.now c.args.operands.now.first c.args.out.now c.expr.new.out (cc) c.in_ok-expr.ensures)

pub joined-loop-operand-preserved : goal.joined-loop-operand-preserved
joined-loop-operand-preserved t c = logical_operator_next c.args.expr_context.columns.now c.args.expr_context.variables.now c.args.logical_operator c.args.operands.now.first c.get-in-loop-operand.result.now (take c.loop-operand.operand-index c.items-operand-items.result.now) (take (c.loop-operand.operand-index + 1) c.items-operand-items.result.now) c.joining.result c.args.out.now c.loop-operand.out c.expr-in-loop-operand.new.out c.apply.new.self (next_item c.items-operand-items.result.now c.loop-operand.operand-index c.operand-item.result c.get-in-loop-operand.result.now c.loop-operand-test.true c.operand-item.is c.get-in-loop-operand.ensures) c.joining.ensures c.loop-operand.invariant c.in_ok-expr-2.ensures c.in_ok-apply.ensures

pub joined-returns : goal.joined-returns
joined-returns t c = logical_operator_end c.args.expr_context.columns.now c.args.expr_context.variables.now c.args.logical_operator c.args.operands.now (take c.loop-operand.operand-index c.items-operand-items.result.now) c.args.out.now c.loop-operand.out (all_items c.items-operand-items.result.now c.args.operands.now.rest c.loop-operand.operand-index c.loop-operand-test.false (cc)) c.loop-operand.invariant

pub linked-loop-chain_link-preserved : goal.linked-loop-chain_link-preserved
linked-loop-chain_link-preserved t c = extends_next c.args.expr_context.columns.now c.args.expr_context.variables.now c.chain_link-item.result c.get.result.now (take c.loop-chain_link.chain_link-index c.items-chain_link-items.result.now) (take (c.loop-chain_link.chain_link-index + 1) c.items-chain_link-items.result.now) c.calculating.result c.calculated-letter.result c.args.out.now c.loop-chain_link.out c.expr.new.out c.apply.new.self (next_item c.items-chain_link-items.result.now c.loop-chain_link.chain_link-index c.chain_link-item.result c.chain_link-item.result c.loop-chain_link-test.true c.chain_link-item.is refl) (cc) (cc) (cc) c.loop-chain_link.invariant c.in_ok-expr.ensures c.in_ok-apply.ensures

pub linked-returns : goal.linked-returns
linked-returns t c = extends_end c.args.expr_context.columns.now c.args.expr_context.variables.now (take c.loop-chain_link.chain_link-index c.items-chain_link-items.result.now) c.args.chain_links.now c.args.out.now c.loop-chain_link.out (all_items c.items-chain_link-items.result.now c.args.chain_links.now c.loop-chain_link.chain_link-index c.loop-chain_link-test.false (cc)) c.loop-chain_link.invariant

pub source-returns-in-Null : goal.source-returns-in-Null
source-returns-in-Null t c = null_written c.args.expr_context.columns.now c.args.expr_context.variables.now c.args.e.now c.args.letter c.args.out.now c.apply.new.self c.apply.result (cc) c.apply.ensures

pub source-returns-in_default : goal.source-returns-in_default
source-returns-in_default t c = source_written c.args.expr_context.columns.now c.args.expr_context.variables.now c.args.e.now c.args.letter c.args.out.now c.expr.new.out c.expr.result (λ q. c.in_default.not-Null q) c.expr.ensures

pub expr-returns-in_ok-close-in-None-operand : goal.expr-returns-in_ok-close-in-None-operand
expr-returns-in_ok-close-in-None-operand t c = searched_written c.args.expr_context.columns.now c.args.expr_context.variables.now c.args.e.now c.in-Case.whens c.in-Case.otherwise c.in-Case.scale c.letter_of_results-letter.result c.in_ok-jumps-in-None-operand.jumps.items c.as_slice.result.now c.args.out.now c.cases.new.out c.alternative.new.out c.close.new.self c.rescale.new.self c.rescale.result (c.in-Case.is ∙ ap (λ o. exprs.Case o c.in-Case.whens c.in-Case.otherwise c.in-Case.scale) c.in-None-operand.is) c.letter_of_results-letter.ensures (cc) c.in_ok-jumps-in-None-operand.ensures c.in_ok-alternative-in-None-operand.ensures c.in_ok-close-in-None-operand.ensures c.rescale.ensures

pub expr-returns-in_ok-apply-in-Some-operand : goal.expr-returns-in_ok-apply-in-Some-operand
expr-returns-in_ok-apply-in-Some-operand t c = compared_written c.args.expr_context.columns.now c.args.expr_context.variables.now c.args.e.now c.get-in-Some-operand.result.now c.in-Case.whens c.in-Case.otherwise c.in-Case.scale c.letter_of_results-letter.result c.in_ok-jumps-in-Some-operand.jumps.items c.as_slice-in-Some-operand.result.now c.args.out.now c.expr-in-Some-operand.new.out c.cases-in-Some-operand.new.out c.alternative-in-Some-operand.new.out c.close-in-Some-operand.new.self c.apply-in-Some-operand.new.self c.rescale-in-Some-operand.new.self c.rescale-in-Some-operand.result (c.in-Case.is ∙ ap (λ o. exprs.Case o c.in-Case.whens c.in-Case.otherwise c.in-Case.scale) (c.in-Some-operand.is ∙ ap Some (sym c.get-in-Some-operand.ensures))) c.letter_of_results-letter.ensures (cc) c.in_ok-expr-in-Some-operand.ensures c.in_ok-jumps-in-Some-operand.ensures c.in_ok-alternative-in-Some-operand.ensures c.in_ok-close-in-Some-operand.ensures c.in_ok-apply-in-Some-operand.ensures c.rescale-in-Some-operand.ensures

pub expr-returns-in_ok-others-in-Coalesce : goal.expr-returns-in_ok-others-in-Coalesce
expr-returns-in_ok-others-in-Coalesce t c = coalesce_written c.args.expr_context.columns.now c.args.expr_context.variables.now c.args.e.now c.get-in-Coalesce.result.now c.values.inside.rest c.in-Coalesce.values c.in-Coalesce.scale c.letter_of_results-kind.result c.args.out.now c.source.new.out c.others.new.out c.rescale-in-Coalesce.new.self c.rescale-in-Coalesce.result c.in-Coalesce.is (first_same c.values.view_is c.get-in-Coalesce.ensures) (rest_same c.values.view_is refl) c.letter_of_results-kind.ensures c.in_ok-source-in-Coalesce.ensures c.in_ok-others-in-Coalesce.ensures c.rescale-in-Coalesce.ensures

pub others-loop-value-init : goal.others-loop-value-init
others-loop-value-init t c = awaits_first c.args.expr_context.columns.now c.args.expr_context.variables.now c.args.letter c.args.rest.now (drop 0 c.items-value-items.result.now) c.new-jumps.result.items c.args.out.now (cc) (cc)

pub others-loop-value-preserved : goal.others-loop-value-preserved
others-loop-value-preserved t c = others_next c.args.expr_context.columns.now c.args.expr_context.variables.now c.args.letter c.args.rest.now c.value-item.result (drop c.loop-value.value-index c.items-value-items.result.now) (drop (c.loop-value.value-index + 1) c.items-value-items.result.now) c.loop-value.jumps.items c.push.new.self.items c.in_ok-jump.jump c.args.out.now c.loop-value.out c.jump.new.self c.expr.new.out (left_item c.items-value-items.result.now c.loop-value.value-index c.value-item.result c.loop-value-test.true c.value-item.is) (grind (arith, common_steps)) c.loop-value.invariant c.in_ok-jump.ensures (source_written c.args.expr_context.columns.now c.args.expr_context.variables.now c.value-item.result c.args.letter c.jump.new.self c.expr.new.out (Ok tt) (λ q. c.in_default.not-Null (c.get.ensures ∙ q)) (written_as c.args.expr_context.columns.now c.args.expr_context.variables.now c.value-item.result c.get-in_default.result.now c.jump.new.self c.expr.new.out (Ok tt) (sym c.get-in_default.ensures) c.in_ok-expr-in_default.ensures))

pub others-loop-value-preserved-in-Null : goal.others-loop-value-preserved-in-Null
others-loop-value-preserved-in-Null t c = others_next c.args.expr_context.columns.now c.args.expr_context.variables.now c.args.letter c.args.rest.now c.value-item.result (drop c.loop-value.value-index c.items-value-items.result.now) (drop (c.loop-value.value-index + 1) c.items-value-items.result.now) c.loop-value.jumps.items c.push.new.self.items c.in_ok-jump.jump c.args.out.now c.loop-value.out c.jump.new.self c.apply.new.self (left_item c.items-value-items.result.now c.loop-value.value-index c.value-item.result c.loop-value-test.true c.value-item.is) (grind (arith, common_steps)) c.loop-value.invariant c.in_ok-jump.ensures (null_written c.args.expr_context.columns.now c.args.expr_context.variables.now c.value-item.result c.args.letter c.jump.new.self c.apply.new.self (Ok tt) (sym c.get.ensures ∙ c.in-Null.is) c.in_ok-apply-in-Null.ensures)

pub others-returns : goal.others-returns
others-returns t c = others_end c.args.expr_context.columns.now c.args.expr_context.variables.now c.args.letter c.args.rest.now (drop c.loop-value.value-index c.items-value-items.result.now) c.loop-value.jumps.items c.as_slice.result.now c.args.out.now c.loop-value.out c.close.new.self c.close.result (drop_all c.loop-value.value-index c.items-value-items.result.now c.loop-value-test.false) (cc) c.loop-value.invariant c.close.ensures

pub cases-loop-when-init : goal.cases-loop-when-init
cases-loop-when-init t c = branches_first c.args.expr_context.columns.now c.args.expr_context.variables.now c.args.letter c.args.is_compared c.get.result.now c.args.whens.now.first [] c.in_ok-unless.unless c.in_ok-jump.jump c.push.new.self.items c.args.out.now c.branch-out.new.out c.leave.new.self (first_same c.whens.view_is c.get.ensures) refl (grind (arith, common_steps)) c.in_ok-unless.ensures c.in_ok-jump.ensures

pub cases-loop-when-preserved : goal.cases-loop-when-preserved
cases-loop-when-preserved t c = branches_next c.args.expr_context.columns.now c.args.expr_context.variables.now c.args.letter c.args.is_compared (c.args.whens.now.first ∷ take c.loop-when.when-index c.items-when-items.result.now) (c.args.whens.now.first ∷ take (c.loop-when.when-index + 1) c.items-when-items.result.now) c.get-in-loop-when.result.now c.loop-when.jumps.items c.push-in-loop-when.new.self.items c.in_ok-over.over c.in_ok-branching.branching c.args.out.now c.loop-when.out c.branch-out-in-loop-when.new.out c.leave-in-loop-when.new.self (ap (λ k. c.args.whens.now.first ∷ k) (next_item c.items-when-items.result.now c.loop-when.when-index c.when-item.result c.get-in-loop-when.result.now c.loop-when-test.true c.when-item.is c.get-in-loop-when.ensures)) (grind (arith, common_steps)) c.loop-when.invariant c.in_ok-over.ensures c.in_ok-branching.ensures

pub cases-returns : goal.cases-returns
cases-returns t c = branches_end c.args.expr_context.columns.now c.args.expr_context.variables.now c.args.letter c.args.is_compared (c.args.whens.now.first ∷ take c.loop-when.when-index c.items-when-items.result.now) (listed c.args.whens.now) c.loop-when.jumps.items c.args.out.now c.loop-when.out (ap (λ k. c.args.whens.now.first ∷ k) (all_items c.items-when-items.result.now c.args.whens.now.rest c.loop-when.when-index c.loop-when-test.false (rest_same c.whens.view_is c.items-when-items.ensures))) c.loop-when.invariant

pub branch-returns-in_ok-apply-in-Null : goal.branch-returns-in_ok-apply-in-Null
branch-returns-in_ok-apply-in-Null t c = branch_written c.args.expr_context.columns.now c.args.expr_context.variables.now c.args.letter c.args.is_compared c.args.when.now c.get.result.now c.get-2.result.now c.in_ok-unless.unless c.args.out.now c.perhaps_duplicate.new.self c.expr.new.out c.perhaps_compare.new.self c.jump.new.self c.apply.new.self (cc) (cc) c.in_ok-perhaps_duplicate.ensures c.in_ok-expr.ensures c.in_ok-perhaps_compare.ensures c.in_ok-unless.ensures (null_written c.args.expr_context.columns.now c.args.expr_context.variables.now c.get-2.result.now c.args.letter c.jump.new.self c.apply.new.self (Ok tt) c.in-Null.is c.in_ok-apply-in-Null.ensures)

pub branch-returns-in_ok-expr-in_default : goal.branch-returns-in_ok-expr-in_default
branch-returns-in_ok-expr-in_default t c = branch_written c.args.expr_context.columns.now c.args.expr_context.variables.now c.args.letter c.args.is_compared c.args.when.now c.get.result.now c.get-2.result.now c.in_ok-unless.unless c.args.out.now c.perhaps_duplicate.new.self c.expr.new.out c.perhaps_compare.new.self c.jump.new.self c.expr-in_default.new.out (cc) (cc) c.in_ok-perhaps_duplicate.ensures c.in_ok-expr.ensures c.in_ok-perhaps_compare.ensures c.in_ok-unless.ensures (source_written c.args.expr_context.columns.now c.args.expr_context.variables.now c.get-2.result.now c.args.letter c.jump.new.self c.expr-in_default.new.out (Ok tt) (λ q. c.in_default.not-Null q) (written_as c.args.expr_context.columns.now c.args.expr_context.variables.now c.get-2.result.now c.get-in_default.result.now c.jump.new.self c.expr-in_default.new.out (Ok tt) (cc) c.in_ok-expr-in_default.ensures))

pub alternative-returns-in-None : goal.alternative-returns-in-None
alternative-returns-in-None t c = else_null c.args.expr_context.columns.now c.args.expr_context.variables.now c.args.letter c.args.otherwise.now c.args.out.now c.apply.new.self c.apply.result c.in-None.is c.apply.ensures

pub alternative-returns-in-Null : goal.alternative-returns-in-Null
alternative-returns-in-Null t c = else_given c.args.expr_context.columns.now c.args.expr_context.variables.now c.args.letter c.args.otherwise.now c.get.result.now c.args.out.now c.apply-in-Null.new.self c.apply-in-Null.result (c.in-Some.is ∙ ap Some (sym c.get.ensures)) (null_written c.args.expr_context.columns.now c.args.expr_context.variables.now c.get.result.now c.args.letter c.args.out.now c.apply-in-Null.new.self c.apply-in-Null.result c.in-Null.is c.apply-in-Null.ensures)

pub alternative-returns-in_default : goal.alternative-returns-in_default
alternative-returns-in_default t c = else_given c.args.expr_context.columns.now c.args.expr_context.variables.now c.args.letter c.args.otherwise.now c.get.result.now c.args.out.now c.expr.new.out c.expr.result (c.in-Some.is ∙ ap Some (sym c.get.ensures)) (source_written c.args.expr_context.columns.now c.args.expr_context.variables.now c.get.result.now c.args.letter c.args.out.now c.expr.new.out c.expr.result (λ q. c.in_default.not-Null q) (written_as c.args.expr_context.columns.now c.args.expr_context.variables.now c.get.result.now c.get-in_default.result.now c.args.out.now c.expr.new.out c.expr.result (cc) c.expr.ensures))
