use Rattle.std.proofs.Common.{arith, ◌≡◌, ◌+◌, [], ◌∷◌, Some, None, take, sym, ap, subst, ◌∙◌, refl, suc, length, length-take}
use Rattle.std.specs.Prelude.{slice_get}
use Rattle.psm_exprcode.specs.declared.op.Letter.TheVariants.{B}
use Rattle.psm_exprcode.specs.declared.op.Op.TheVariants as op
use Rattle.psm_resolved.specs.declared.expr.ResolvedExpr.{out-ResolvedExpr}
use Rattle.psm_resolved.specs.declared.expr.ResolvedExpr.TheOpen as layers
use Rattle.psm_resolved.specs.declared.expr.ResolvedExpr.TheVariants as exprs
use Rattle.psm_resolved.specs.RowValue.{listed}
use Rattle.psm_resolved.specs.Written.{op_of_function}
use Rattle.psm_resolved.proofs.Several.{next_item, first_same, rest_same}
use Rattle.psm_simulation.specs.Expressions.{negating}
use Rattle.psm_exprgen.specs.Exprs.{Compares, Firsts, Whens, WritesAll, joined, last, linked, no_argument, operator_chain}
use Rattle.psm_exprgen.specs.Labels.{Drafted}
use Rattle.psm_exprgen.specs.Written.{all_applied, applied, letter_at, letters_at, number_at}
use Rattle.psm_exprgen.proofs.DraftForms.{call_drafted, coalesce_drafted, column_drafted, compared_drafted, compared_one_drafted, else_null_drafted, exists_drafted, firsts_next_drafted, joined_next_drafted, linked_next_drafted, more_drafted, none_drafted, null_drafted, scalar_drafted, searched_drafted, searched_one_drafted, straight_drafted}
use Rattle.psm_exprgen.proofs.DraftSteps.{here_drafted}
use Rattle.psm_exprgen.proofs.Drafts.{one, two}
use Rattle.psm_exprgen.proofs.Ends.{all_next, argument_next, compares_next, whens_next}
use Rattle.psm_exprgen.proofs.Forms.{else_value, logical_operator_written, ok_as}
use Rattle.psm_exprgen.proofs.exprs.+writing.Goals as goal

pub expr-returns-in-Null : goal.expr-returns-in-Null
expr-returns-in-Null t c = ok_as c.applied.result (λ a. null_drafted c.args.e.now (ap out-ResolvedExpr c.in-Null.is ∙ exprs.outs-Null) a) c.applied.ensures

pub expr-returns-in-Column : goal.expr-returns-in-Column
expr-returns-in-Column t c = ok_as c.applied-in-Column.result (λ a. column_drafted c.args.e.now c.in-Column.field-0 (ap out-ResolvedExpr c.in-Column.is ∙ exprs.outs-Column c.in-Column.field-0) a) c.applied-in-Column.ensures

pub expr-returns-in_ok-number-in-Scalar : goal.expr-returns-in_ok-number-in-Scalar
expr-returns-in_ok-number-in-Scalar t c = ok_as c.put.result (λ a. scalar_drafted c.args.e.now c.in-Scalar.query c.get-query.result.now c.in_ok-number-in-Scalar.number c.first_letter-letter.result (ap out-ResolvedExpr c.in-Scalar.is ∙ exprs.outs-Scalar c.in-Scalar.query) c.get-query.ensures c.in_ok-number-in-Scalar.ensures.number c.in_ok-number-in-Scalar.ensures.made c.first_letter-letter.ensures a) c.put.ensures

pub expr-returns-in_ok-number-in-Exists : goal.expr-returns-in_ok-number-in-Exists
expr-returns-in_ok-number-in-Exists t c = ok_as c.put-in-Exists.result (λ a. exists_drafted c.args.e.now c.in-Exists.query c.get-query-in-Exists.result.now c.in_ok-number-in-Exists.number (ap out-ResolvedExpr c.in-Exists.is ∙ exprs.outs-Exists c.in-Exists.query) c.get-query-in-Exists.ensures c.in_ok-number-in-Exists.ensures.number c.in_ok-number-in-Exists.ensures.made a) c.put-in-Exists.ensures

pub expr-returns-in-Number : goal.expr-returns-in-Number
expr-returns-in-Number t c = straight_drafted c.args.letter c.args.e.now (layers.Number c.in-Number.value) c.applied-in-Number.new.self c.applied-in-Number.result (ap out-ResolvedExpr c.in-Number.is ∙ exprs.outs-Number c.in-Number.value) refl none_drafted c.applied-in-Number.ensures

pub expr-returns-in_ok-copy-in-Text : goal.expr-returns-in_ok-copy-in-Text
expr-returns-in_ok-copy-in-Text t c = straight_drafted c.args.letter c.args.e.now (layers.Text c.in_ok-copy-in-Text.field-0) c.applied-in-Text.new.self c.applied-in-Text.result (ap out-ResolvedExpr (c.in-Text.is ∙ ap exprs.Text (sym c.in_ok-copy-in-Text.ensures)) ∙ exprs.outs-Text c.in_ok-copy-in-Text.field-0) refl none_drafted c.applied-in-Text.ensures

pub expr-returns-in-Variable : goal.expr-returns-in-Variable
expr-returns-in-Variable t c = straight_drafted c.args.letter c.args.e.now (layers.Variable c.in-Variable.slot) c.applied-in-Variable.new.self c.applied-in-Variable.result (ap out-ResolvedExpr c.in-Variable.is ∙ exprs.outs-Variable c.in-Variable.slot) refl none_drafted (ok_as c.applied-in-Variable.result (λ a. a ∙ ap (λ k. applied c.args.emit_context.context c.args.emit_context.resume (op.Variable c.in-Variable.slot) 0 k c.args.out.now) (c.letter_at-letter.ensures ∙ ap (λ ks. letter_at ks c.in-Variable.slot) c.items.ensures)) c.applied-in-Variable.ensures)

pub expr-returns-in_ok-part-in-Not : goal.expr-returns-in_ok-part-in-Not
expr-returns-in_ok-part-in-Not t c = straight_drafted c.args.letter c.args.e.now (layers.Not c.in-Not.condition) c.applied-in-Not.new.self c.applied-in-Not.result (ap out-ResolvedExpr c.in-Not.is ∙ exprs.outs-Not c.in-Not.condition) refl (more_drafted c.in_ok-part-in-Not.ensures none_drafted) c.applied-in-Not.ensures

pub expr-returns-in_ok-part-in-Compare-2 : goal.expr-returns-in_ok-part-in-Compare-2
expr-returns-in_ok-part-in-Compare-2 t c = straight_drafted c.args.letter c.args.e.now (layers.Compare c.in-Compare.operator c.in-Compare.left c.in-Compare.right) c.applied-in-Compare.new.self c.applied-in-Compare.result (ap out-ResolvedExpr c.in-Compare.is ∙ exprs.outs-Compare c.in-Compare.operator c.in-Compare.left c.in-Compare.right) refl (more_drafted c.in_ok-part-in-Compare.ensures (more_drafted c.in_ok-part-in-Compare-2.ensures none_drafted)) (ok_as c.applied-in-Compare.result (λ a. a ∙ ap (λ o. applied c.args.emit_context.context c.args.emit_context.resume o 2 B c.part-in-Compare-2.new.out) c.comparing.ensures) c.applied-in-Compare.ensures)

pub expr-returns-in_ok-applied-in-IsNull : goal.expr-returns-in_ok-applied-in-IsNull
expr-returns-in_ok-applied-in-IsNull t c = straight_drafted c.args.letter c.args.e.now (layers.IsNull c.in-IsNull.negated c.in-IsNull.value) c.perhaps_not.new.self c.perhaps_not.result (ap out-ResolvedExpr c.in-IsNull.is ∙ exprs.outs-IsNull c.in-IsNull.negated c.in-IsNull.value) refl (more_drafted c.in_ok-part-in-IsNull.ensures none_drafted) (ok_as c.perhaps_not.result (λ a. a ∙ ap (all_applied c.args.emit_context.context c.args.emit_context.resume 1 B (negating c.in-IsNull.negated)) c.in_ok-applied-in-IsNull.ensures) c.perhaps_not.ensures)

pub expr-returns-in_ok-applied-in-Between : goal.expr-returns-in_ok-applied-in-Between
expr-returns-in_ok-applied-in-Between t c = straight_drafted c.args.letter c.args.e.now (layers.Between c.in-Between.negated c.in-Between.value c.in-Between.low c.in-Between.high) c.perhaps_not-in-Between.new.self c.perhaps_not-in-Between.result (ap out-ResolvedExpr c.in-Between.is ∙ exprs.outs-Between c.in-Between.negated c.in-Between.value c.in-Between.low c.in-Between.high) refl (more_drafted c.in_ok-part-in-Between.ensures (more_drafted c.in_ok-part-in-Between-2.ensures (more_drafted c.in_ok-part-in-Between-3.ensures none_drafted))) (ok_as c.perhaps_not-in-Between.result (λ a. a ∙ ap (all_applied c.args.emit_context.context c.args.emit_context.resume 1 B (negating c.in-Between.negated)) c.in_ok-applied-in-Between.ensures) c.perhaps_not-in-Between.ensures)

pub expr-returns-in_ok-applied-in-None : goal.expr-returns-in_ok-applied-in-None
expr-returns-in_ok-applied-in-None t c = straight_drafted c.args.letter c.args.e.now (layers.Like c.in-Like.negated c.in-Like.value c.in-Like.pattern None) c.perhaps_not-in-None.new.self c.perhaps_not-in-None.result (ap out-ResolvedExpr (c.in-Like.is ∙ ap (exprs.Like c.in-Like.negated c.in-Like.value c.in-Like.pattern) c.in-None.is) ∙ exprs.outs-Like c.in-Like.negated c.in-Like.value c.in-Like.pattern None) refl (more_drafted c.in_ok-part-in-Like.ensures (more_drafted c.in_ok-part-in-Like-2.ensures none_drafted)) (ok_as c.perhaps_not-in-None.result (λ a. a ∙ ap (all_applied c.args.emit_context.context c.args.emit_context.resume 1 B (negating c.in-Like.negated)) c.in_ok-applied-in-None.ensures) c.perhaps_not-in-None.ensures)

pub expr-returns-in_ok-applied-in-Some : goal.expr-returns-in_ok-applied-in-Some
expr-returns-in_ok-applied-in-Some t c = straight_drafted c.args.letter c.args.e.now (layers.Like c.in-Like.negated c.in-Like.value c.in-Like.pattern (Some c.in-Some.escape)) c.perhaps_not-in-Some.new.self c.perhaps_not-in-Some.result (ap out-ResolvedExpr (c.in-Like.is ∙ ap (exprs.Like c.in-Like.negated c.in-Like.value c.in-Like.pattern) c.in-Some.is) ∙ exprs.outs-Like c.in-Like.negated c.in-Like.value c.in-Like.pattern (Some c.in-Some.escape)) refl (more_drafted c.in_ok-part-in-Like.ensures (more_drafted c.in_ok-part-in-Like-2.ensures (more_drafted c.in_ok-part-in-Some.ensures none_drafted))) (ok_as c.perhaps_not-in-Some.result (λ a. a ∙ ap (all_applied c.args.emit_context.context c.args.emit_context.resume 1 B (negating c.in-Like.negated)) c.in_ok-applied-in-Some.ensures) c.perhaps_not-in-Some.ensures)

pub expr-returns-in_ok-applied-in-In : goal.expr-returns-in_ok-applied-in-In
expr-returns-in_ok-applied-in-In t c =
    let others : c.in_ok-count-in-In.count ≡ length (listed c.in-In.list) = c.in_ok-count-in-In.ensures ∙ ap suc (ap length (rest_same c.list.view_is c.items-in-In.ensures)) in
    let takes : length (listed c.in-In.list) + 1 ≡ suc (length (listed c.in-In.list)) = omega arith in
    straight_drafted c.args.letter c.args.e.now (layers.In c.in-In.negated c.in-In.value c.in-In.list) c.perhaps_not-in-In.new.self c.perhaps_not-in-In.result (ap out-ResolvedExpr c.in-In.is ∙ exprs.outs-In c.in-In.negated c.in-In.value c.in-In.list) refl (more_drafted c.in_ok-part-in-In.ensures c.in_ok-several-in-In.ensures)
    (ok_as c.perhaps_not-in-In.result (λ a. a ∙ ap (all_applied c.args.emit_context.context c.args.emit_context.resume 1 B (negating c.in-In.negated)) (c.in_ok-applied-in-In.ensures ∙ ap (λ n. applied c.args.emit_context.context c.args.emit_context.resume (op.In n) (n + 1) B c.several.new.out) others ∙ ap (λ n. applied c.args.emit_context.context c.args.emit_context.resume (op.In (length (listed c.in-In.list))) n B c.several.new.out) takes)) c.perhaps_not-in-In.ensures)

pub expr-returns-in_ok-part-in-Negated : goal.expr-returns-in_ok-part-in-Negated
expr-returns-in_ok-part-in-Negated t c = straight_drafted c.args.letter c.args.e.now (layers.Negated c.in-Negated.number) c.applied-in-Negated.new.self c.applied-in-Negated.result (ap out-ResolvedExpr c.in-Negated.is ∙ exprs.outs-Negated c.in-Negated.number) refl (more_drafted c.in_ok-part-in-Negated.ensures none_drafted) c.applied-in-Negated.ensures

pub expr-returns-in_ok-part-in-Cast : goal.expr-returns-in_ok-part-in-Cast
expr-returns-in_ok-part-in-Cast t c = straight_drafted c.args.letter c.args.e.now (layers.Cast c.in-Cast.source c.in-Cast.to) c.applied-in-Cast.new.self c.applied-in-Cast.result (ap out-ResolvedExpr c.in-Cast.is ∙ exprs.outs-Cast c.in-Cast.source c.in-Cast.to) refl (more_drafted c.in_ok-part-in-Cast.ensures none_drafted) (ok_as c.applied-in-Cast.result (λ a. a ∙ ap (λ k. applied c.args.emit_context.context c.args.emit_context.resume (op.Cast c.in-Cast.to) 1 k c.part-in-Cast.new.out) c.of_type.ensures) c.applied-in-Cast.ensures)

pub expr-returns-in_ok-part-in-NullIf-2 : goal.expr-returns-in_ok-part-in-NullIf-2
expr-returns-in_ok-part-in-NullIf-2 t c = straight_drafted c.args.letter c.args.e.now (layers.NullIf c.in-NullIf.left c.in-NullIf.right) c.applied-in-NullIf.new.self c.applied-in-NullIf.result (ap out-ResolvedExpr c.in-NullIf.is ∙ exprs.outs-NullIf c.in-NullIf.left c.in-NullIf.right) refl (more_drafted c.in_ok-part-in-NullIf.ensures (more_drafted c.in_ok-part-in-NullIf-2.ensures none_drafted)) (ok_as c.applied-in-NullIf.result (λ a. a ∙ ap (λ k. applied c.args.emit_context.context c.args.emit_context.resume op.NullIf 2 k c.part-in-NullIf-2.new.out) c.second_letter-letter.ensures) c.applied-in-NullIf.ensures)

pub expr-returns-in_ok-part-in-Function : goal.expr-returns-in_ok-part-in-Function
expr-returns-in_ok-part-in-Function t c = straight_drafted c.args.letter c.args.e.now (layers.Function c.in-Function.function c.in-Function.argument) c.applied-in-Function.new.self c.applied-in-Function.result (ap out-ResolvedExpr c.in-Function.is ∙ exprs.outs-Function c.in-Function.function c.in-Function.argument) refl (more_drafted c.in_ok-part-in-Function.ensures none_drafted) (ok_as c.applied-in-Function.result (λ a. a ∙ ap (λ o. applied c.args.emit_context.context c.args.emit_context.resume o 1 c.changed.result c.part-in-Function.new.out) c.changing.ensures ∙ ap (λ k. applied c.args.emit_context.context c.args.emit_context.resume (op_of_function c.in-Function.function) 1 k c.part-in-Function.new.out) c.changed.ensures) c.applied-in-Function.ensures)

pub expr-returns-in_ok-part-in-Position-2 : goal.expr-returns-in_ok-part-in-Position-2
expr-returns-in_ok-part-in-Position-2 t c = straight_drafted c.args.letter c.args.e.now (layers.Position c.in-Position.text c.in-Position.whole) c.applied-in-Position.new.self c.applied-in-Position.result (ap out-ResolvedExpr c.in-Position.is ∙ exprs.outs-Position c.in-Position.text c.in-Position.whole) refl (more_drafted c.in_ok-part-in-Position.ensures (more_drafted c.in_ok-part-in-Position-2.ensures none_drafted)) c.applied-in-Position.ensures

pub expr-returns-in-None-length : goal.expr-returns-in-None-length
expr-returns-in-None-length t c = straight_drafted c.args.letter c.args.e.now (layers.Substring c.in-Substring.text c.in-Substring.from None) c.applied-in-None-length.new.self c.applied-in-None-length.result (ap out-ResolvedExpr (c.in-Substring.is ∙ ap (exprs.Substring c.in-Substring.text c.in-Substring.from) c.in-None-length.is) ∙ exprs.outs-Substring c.in-Substring.text c.in-Substring.from None) refl (more_drafted c.in_ok-part-in-Substring.ensures (more_drafted c.in_ok-part-in-Substring-2.ensures none_drafted)) c.applied-in-None-length.ensures

pub expr-returns-in_ok-part-in-Some-length : goal.expr-returns-in_ok-part-in-Some-length
expr-returns-in_ok-part-in-Some-length t c = straight_drafted c.args.letter c.args.e.now (layers.Substring c.in-Substring.text c.in-Substring.from (Some c.in-Some-length.length)) c.applied-in-Some-length.new.self c.applied-in-Some-length.result (ap out-ResolvedExpr (c.in-Substring.is ∙ ap (exprs.Substring c.in-Substring.text c.in-Substring.from) c.in-Some-length.is) ∙ exprs.outs-Substring c.in-Substring.text c.in-Substring.from (Some c.in-Some-length.length)) refl (more_drafted c.in_ok-part-in-Substring.ensures (more_drafted c.in_ok-part-in-Substring-2.ensures (more_drafted c.in_ok-part-in-Some-length.ensures none_drafted))) c.applied-in-Some-length.ensures

pub expr-returns-in_ok-part-in-Trim : goal.expr-returns-in_ok-part-in-Trim
expr-returns-in_ok-part-in-Trim t c = straight_drafted c.args.letter c.args.e.now (layers.Trim c.in-Trim.side c.in-Trim.text) c.applied-in-Trim.new.self c.applied-in-Trim.result (ap out-ResolvedExpr c.in-Trim.is ∙ exprs.outs-Trim c.in-Trim.side c.in-Trim.text) refl (more_drafted c.in_ok-part-in-Trim.ensures none_drafted) c.applied-in-Trim.ensures

pub expr-returns-in_ok-part-in-LogicalOperator : goal.expr-returns-in_ok-part-in-LogicalOperator
expr-returns-in_ok-part-in-LogicalOperator t c = ok_as c.joined.result (λ a. two c.in_ok-part-in-LogicalOperator.ensures a (λ σ x y. logical_operator_written c.args.e.now c.operands.inside.first c.operands.inside.rest c.in-LogicalOperator.logical_operator c.in-LogicalOperator.operands c.operands.view_is (ap out-ResolvedExpr c.in-LogicalOperator.is ∙ exprs.outs-LogicalOperator c.in-LogicalOperator.logical_operator c.in-LogicalOperator.operands) x y)) c.joined.ensures

pub expr-returns-in_ok-part-in-OperatorChain : goal.expr-returns-in_ok-part-in-OperatorChain
expr-returns-in_ok-part-in-OperatorChain t c = ok_as c.linked.result (λ a. two c.in_ok-part-in-OperatorChain.ensures a (λ σ x y. operator_chain c.in-OperatorChain.first c.in-OperatorChain.chain_links (ap out-ResolvedExpr c.in-OperatorChain.is ∙ exprs.outs-OperatorChain c.in-OperatorChain.first c.in-OperatorChain.chain_links) x y)) c.linked.ensures

pub expr-returns-in_ok-arguments-in-Call : goal.expr-returns-in_ok-arguments-in-Call
expr-returns-in_ok-arguments-in-Call t c = ok_as c.put-in-Call.result (λ a. call_drafted c.args.e.now c.in-Call.function c.number_at-routine.result c.in-Call.list c.letters_at-letters.result.now _ c.letter_at-letter-in-Call.result (ap out-ResolvedExpr c.in-Call.is ∙ exprs.outs-Call c.in-Call.function c.in-Call.list) (c.number_at-routine.ensures ∙ ap (λ ns. number_at (slice_get ns c.in-Call.function)) c.items-in-Call.ensures) (c.letters_at-letters.ensures ∙ ap (λ ls. letters_at ls c.number_at-routine.result) c.items-in-Call-2.ensures) (c.letter_at-letter-in-Call.ensures ∙ ap (λ ks. letter_at ks c.number_at-routine.result) c.items-in-Call-3.ensures) (ap length c.items-takes.ensures) c.in_ok-arguments-in-Call.ensures a) c.put-in-Call.ensures

pub expr-returns-in_ok-bind-in-None-operand : goal.expr-returns-in_ok-bind-in-None-operand
expr-returns-in_ok-bind-in-None-operand t c = ok_as c.rescale.result (λ a. searched_drafted c.args.e.now c.in-Case.whens c.in-Case.otherwise c.in-Case.scale c.in_ok-end-in-None-operand.end c.letter_of_results-letter.result (ap out-ResolvedExpr (c.in-Case.is ∙ ap (λ o. exprs.Case o c.in-Case.whens c.in-Case.otherwise c.in-Case.scale) c.in-None-operand.is) ∙ exprs.outs-Case None c.in-Case.whens c.in-Case.otherwise c.in-Case.scale) c.letter_of_results-letter.ensures c.in_ok-end-in-None-operand.ensures.number c.in_ok-end-in-None-operand.ensures.labels c.in_ok-searched-in-None-operand.ensures c.in_ok-alternative-in-None-operand.ensures c.in_ok-bind-in-None-operand.ensures a) c.rescale.ensures

pub expr-returns-in_ok-bind-in-Some-operand : goal.expr-returns-in_ok-bind-in-Some-operand
expr-returns-in_ok-bind-in-Some-operand t c = ok_as c.rescale-in-Some-operand.result (λ a. compared_drafted c.args.e.now c.in-Some-operand.value c.in-Case.whens c.in-Case.otherwise c.in-Case.scale c.in_ok-end-in-Some-operand.end c.letter_of_results-letter.result (ap out-ResolvedExpr (c.in-Case.is ∙ ap (λ o. exprs.Case o c.in-Case.whens c.in-Case.otherwise c.in-Case.scale) c.in-Some-operand.is) ∙ exprs.outs-Case (Some c.in-Some-operand.value) c.in-Case.whens c.in-Case.otherwise c.in-Case.scale) c.letter_of_results-letter.ensures c.in_ok-part-in-Some-operand.ensures c.in_ok-end-in-Some-operand.ensures.number c.in_ok-end-in-Some-operand.ensures.labels c.in_ok-compared-in-Some-operand.ensures c.in_ok-taken-in-Some-operand.ensures c.in_ok-alternative-in-Some-operand.ensures c.in_ok-bind-in-Some-operand.ensures a) c.rescale-in-Some-operand.ensures

pub expr-returns-in_ok-bind-in-Coalesce : goal.expr-returns-in_ok-bind-in-Coalesce
expr-returns-in_ok-bind-in-Coalesce t c = ok_as c.rescale-in-Coalesce.result (λ a. coalesce_drafted c.args.e.now c.in-Coalesce.values c.in-Coalesce.scale c.in_ok-end-in-Coalesce.end c.letter_of_results-kind.result (ap out-ResolvedExpr c.in-Coalesce.is ∙ exprs.outs-Coalesce c.in-Coalesce.values c.in-Coalesce.scale) c.letter_of_results-kind.ensures c.in_ok-end-in-Coalesce.ensures.number c.in_ok-end-in-Coalesce.ensures.labels c.in_ok-firsts-in-Coalesce.ensures c.in_ok-bind-in-Coalesce.ensures a) c.rescale-in-Coalesce.ensures

pub joined-loop-operand-init : goal.joined-loop-operand-init
joined-loop-operand-init t c = here_drafted (λ σ. joined)

pub linked-loop-chain_link-init : goal.linked-loop-chain_link-init
linked-loop-chain_link-init t c = here_drafted (λ σ. linked)

pub arguments-loop-item-init : goal.arguments-loop-item-init
arguments-loop-item-init t c = (refl, here_drafted (λ σ. no_argument))

pub joined-loop-operand-preserved : goal.joined-loop-operand-preserved
joined-loop-operand-preserved t c = joined_next_drafted c.args.logical_operator (take c.loop-operand.operand-index c.items-operand-items.result.now) (take (c.loop-operand.operand-index + 1) c.items-operand-items.result.now) c.get.result.now c.joining.result (next_item c.items-operand-items.result.now c.loop-operand.operand-index c.operand-item.result c.get.result.now c.loop-operand-test.true c.operand-item.is c.get.ensures) c.joining.ensures c.loop-operand.invariant c.in_ok-expr.ensures c.in_ok-applied.ensures

pub linked-loop-chain_link-preserved : goal.linked-loop-chain_link-preserved
linked-loop-chain_link-preserved t c = linked_next_drafted (take c.loop-chain_link.chain_link-index c.items-chain_link-items.result.now) (take (c.loop-chain_link.chain_link-index + 1) c.items-chain_link-items.result.now) c.chain_link-item.result c.calculating.result c.calculated-letter.result (next_item c.items-chain_link-items.result.now c.loop-chain_link.chain_link-index c.chain_link-item.result c.chain_link-item.result c.loop-chain_link-test.true c.chain_link-item.is refl) c.calculating.ensures c.calculated-letter.ensures c.loop-chain_link.invariant c.in_ok-part.ensures c.in_ok-applied.ensures

pub arguments-loop-item-preserved : goal.arguments-loop-item-preserved
arguments-loop-item-preserved t c =
    let many : length (take c.loop-item.item-index c.items-item-items.result.now) ≡ c.loop-item.item-index = omega (arith, length-take c.loop-item.item-index c.items-item-items.result.now, c.loop-item-test.true) in
    (omega (arith, c.loop-item.invariant.0), two c.loop-item.invariant.1 c.in_ok-expr.ensures (λ σ x y. argument_next c.args.letters.now (take c.loop-item.item-index c.items-item-items.result.now) (take (c.loop-item.item-index + 1) c.items-item-items.result.now) c.get.result.now c.loop-item.index c.letter_at-letter.result (next_item c.items-item-items.result.now c.loop-item.item-index c.item-item.result c.get.result.now c.loop-item-test.true c.item-item.is c.get.ensures) (c.loop-item.invariant.0 ∙ sym many) c.letter_at-letter.ensures x y))

pub several-loop-item-init : goal.several-loop-item-init
several-loop-item-init t c = subst (λ x. Drafted (λ σ. WritesAll c.args.emit_context.known.now c.args.emit_context.context (σ c.args.emit_context.resume) (x ∷ [])) c.args.out.now c.expr.new.out) (first_same c.list.view_is c.get.ensures) (more_drafted c.in_ok-expr.ensures none_drafted)

pub several-loop-item-preserved : goal.several-loop-item-preserved
several-loop-item-preserved t c = two c.loop-item.invariant c.in_ok-expr-2.ensures (λ σ x y. all_next (c.args.list.now.first ∷ take c.loop-item.item-index c.items-item-items.result.now) (c.args.list.now.first ∷ take (c.loop-item.item-index + 1) c.items-item-items.result.now) c.get-in-loop-item.result.now (ap (λ k. c.args.list.now.first ∷ k) (next_item c.items-item-items.result.now c.loop-item.item-index c.item-item.result c.get-in-loop-item.result.now c.loop-item-test.true c.item-item.is c.get-in-loop-item.ensures)) x y)

pub firsts-loop-value-init : goal.firsts-loop-value-init
firsts-loop-value-init t c = subst (λ x. Drafted (λ σ. Firsts c.args.emit_context.known.now c.args.emit_context.context (σ c.args.emit_context.resume) c.args.letter (σ c.args.end) x []) c.args.out.now c.expr.new.out) (first_same c.values.view_is c.get.ensures) (one c.in_ok-expr.ensures (λ σ x. last x))

pub firsts-loop-value-preserved : goal.firsts-loop-value-preserved
firsts-loop-value-preserved t c = firsts_next_drafted c.args.end c.args.values.now.first (take c.loop-value.value-index c.items-value-items.result.now) (take (c.loop-value.value-index + 1) c.items-value-items.result.now) c.get-in-loop-value.result.now (next_item c.items-value-items.result.now c.loop-value.value-index c.value-item.result c.get-in-loop-value.result.now c.loop-value-test.true c.value-item.is c.get-in-loop-value.ensures) c.loop-value.invariant c.in_ok-taken.ensures c.in_ok-expr-2.ensures

pub searched-loop-when-preserved : goal.searched-loop-when-preserved
searched-loop-when-preserved t c = two c.loop-when.invariant c.in_ok-test-2.ensures (λ σ x y. whens_next (σ c.args.end) (c.args.whens.now.first ∷ take c.loop-when.when-index c.items-when-items.result.now) (c.args.whens.now.first ∷ take (c.loop-when.when-index + 1) c.items-when-items.result.now) c.get-in-loop-when.result.now (ap (λ k. c.args.whens.now.first ∷ k) (next_item c.items-when-items.result.now c.loop-when.when-index c.when-item.result c.get-in-loop-when.result.now c.loop-when-test.true c.when-item.is c.get-in-loop-when.ensures)) x y)

pub compared-loop-when-preserved : goal.compared-loop-when-preserved
compared-loop-when-preserved t c = two c.loop-when.invariant c.in_ok-comparison-2.ensures (λ σ x y. compares_next (σ c.args.end) (c.args.whens.now.first ∷ take c.loop-when.when-index c.items-when-items.result.now) (c.args.whens.now.first ∷ take (c.loop-when.when-index + 1) c.items-when-items.result.now) c.get-in-loop-when.result.now (ap (λ k. c.args.whens.now.first ∷ k) (next_item c.items-when-items.result.now c.loop-when.when-index c.when-item.result c.get-in-loop-when.result.now c.loop-when-test.true c.when-item.is c.get-in-loop-when.ensures)) x y)

pub searched-loop-when-init : goal.searched-loop-when-init
searched-loop-when-init t c = subst (λ x. Drafted (λ σ. Whens c.args.emit_context.known.now c.args.emit_context.context (σ c.args.emit_context.resume) c.args.letter (σ c.args.end) (x ∷ [])) c.args.out.now c.test.new.out) (first_same c.whens.view_is c.get.ensures) c.in_ok-test.ensures

pub compared-loop-when-init : goal.compared-loop-when-init
compared-loop-when-init t c = subst (λ x. Drafted (λ σ. Compares c.args.emit_context.known.now c.args.emit_context.context (σ c.args.emit_context.resume) c.args.letter (σ c.args.end) (x ∷ [])) c.args.out.now c.comparison.new.out) (first_same c.whens.view_is c.get.ensures) c.in_ok-comparison.ensures

pub test-returns : goal.test-returns
test-returns t c = ok_as c.bind.result (λ a. searched_one_drafted c.args.end c.in_ok-next.next c.args.when.now c.in_ok-part.ensures c.in_ok-next.ensures.number c.in_ok-next.ensures.labels c.in_ok-taken.ensures c.in_ok-part-2.ensures c.in_ok-taken-2.ensures a) c.bind.ensures

pub comparison-returns : goal.comparison-returns
comparison-returns t c = ok_as c.bind.result (λ a. compared_one_drafted c.args.end c.in_ok-next.next c.last_letter-operand.result c.args.when.now c.last_letter-operand.ensures c.in_ok-applied.ensures c.in_ok-part.ensures c.in_ok-applied-2.ensures c.in_ok-next.ensures.number c.in_ok-next.ensures.labels c.in_ok-taken.ensures c.in_ok-taken-2.ensures c.in_ok-part-2.ensures c.in_ok-applied-3.ensures a) c.bind.ensures

pub alternative-returns-in-None : goal.alternative-returns-in-None
alternative-returns-in-None t c = ok_as c.applied.result (λ a. else_null_drafted c.args.otherwise.now c.in-None.is a) c.applied.ensures

pub alternative-returns-in-Some : goal.alternative-returns-in-Some
alternative-returns-in-Some t c = ok_as c.expr.result (λ a. one a (λ σ x. else_value c.args.otherwise.now c.get.result.now (c.in-Some.is ∙ ap Some (sym c.get.ensures)) x)) c.expr.ensures
