use Rattle.std.proofs.Common.{◌∙◌, ◌≡◌, sym, ap, Err, length, arith, rules}
use Rattle.std.proofs.lemmas.List.{length-reverse}
use Rattle.std.specs.Prelude.{reverse}
use Rattle.std.specs.Option.{option_copied}
use Rattle.psm_exprcode.specs.Evaluated.{evaluated, Evaluates}
use Rattle.psm_exprcode.proofs.Running.{going_first, going_op, going_end, fits_op, refused_op, ended_value, evaluated_some}
use Rattle.psm_exprcode.proofs.evaluating.run.Goals as goal

pub loop-op-init : goal.loop-op-init
loop-op-init c =
    going_first c.args.lines.now c.args.row.now c.args.vars.now (reverse c.args.operands.now.items) c.requires.type_checks.0 c.requires.type_checks.1 (ap reverse c.requires.empty)

pub apply-requires : goal.apply-requires
apply-requires c =
    fits_op c.args.row.now c.args.vars.now c.args.lines.now c.loop-op.index c.in-Some.op.now (reverse c.loop-op.operands.items) (sym c.op.ensures.op ∙ ap option_copied c.in-Some.is) c.loop-op.invariant

pub returns-in_err-next-clause-value : goal.returns-in_err-next-clause-value
returns-in_err-next-clause-value c =
    let refused : Evaluates (evaluated c.args.lines.now c.args.row.now c.args.vars.now) (Err c.in_err-next.field-0.0) =
    refused_op c.args.row.now c.args.vars.now c.args.lines.now c.loop-op.index c.in-Some.op.now (reverse c.loop-op.operands.items) c.in_err-next.field-0.0 (sym c.op.ensures.op ∙ ap option_copied c.in-Some.is)
    c.loop-op.invariant c.in_err-next.ensures.0 in
    search rules

pub returns-in_err-next-clause-never_stuck : goal.returns-in_err-next-clause-never_stuck
returns-in_err-next-clause-never_stuck c = evaluated_some c.args.lines.now c.args.row.now c.args.vars.now c.requires.type_checks.0 c.requires.type_checks.1

pub loop-op-smaller : goal.loop-op-smaller
loop-op-smaller c =
    (going_op c.args.row.now c.args.vars.now c.args.lines.now c.loop-op.index c.line_after-index.result c.in-Some.op.now (reverse c.loop-op.operands.items) (reverse c.apply.new.operands.items) c.in_ok-next.next
    (sym c.op.ensures.op ∙ ap option_copied c.in-Some.is) c.loop-op.invariant c.in_ok-next.ensures c.line_after-index.ensures).later

pub loop-op-preserved : goal.loop-op-preserved
loop-op-preserved c =
    (going_op c.args.row.now c.args.vars.now c.args.lines.now c.loop-op.index c.line_after-index.result c.in-Some.op.now (reverse c.loop-op.operands.items) (reverse c.apply.new.operands.items) c.in_ok-next.next
    (sym c.op.ensures.op ∙ ap option_copied c.in-Some.is) c.loop-op.invariant c.in_ok-next.ensures c.line_after-index.ensures).going

pub pop-requires : goal.pop-requires
pop-requires c =
    let ended = going_end c.args.row.now c.args.vars.now c.args.lines.now c.loop-op.index (reverse c.loop-op.operands.items) (sym c.op.ensures.op ∙ ap option_copied c.in_default.is) c.loop-op.invariant in
    let one : length (reverse c.loop-op.operands.items) ≡ 1 = ap length ended.alone in
    omega (arith, one, length-reverse c.loop-op.operands.items, c.loop-op.operands.ok.0)

pub returns-clause-value : goal.returns-clause-value
returns-clause-value c =
    ended_value c.args.row.now c.args.vars.now c.args.lines.now (reverse c.loop-op.operands.items) (reverse c.pop.new.operands.items) c.pop.result
    (going_end c.args.row.now c.args.vars.now c.args.lines.now c.loop-op.index (reverse c.loop-op.operands.items) (sym c.op.ensures.op ∙ ap option_copied c.in_default.is) c.loop-op.invariant) c.pop.ensures

pub returns-clause-never_stuck : goal.returns-clause-never_stuck
returns-clause-never_stuck c = evaluated_some c.args.lines.now c.args.row.now c.args.vars.now c.requires.type_checks.0 c.requires.type_checks.1
