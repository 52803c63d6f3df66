use Rattle.std.proofs.Common.{◌+◌, refl, sym, ap, ◌∙◌, Some, None}
use Rattle.std.specs.Prelude.{option_map}
use Rattle.std.specs.Option.{option_copied}
use Rattle.psm_tablecode.specs.Aims.{of_four, seen}
use Rattle.psm_tablecode.proofs.Windows.{four_by, op_at}
use Rattle.psm_tablecode.proofs.asking.four_at.Goals as goal

pub returns-in_err-left : goal.returns-in_err-left
returns-in_err-left c =
    ap (option_map seen) c.from_residual.ensures
    ∙ four_by (of_four c.args.aim c.args.column c.args.vars.now) c.args.lines.now c.args.at None (op_at c.args.lines.now (c.args.at + 1)) (op_at c.args.lines.now (c.args.at + 2)) (op_at c.args.lines.now (c.args.at + 3))
    (sym (ap option_copied c.in_err-left.was) ∙ c.op.ensures.op) refl refl refl

pub returns-in_err-low : goal.returns-in_err-low
returns-in_err-low c =
    ap (option_map seen) c.from_residual-in_err-low.ensures
    ∙ four_by (of_four c.args.aim c.args.column c.args.vars.now) c.args.lines.now c.args.at (Some c.in_ok-left.left.now) None (op_at c.args.lines.now (c.args.at + 2)) (op_at c.args.lines.now (c.args.at + 3))
    (sym (ap option_copied c.in_ok-left.was) ∙ c.op.ensures.op) (sym (ap option_copied c.in_err-low.was) ∙ c.op-2.ensures.op) refl refl

pub returns-in_err-high : goal.returns-in_err-high
returns-in_err-high c =
    ap (option_map seen) c.from_residual-in_err-high.ensures
    ∙ four_by (of_four c.args.aim c.args.column c.args.vars.now) c.args.lines.now c.args.at (Some c.in_ok-left.left.now) (Some c.in_ok-low.low.now) None (op_at c.args.lines.now (c.args.at + 3))
    (sym (ap option_copied c.in_ok-left.was) ∙ c.op.ensures.op) (sym (ap option_copied c.in_ok-low.was) ∙ c.op-2.ensures.op) (sym (ap option_copied c.in_err-high.was) ∙ c.op-3.ensures.op) refl

pub returns-in_err-test : goal.returns-in_err-test
returns-in_err-test c =
    ap (option_map seen) c.from_residual-in_err-test.ensures
    ∙ four_by (of_four c.args.aim c.args.column c.args.vars.now) c.args.lines.now c.args.at (Some c.in_ok-left.left.now) (Some c.in_ok-low.low.now) (Some c.in_ok-high.high.now) None
    (sym (ap option_copied c.in_ok-left.was) ∙ c.op.ensures.op) (sym (ap option_copied c.in_ok-low.was) ∙ c.op-2.ensures.op) (sym (ap option_copied c.in_ok-high.was) ∙ c.op-3.ensures.op) (sym (ap option_copied c.in_err-test.was) ∙ c.op-4.ensures.op)

pub returns : goal.returns
returns c =
    c.made_of_four.ensures
    ∙ four_by (of_four c.args.aim c.args.column c.args.vars.now) c.args.lines.now c.args.at (Some c.in_ok-left.left.now) (Some c.in_ok-low.low.now) (Some c.in_ok-high.high.now) (Some c.in_ok-test.test.now)
    (sym (ap option_copied c.in_ok-left.was) ∙ c.op.ensures.op) (sym (ap option_copied c.in_ok-low.was) ∙ c.op-2.ensures.op) (sym (ap option_copied c.in_ok-high.was) ∙ c.op-3.ensures.op) (sym (ap option_copied c.in_ok-test.was) ∙ c.op-4.ensures.op)
