use Rattle.std.proofs.Common.{◌+◌, refl, sym, ap, ◌∙◌, Some, None}
use Rattle.std.specs.Prelude.{option_map}
use Rattle.std.specs.Option.{option_copied}
use Rattle.psm_tablecode.specs.Aims.{of_three, seen}
use Rattle.psm_tablecode.proofs.Windows.{op_at, three_by}
use Rattle.psm_tablecode.proofs.asking.three_at.Goals as goal

pub returns-in_err-left : goal.returns-in_err-left
returns-in_err-left c =
    ap (option_map seen) c.from_residual.ensures
    ∙ three_by (of_three c.args.aim c.args.column c.args.vars.now) c.args.lines.now c.args.at None (op_at c.args.lines.now (c.args.at + 1)) (op_at c.args.lines.now (c.args.at + 2))
    (sym (ap option_copied c.in_err-left.was) ∙ c.op.ensures.op) refl refl

pub returns-in_err-right : goal.returns-in_err-right
returns-in_err-right c =
    ap (option_map seen) c.from_residual-in_err-right.ensures
    ∙ three_by (of_three c.args.aim c.args.column c.args.vars.now) c.args.lines.now c.args.at (Some c.in_ok-left.left.now) None (op_at c.args.lines.now (c.args.at + 2))
    (sym (ap option_copied c.in_ok-left.was) ∙ c.op.ensures.op) (sym (ap option_copied c.in_err-right.was) ∙ c.op-2.ensures.op) refl

pub returns-in_err-test : goal.returns-in_err-test
returns-in_err-test c =
    ap (option_map seen) c.from_residual-in_err-test.ensures
    ∙ three_by (of_three c.args.aim c.args.column c.args.vars.now) c.args.lines.now c.args.at (Some c.in_ok-left.left.now) (Some c.in_ok-right.right.now) None
    (sym (ap option_copied c.in_ok-left.was) ∙ c.op.ensures.op) (sym (ap option_copied c.in_ok-right.was) ∙ c.op-2.ensures.op) (sym (ap option_copied c.in_err-test.was) ∙ c.op-3.ensures.op)

pub returns : goal.returns
returns c =
    c.made_of_three.ensures
    ∙ three_by (of_three c.args.aim c.args.column c.args.vars.now) c.args.lines.now c.args.at (Some c.in_ok-left.left.now) (Some c.in_ok-right.right.now) (Some c.in_ok-test.test.now)
    (sym (ap option_copied c.in_ok-left.was) ∙ c.op.ensures.op) (sym (ap option_copied c.in_ok-right.was) ∙ c.op-2.ensures.op) (sym (ap option_copied c.in_ok-test.was) ∙ c.op-3.ensures.op)
